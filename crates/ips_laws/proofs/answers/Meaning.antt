-- What the packages of states with the same records mean, whatever symbolic links say.
use Rattle.std.proofs.Common.{List, ap, subst}
use Rattle.ips_filter.specs.Settings.{Set}
use Rattle.ips_mediate.specs.declared.set.SetMediator.{SetMediator}
use Rattle.ips_state.specs.State.{Recorded}
use Rattle.ips_meaning.specs.Want.{PackagesMean}
use Rattle.ips_laws.proofs.Apart.{apart}
use Rattle.ips_laws.proofs.OneMeaning.{meaning_like}
use Rattle.ips_laws.proofs.plan_laws.Unmeant.{fails_too}
use Rattle.ips_laws.proofs.plan_laws.Wants.{want_like}
use Rattle.ips_laws.proofs.answers.Showing.{MeansOnce, MeansOrFails}

pub means_once : MeansOnce
means_once a b x y same h k =
    let settings = ap (λ (r : Recorded). r.settings) same in
    let mediators = ap (λ (r : Recorded). r.mediators) same in
    let there = subst (λ (s : Set). PackagesMean s b.mediators.items a.installed.items x) settings (subst (λ (m : List SetMediator). PackagesMean a.settings m a.installed.items x) mediators h) in
    want_like x y (meaning_like b.settings b.mediators.items a.installed.items b.installed.items x y (ap (λ (r : Recorded). r.installed) same) there k)

pub means_or_fails : MeansOrFails
means_or_fails a b why y same fails means = apart b.settings b.mediators.items b.installed.items y why means (fails_too a b same why fails)
