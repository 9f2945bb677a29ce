use Rattle.std.proofs.Common.{true, refl}
use Rattle.ips_operations.specs.changing.Decides.{asked_of}
use Rattle.ips_laws.proofs.answers.Answers.{stand_once}
use Rattle.ips_laws.proofs.answers.Causes.{cause_of}
use Rattle.ips_laws.proofs.answers.Changing.{changing_once}
use Rattle.ips_laws.proofs.answers.Creating.{creating_once}
use Rattle.ips_laws.proofs.answers.Fixing.{fixing_once}
use Rattle.ips_laws.proofs.answers.Showing.{showing_once}
use Rattle.ips_laws.proofs.answers.Meaning.{means_once, means_or_fails}
use Rattle.ips_history.specs.Directories.{image_for}
use Rattle.ips_history.specs.declared.effect.Effect.TheVariants as effect
use Rattle.ips_laws.proofs.answers.laws.cause_is_answered.Goals as goal

pub returns-clause-caused : goal.returns-clause-caused
returns-clause-caused g c = λ command moment old new told done tells reads. cause_of g.F.Source.outside g.S.Source.outside g.P.Spawner.running old new tells reads told command moment done

pub returns-clause-answered : goal.returns-clause-answered
returns-clause-answered g c = λ command moment old new outcome told stands done tells reads fixed firm.
    let o = g.F.Source.outside in
    let q = g.S.Source.outside in
    let held = (o.state old.folder).held in
    let repository = (q.state old.source).held in
    let formed = g.met.F.Source.sane.formed old.folder tells in
    stand_once command moment repository held outcome told fixed firm
    (showing_once means_once c.unmeant_is_one.ensures means_or_fails held)
    (changing_once c.causes_are_one.ensures c.next_excludes_causes.ensures c.plans_are_one.ensures c.unplanned_is_one.ensures c.plan_excludes_causes.ensures (asked_of command moment true repository held) refl formed)
    (λ z. creating_once c.creation_steps_are_one.ensures c.uncreated_is_one.ensures c.creation_excludes_causes.ensures z (image_for effect.Creates held))
    (λ z. fixing_once c.want_is_one.ensures c.unmeant_is_one.ensures c.want_or_fault.ensures c.repair_steps_are_one.ensures c.unrepaired_is_one.ensures c.repair_excludes_causes.ensures z held)
    stands (cause_of o q g.P.Spawner.running old new tells reads told command moment done)
