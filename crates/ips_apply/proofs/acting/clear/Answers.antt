use Rattle.std.proofs.Common.{◌≡◌, true, false, ℕ, List, sym, ◌∙◌, ap}
use Rattle.ips_text.specs.Ancestry.{covers}
use Rattle.ips_steps.specs.View.{step_of, sort_of}
use denote.Enum.Bare.{sameb}
use Rattle.ips_steps.specs.declared.step.Sort.{Sort}
use Rattle.ips_steps.specs.declared.step.Sort.TheVariants as sort
use Rattle.ips_steps.specs.contracts.step.Sort.{the_type}
use Rattle.ips_apply.proofs.Changes.{call_at_path, frees_path}
use Rattle.ips_apply.proofs.acting.clear.Goals as goal

pub returns-in_err-remove-clause-any_moment : goal.returns-in_err-remove-clause-any_moment
returns-in_err-remove-clause-any_moment g c = λ told.
    let s = step_of c.args.step.now in
    let other : sort_of s ≡ sort.Mode → ⊥ = λ is.
    let bad : false ≡ true = c.if-eq.ensures ∙ ap (λ (r : Sort). sameb the_type r sort.Mode) (c.sort.ensures ∙ is) in
    absurd (cc) in
    call_at_path g.F.Source.outside g.met.F.Source.sane s c.path.result.now.bytes c.args.folder.now c.remove.new.self _ c.remove.result (λ q. frees_path s other q ∙ ap (λ (p : List ℕ). covers p q) (sym c.path.ensures)) told c.remove.ensures

pub returns-clause-any_moment : goal.returns-clause-any_moment
returns-clause-any_moment g c = λ told.
    let s = step_of c.args.step.now in
    let other : sort_of s ≡ sort.Mode → ⊥ = λ is.
    let bad : false ≡ true = c.if-eq.ensures ∙ ap (λ (r : Sort). sameb the_type r sort.Mode) (c.sort.ensures ∙ is) in
    absurd (cc) in
    call_at_path g.F.Source.outside g.met.F.Source.sane s c.path.result.now.bytes c.args.folder.now c.remove.new.self _ c.remove.result (λ q. frees_path s other q ∙ ap (λ (p : List ℕ). covers p q) (sym c.path.ensures)) told c.remove.ensures
