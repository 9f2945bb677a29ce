use Rattle.std.proofs.Common.{◌≡◌, ◌||◌, ◌&&◌, not, ℕ, Bool, List, Some, sym, ◌∙◌, ap}
use Rattle.ips_text.specs.Ancestry.{parent}
use Rattle.ips_outside.specs.Tearing.{in_set}
use Rattle.ips_outside.proofs.Trees.{on_ok_to}
use Rattle.ips_steps.specs.Steps.{path_of}
use Rattle.ips_steps.specs.View.{step_of}
use Rattle.ips_rehearse.specs.Asked.{works_in}
use Rattle.ips_rehearse.proofs.Keys.{works_at, not_mode}
use Rattle.ips_rehearse.proofs.asking.add_first.Goals as goal

pub returns-in-Some : goal.returns-in-Some
returns-in-Some c =
    let dir = c.in-Some.dir.now in
    let at : parent (path_of (step_of c.args.step.now)) ≡ Some dir = ap parent (sym c.path.ensures) ∙ ap parent (sym c.bytes.ensures.value) ∙ c.in-Some.ensures.some in
    on_ok_to c.add_but.result ((q : List ℕ) → in_set c.add_but.new.paths q ≡ ((not (in_set c.args.given.now q) && works_in q (step_of c.args.step.now)) || in_set c.args.first.now q))
    (λ each q. each q ∙ ap (λ (b : Bool). (not (in_set c.args.given.now q) && b) || in_set c.args.first.now q) (works_at (step_of c.args.step.now) dir q (not_mode c.args.step.now c.in_default.not-Mode) at)) c.add_but.ensures
