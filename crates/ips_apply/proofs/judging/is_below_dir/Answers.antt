use Rattle.std.proofs.Common.{◌≡◌, Some, None, sym, ◌∙◌}
use Rattle.ips_text.specs.Ancestry.{parent}
use Rattle.ips_steps.specs.Steps.{path_of}
use Rattle.ips_steps.specs.View.{step_of}
use Rattle.ips_apply.proofs.Changes.{known}
use Rattle.ips_apply.proofs.Seen.{known_stands}
use Rattle.ips_apply.proofs.judging.is_below_dir.Goals as goal

-- a directory that is known wasn't looked at
pub returns-then-tells-clause-found : goal.returns-then-tells-clause-found
returns-then-tells-clause-found g c = λ told.
    let p = path_of (step_of c.args.step.now) in
    sym (known_stands (g.F.Source.outside.state c.args.folder.now).held c.args.known.now c.in-Some.dir.now.bytes p (g.met.F.Source.sane.formed c.args.folder.now told) (c.requires.known told) (sym c.tells.ensures ∙ c.if-tells.true)
    (known c.args.above c.in-Some.dir (parent p ≡ None) (λ d. parent p ≡ Some d.now.bytes) c.in-Some.is c.requires.above))
