use Rattle.std.proofs.Common.{false, sym, subst}
use Rattle.std.proofs.lemmas.Bool.{or_parts}
use Rattle.ips_outside.specs.Change.{names}
use Rattle.ips_steps.specs.Steps.{Mode}
use Rattle.ips_steps.specs.View.{step_of}
use Rattle.ips_steps.specs.declared.step.Step as program
use Rattle.ips_apply.specs.Applied.{ChangedBy}
use Rattle.ips_apply.proofs.Changes.{mode_at}
use Rattle.ips_apply.proofs.acting.set_mode.Goals as goal

pub returns-in-Mode-clause-any_moment : goal.returns-in-Mode-clause-any_moment
returns-in-Mode-clause-any_moment g c = λ told.
    subst (λ (x : program.Step). ChangedBy g.F.Source.outside (step_of x) c.args.folder.now c.set_standing_mode.new.folder) (sym c.in-Mode.is)
    (mode_at g.F.Source.outside g.met.F.Source.sane (Mode c.in-Mode.mode c.in-Mode.path.bytes) c.in-Mode.path.bytes c.args.folder.now c.set_standing_mode.new.folder
    (λ q off. (or_parts (names (g.F.Source.outside.state c.args.folder.now).held c.in-Mode.path.bytes q) false off).0) (c.set_standing_mode.ensures.any_moment told))
