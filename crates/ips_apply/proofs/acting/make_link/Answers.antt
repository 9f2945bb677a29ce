use Rattle.std.proofs.Common.{refl, sym, subst}
use Rattle.ips_steps.specs.Steps.{Symlink}
use Rattle.ips_steps.specs.View.{step_of}
use Rattle.ips_steps.specs.declared.step.Step as program
use Rattle.ips_apply.specs.Applied.{ChangedBy}
use Rattle.ips_apply.proofs.Changes.{call_at_path}
use Rattle.ips_apply.proofs.acting.make_link.Goals as goal

pub returns-in-Link-clause-any_moment : goal.returns-in-Link-clause-any_moment
returns-in-Link-clause-any_moment g c = λ told.
    subst (λ (x : program.Step). ChangedBy g.F.Source.outside (step_of x) c.args.folder.now c.make_link.new.self) (sym c.in-Link.is)
    (call_at_path g.F.Source.outside g.met.F.Source.sane (Symlink c.in-Link.path.bytes c.in-Link.target.bytes) c.in-Link.path.bytes c.args.folder.now c.make_link.new.self _ c.make_link.result (λ q. refl) told c.make_link.ensures)
