use Rattle.std.proofs.Common.{refl, sym, subst}
use Rattle.ips_steps.specs.Steps.{Fresh}
use Rattle.ips_steps.specs.View.{step_of}
use Rattle.ips_steps.specs.declared.step.Step as program
use Rattle.ips_apply.specs.Applied.{ChangedBy}
use Rattle.ips_apply.proofs.Changes.{call_at_path}
use Rattle.ips_apply.proofs.acting.make_dir.Goals as goal

pub returns-in-Fresh-clause-any_moment : goal.returns-in-Fresh-clause-any_moment
returns-in-Fresh-clause-any_moment g c = λ told.
    subst (λ (x : program.Step). ChangedBy g.F.Source.outside (step_of x) c.args.folder.now c.make_dir.new.self) (sym c.in-Fresh.is)
    (call_at_path g.F.Source.outside g.met.F.Source.sane (Fresh c.in-Fresh.mode c.in-Fresh.path.bytes) c.in-Fresh.path.bytes c.args.folder.now c.make_dir.new.self _ c.make_dir.result (λ q. refl) told c.make_dir.ensures)
