use Rattle.std.proofs.Common.{map, take, take_all, sym, ◌∙◌, ap, subst, refl, arith}
use Rattle.ips_text.specs.Ancestry.{covers}
use Rattle.ips_outside.specs.State.{nowhere}
use Rattle.ips_outside.proofs.Reading.{answered}
use Rattle.ips_folder.proofs.Runs.{begun, keeps_then}
use Rattle.ips_steps.specs.Private.{journal_name}
use Rattle.ips_steps.specs.View.{step_of}
use Rattle.ips_journal.specs.Writing.{IsWritten}
use Rattle.ips_commit.proofs.staging.write_steps.Goals as goal
use Rattle.ips_text.proofs.Lists.{map_item}

pub loop-step-init : goal.loop-step-init
loop-step-init g c = record { kind = refl; faults = refl; changes = omega arith; written = c.requires; touched = λ told q is. is; moments = λ told. begun g.F.Source.outside (covers journal_name) nowhere c.args.folder.now (g.met.F.Source.sane.only_now c.args.folder.now) }

pub step-requires : goal.step-requires
step-requires g c = λ told_now. (c.loop-step.invariant.written (sym c.loop-step.invariant.kind ∙ told_now)).sole

pub returns-in_err-step-clause-any_moment : goal.returns-in_err-step-clause-any_moment
returns-in_err-step-clause-any_moment g c = λ told.
    keeps_then g.F.Source.outside (covers journal_name) nowhere c.args.folder.now c.loop-step.folder c.step.new.folder (c.loop-step.invariant.moments told) (c.step.ensures.any_moment (c.loop-step.invariant.kind ∙ told))

pub loop-step-preserved : goal.loop-step-preserved
loop-step-preserved g c =
    let inv = c.loop-step.invariant in
    record {
      kind = c.step.ensures.same_kind ∙ inv.kind;
      changes = omega (arith, inv.changes, c.step.ensures.changes);
      faults = c.step.ensures.cause.steady (answered c.step.result _ c.in_ok-step.was) ∙ inv.faults;
      written = λ told. subst (IsWritten c.step.new.self (g.F.Source.outside.state c.step.new.folder).held) (sym (map_item step_of c.args.steps.now c.loop-step.step-index c.step-item.result c.loop-step-test.true c.step-item.is))
          (c.in_ok-step.ensures.written (inv.kind ∙ told) (map step_of (take c.loop-step.step-index c.args.steps.now)) (inv.written told));
      touched = λ told q is. c.step.ensures.touched (inv.kind ∙ told) q (inv.touched told q is);
      moments = λ told. keeps_then g.F.Source.outside (covers journal_name) nowhere c.args.folder.now c.loop-step.folder c.step.new.folder (inv.moments told) (c.step.ensures.any_moment (inv.kind ∙ told));
    }

pub returns-clause-written : goal.returns-clause-written
returns-clause-written g c = λ told.
    subst (IsWritten c.loop-step.writer (g.F.Source.outside.state c.loop-step.folder).held) (ap (map step_of) (take_all c.loop-step.step-index c.args.steps.now (omega arith))) (c.loop-step.invariant.written told)

pub returns-in_err-step-clause-touched : goal.returns-in_err-step-clause-touched
returns-in_err-step-clause-touched g c = λ told q is. c.step.ensures.touched (c.loop-step.invariant.kind ∙ told) q (c.loop-step.invariant.touched told q is)
