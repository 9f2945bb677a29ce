use Rattle.std.proofs.Common.{Some, refl, ◌∙◌, ap}
use Rattle.ips_steps.specs.View.{step_of, sort_of}
use Rattle.ips_kinds.specs.declared.kind.Act.{Act}
use Rattle.ips_kinds.proofs.Turns.{goes_on}
use Rattle.ips_outside.proofs.Reading.{answered}
use Rattle.ips_apply.proofs.Carried.{has_acts, tally_stays, first_turn, can_act, content_stays, changed_so_far, next_turn, last_turn}
use Rattle.ips_apply.proofs.carrying.carry_out.Goals as goal

pub loop-folder-init : goal.loop-folder-init
loop-folder-init g c = record { sorts = refl; finished = refl; turn = has_acts (sort_of (step_of c.args.step.now)); acts = first_turn g.F.Source.outside g.met.F.Source.sane (step_of c.args.step.now) c.args.folder.now }

pub perform-requires-clause-can : goal.perform-requires-clause-can
perform-requires-clause-can g c =
    can_act g.F.Source.outside g.met.F.Source.sane (step_of c.args.step.now) c.args.folder.now c.loop-folder.folder c.loop-folder.turn c.loop-folder.invariant.acts c.requires.can c.next_act-act.result c.next_act-act.ensures.act c.in_default.not-Finished

pub perform-requires-clause-mode : goal.perform-requires-clause-mode
perform-requires-clause-mode g c =
    content_stays g.F.Source.outside g.met.F.Source.sane (step_of c.args.step.now) c.args.folder.now c.loop-folder.folder c.loop-folder.turn c.loop-folder.invariant.acts c.requires.can c.next_act-act.result c.next_act-act.ensures.act c.in_default.not-Finished c.args.other_mode c.requires.mode

pub returns-in-Finished-clause-done : goal.returns-in-Finished-clause-done
returns-in-Finished-clause-done g c =
    last_turn g.F.Source.outside g.met.F.Source.sane (step_of c.args.step.now) c.args.folder.now c.loop-folder.folder c.loop-folder.turn c.loop-folder.invariant.acts c.requires.can (c.next_act-act.ensures.act ∙ ap (λ (a : Act). Some a) c.in-Finished.is)

pub returns-in_err-perform-clause-any_moment : goal.returns-in_err-perform-clause-any_moment
returns-in_err-perform-clause-any_moment g c =
    changed_so_far g.F.Source.outside g.met.F.Source.sane (step_of c.args.step.now) c.args.folder.now c.loop-folder.folder c.loop-folder.turn c.loop-folder.invariant.acts c.requires.can c.next_act-act.result c.next_act-act.ensures.act c.in_default.not-Finished
    c.perform.new.folder c.perform.ensures.any_moment

pub loop-folder-preserved : goal.loop-folder-preserved
loop-folder-preserved g c = record {
  sorts = c.next_act-act.ensures.sorts ∙ c.loop-folder.invariant.sorts;
  finished = c.next_act-act.ensures.tally ∙ tally_stays c.next_act-act.result _ c.in_default.not-Finished ∙ c.loop-folder.invariant.finished;
  turn = goes_on (sort_of (step_of c.args.step.now)) c.loop-folder.turn c.next_act-act.result c.next_act-act.ensures.act c.in_default.not-Finished;
  acts = next_turn g.F.Source.outside g.met.F.Source.sane (step_of c.args.step.now) c.args.folder.now c.loop-folder.folder c.loop-folder.turn c.loop-folder.invariant.acts c.requires.can c.next_act-act.result c.next_act-act.ensures.act c.in_default.not-Finished
      c.perform.new.folder c.perform.ensures.same_kind (c.perform.ensures.cause.steady (answered c.perform.result _ c.in_ok-perform.was)) c.perform.ensures.changes c.in_ok-perform.ensures.done c.perform.ensures.any_moment;
}
