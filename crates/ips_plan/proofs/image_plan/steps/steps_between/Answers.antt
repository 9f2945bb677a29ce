use Rattle.std.proofs.Common.{List, ℕ, sym, subst}
use Rattle.std.specs.Prelude.{IsTrue, OnOk}
use Rattle.ips_outside.specs.State.{State}
use Rattle.ips_due.specs.Due.{Due}
use Rattle.ips_image_steps.specs.Answers.{IfUnmovable}
use Rattle.ips_plan.specs.image_plan.Steps.{HasOver}
use Rattle.ips_plan.proofs.image_plan.steps.steps_between.Goals as goal

pub steps_over-answer-requires-clause-found : goal.steps_over-answer-requires-clause-found
steps_over-answer-requires-clause-found g c = λ told bytes. rw c.in-Ok.ensures.reads.kept (c.in-Ok.ensures.found (subst IsTrue c.in-Ok.ensures.reads.call.same_kind told) bytes)

pub steps_over-answer-requires-clause-over : goal.steps_over-answer-requires-clause-over
steps_over-answer-requires-clause-over g c = λ told bytes. rw c.in-Ok.ensures.reads.kept (_, c.in-Ok.ensures.over (subst IsTrue c.in-Ok.ensures.reads.call.same_kind told) bytes)

pub returns-in-Ok-clause-over : goal.returns-in-Ok-clause-over
returns-in-Ok-clause-over g c = λ told.
    let reads = c.in-Ok.ensures.reads in
    let later = g.F.Source.outside.state c.outstanding.new.source in
    let answer = c.steps_over-answer.result in
    subst (λ (s : State). OnOk answer (HasOver c.args.due.now s.held)) reads.kept
    (subst (λ (d : Due). OnOk answer (HasOver d later.held)) c.parts-parts.ensures (c.steps_over-answer.ensures.over (subst IsTrue (sym reads.call.same_kind) told)))

pub returns-in-Ok-clause-over_hindered : goal.returns-in-Ok-clause-over_hindered
returns-in-Ok-clause-over_hindered g c = λ told.
    let reads = c.in-Ok.ensures.reads in
    let later = g.F.Source.outside.state c.outstanding.new.source in
    let answer = c.steps_over-answer.result in
    subst (λ (s : State). IfUnmovable answer (λ (p : List ℕ). HasOver c.args.due.now s.held)) reads.kept
    (subst (λ (d : Due). IfUnmovable answer (λ (p : List ℕ). HasOver d later.held)) c.parts-parts.ensures (c.steps_over-answer.ensures.over_hindered (subst IsTrue (sym reads.call.same_kind) told)))
