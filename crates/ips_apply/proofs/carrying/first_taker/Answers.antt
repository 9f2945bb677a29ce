use Rattle.std.proofs.Common.{sym, ◌∙◌, ap, ◌+◌}
use Rattle.ips_steps.specs.View.{step_of, sort_of}
use Rattle.ips_apply.proofs.Takers.{none_yet, is_first, none_at_all}
use Rattle.ips_apply.proofs.carrying.first_taker.Goals as goal

pub loop-kind-preserved : goal.loop-kind-preserved
loop-kind-preserved g c = (
  ap (λ n. n + 1) c.loop-kind.invariant.0,
  none_yet (λ k. (goal.Kind-dyn g (k.vtable, k.value)).sorts k.value) (λ k. (goal.Kind-dyn g (k.vtable, k.value)).finished k.value) (sort_of (step_of c.args.step.now)) c.args.kinds.now c.loop-kind.kind-index c.kind-item.result c.kind-item.is
      (sym c.takes.ensures ∙ c.if-takes.false) c.loop-kind.invariant.1,
)

pub returns-then-takes-clause-first : goal.returns-then-takes-clause-first
returns-then-takes-clause-first g c =
    rw c.loop-kind.invariant.0
    (is_first (λ k. (goal.Kind-dyn g (k.vtable, k.value)).sorts k.value) (λ k. (goal.Kind-dyn g (k.vtable, k.value)).finished k.value) (sort_of (step_of c.args.step.now)) c.args.kinds.now c.loop-kind.kind-index c.kind-item.result
    c.loop-kind-test.true c.kind-item.is (sym c.takes.ensures ∙ c.if-takes.true) c.loop-kind.invariant.1)

pub returns-clause-none : goal.returns-clause-none
returns-clause-none g c =
    none_at_all (λ k. (goal.Kind-dyn g (k.vtable, k.value)).sorts k.value) (λ k. (goal.Kind-dyn g (k.vtable, k.value)).finished k.value) (sort_of (step_of c.args.step.now)) c.args.kinds.now c.loop-kind.kind-index c.loop-kind-test.false c.loop-kind.invariant.1
