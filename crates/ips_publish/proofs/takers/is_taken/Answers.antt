use Rattle.std.proofs.Common.{sym, ◌∙◌}
use Rattle.ips_steps.specs.View.{step_of, sort_of}
use Rattle.ips_publish.proofs.Sorted.{taken_at}
use Rattle.ips_publish.proofs.takers.is_taken.Goals as goal

pub returns-then-kind_takes : goal.returns-then-kind_takes
returns-then-kind_takes g c = λ yes.
    taken_at (λ k. (goal.Kind-dyn g (k.vtable, k.value)).sorts k.value) (λ k. (goal.Kind-dyn g (k.vtable, k.value)).finished k.value) (sort_of (step_of c.args.step.now)) c.args.kinds.now c.loop-kind.kind-index c.kind-item.result
    c.loop-kind-test.true c.kind-item.is (sym c.kind_takes.ensures ∙ c.if-kind_takes.true)
