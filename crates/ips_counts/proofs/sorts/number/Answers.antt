use Rattle.std.proofs.Common.{◌≡◌, ◌+◌, map, take, Bool, sym, ◌∙◌, ap, arith}
use Rattle.ips_kinds.specs.Acts.{same_sort}
use Rattle.ips_kinds.specs.Tallies.{count_of_sort}
use Rattle.ips_steps.specs.View.{sort_of, step_of}
use Rattle.ips_text.proofs.Lists.{map_item}
use Rattle.ips_counts.proofs.Numbers.{number_behind, one_more_if}
use Rattle.ips_counts.proofs.sorts.number.Goals as goal
use Rattle.ips_counts.proofs.sorts.number.Goals.{then-is_of, else-is_of}

pub loop-step-preserved : goal.loop-step-preserved
loop-step-preserved c =
    let steps = c.args.steps.now in
    let i = c.loop-step.step-index in
    let step = c.step-item.result in
    let item = map_item step_of steps i step c.loop-step-test.true c.step-item.is in
    let number : count_of_sort c.args.sort (map step_of (take (i + 1) steps)) ≡ one_more_if (same_sort c.args.sort (sort_of (step_of step))) c.loop-step.count =
    ap (count_of_sort c.args.sort) item ∙ number_behind c.args.sort (map step_of (take i steps)) (step_of step)
    ∙ ap (one_more_if (same_sort c.args.sort (sort_of (step_of step)))) (sym c.loop-step.invariant.count) in
    record {
      count = elim c.if-is_of.branch [
        | then-is_of w ↦ w.count-is ∙ sym (number ∙ ap (λ (b : Bool). one_more_if b c.loop-step.count) (sym c.is_of.ensures ∙ w.if-is_of.true))
        | else-is_of w ↦ w.count-is ∙ sym (number ∙ ap (λ (b : Bool). one_more_if b c.loop-step.count) (sym c.is_of.ensures ∙ w.if-is_of.false))
      ];
      few = elim c.if-is_of.branch [
        | then-is_of w ↦ omega (arith, w.count-is, c.loop-step.invariant.few)
        | else-is_of w ↦ omega (arith, w.count-is, c.loop-step.invariant.few)
      ];
    }
