use Rattle.std.proofs.Common.{length, false, ◌∙◌}
use Rattle.std.proofs.lemmas.Simd.{splat_is_map}
use Rattle.ips_change.specs.survey.Marks.{row_paths}
use Rattle.ips_change.proofs.survey.Placed.{count}
use Rattle.ips_change.proofs.survey.below.marked_below.Goals as goal

pub mark_all-requires-clause-none : goal.mark_all-requires-clause-none
mark_all-requires-clause-none c =
    c.deref_mut.ensures.value ∙ c.in_ok-found.ensures.items_if_clones_equal (λ y e. e) ∙ splat_is_map (row_paths c.args.rows.now) (length c.args.rows.now) false (count c.args.rows.now)
