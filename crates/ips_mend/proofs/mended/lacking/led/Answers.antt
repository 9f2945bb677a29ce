use Rattle.std.proofs.Common.{length, false, ◌∙◌}
use Rattle.std.proofs.lemmas.Simd.{splat_is_map}
use Rattle.ips_change.specs.survey.Marks.{row_paths}
use Rattle.ips_change.proofs.survey.Placed.{count}
use Rattle.ips_mend.proofs.mended.lacking.led.Goals as goal

pub follow-requires-clause-none : goal.follow-requires-clause-none
follow-requires-clause-none c =
    c.deref_mut.ensures.value ∙ c.in_ok-led.ensures.items_if_clones_equal (λ y e. e) ∙ splat_is_map (row_paths c.args.rows.now) (length c.args.rows.now) false (count c.args.rows.now)
