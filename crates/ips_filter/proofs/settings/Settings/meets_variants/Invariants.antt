use Rattle.std.proofs.Common.{length}
use Rattle.ips_filter.specs.Admitted.{MeetsVariant}
use Rattle.ips_filter.proofs.Tags.{Passed}
use Rattle.ips_filter.proofs.settings.Settings.meets_variants.Given as goal

abbrev pub invariant-loop-attr : goal.invariant-loop-attr
invariant-loop-attr l = Passed (MeetsVariant l.self) l.attrs l.left

abbrev pub decreases-loop-attr : goal.decreases-loop-attr
decreases-loop-attr l = length l.left
