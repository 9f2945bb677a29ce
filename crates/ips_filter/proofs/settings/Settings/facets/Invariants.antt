use Rattle.std.proofs.Common.{◌≡◌, ◌++◌}
use Rattle.ips_filter.specs.View.{switched}
use Rattle.ips_filter.proofs.Views.{seen}
use Rattle.ips_filter.proofs.settings.Settings.facets.Given as goal

abbrev pub invariant-loop-pattern : goal.invariant-loop-pattern
invariant-loop-pattern l = l.self.facets ≡ switched l.all.items ++ seen (λ b. b) l.pattern-iterator
