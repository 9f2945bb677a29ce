use Rattle.std.proofs.Common.{◌≡◌, ◌++◌}
use Rattle.ips_filter.specs.View.{found_pattern}
use Rattle.ips_filter.proofs.Views.{seen}
use Rattle.ips_filter.proofs.Facets.{Facets, Longest}
use Rattle.ips_filter.proofs.settings.Settings.facet.Given as goal

abbrev pub invariant-loop-pattern : goal.invariant-loop-pattern
invariant-loop-pattern l = (front : Facets) × (l.self.facets ≡ front ++ seen (λ b. b) l.pattern-iterator) × Longest front l.name (found_pattern l.longest)
