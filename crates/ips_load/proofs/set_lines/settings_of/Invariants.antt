use Rattle.std.proofs.Common.{◌≡◌, ℕ, List, take}
use Rattle.std.specs.List.{flat_map}
use Rattle.ips_filter.specs.Settings.{value_at}
use Rattle.ips_load.specs.HeadLines.{variant_in, facet_in}
use Rattle.ips_load.proofs.set_lines.settings_of.Given as goal

abbrev pub invariant-loop-line : goal.invariant-loop-line
invariant-loop-line l = ((q : List ℕ) → value_at l.settings.variants q ≡ value_at (flat_map variant_in (take l.line-index l.lines)) q) × ((q : List ℕ) → value_at l.settings.facets q ≡ value_at (flat_map facet_in (take l.line-index l.lines)) q)
