-- In which order placed actions stand: by stem, then by line. A place is a number in the list of all; where stem and line are the same, the earlier place comes first.
use Rattle.std.specs.Prelude.{ℕ, List, Option, option_map, slice_get}
use Rattle.std.specs.declared.cmp.Ordering.{Ordering}
use Rattle.std.specs.Ordering.{nat_cmp, on, then_cmp}
use Rattle.std.specs.Option.{option_cmp}
use Rattle.std.specs.Cmp.Lexicographic.{slice_cmp}
use Rattle.ips_conflict.specs.declared.placed.Placed.{Placed}

-- The stem at a place.
abbrev pub stem_at : List Placed → ℕ → Option (List ℕ)
stem_at placed i = option_map (λ p. p.stem) (slice_get placed i)

-- The line at a place.
abbrev pub line_at : List Placed → ℕ → Option ℕ
line_at placed i = option_map (λ p. p.line) (slice_get placed i)

-- How two places stand to one another.
abbrev pub place_cmp : List Placed → ℕ → ℕ → Ordering
place_cmp placed = then_cmp (then_cmp (on (stem_at placed) (option_cmp (slice_cmp nat_cmp))) (on (line_at placed) (option_cmp nat_cmp))) nat_cmp
