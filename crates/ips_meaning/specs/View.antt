-- How a want is seen.
use Rattle.std.specs.Prelude.{ℕ, List, map}
use Rattle.std.specs.Ordering.{nat_cmp}
use Rattle.std.specs.List.Sorted.{IsStrictlySortedBy}
use Rattle.std.specs.Cmp.Lexicographic.{slice_cmp}
use Rattle.ips_meaning.specs.declared.entry.Entry.{Entry}
use Rattle.ips_meaning.specs.declared.wanted.Wanted.{Wanted}

-- The bytes of the paths.
abbrev pub paths_of : List Wanted → List (List ℕ)
paths_of wanted = map (λ w. w.path.bytes) wanted

-- The entries by the bytes of their paths.
abbrev pub entries_of : List Wanted → List (List ℕ × Entry)
entries_of wanted = map (λ w. (w.path.bytes, w.entry)) wanted

-- The paths stand in the order of their bytes, each once.
abbrev pub AreByPath : List Wanted → Type 0
AreByPath wanted = IsStrictlySortedBy (slice_cmp nat_cmp) (paths_of wanted)
