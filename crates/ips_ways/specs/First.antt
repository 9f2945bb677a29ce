-- The least of paths.
use Rattle.std.specs.Prelude.{ℕ, Bool, true, ◌&&◌, if◌then◌else◌, List, [], Option, Some, None, get_or}
use Rattle.std.specs.Ordering.{nat_cmp, is_lt}
use Rattle.std.specs.Cmp.Lexicographic.{slice_cmp}

-- the path at the place is less than the one found so far, or none is found
abbrev pub is_before : List (List ℕ) → ℕ → Option ℕ → Bool
is_before paths place None = true
is_before paths place (Some at) = is_lt (slice_cmp nat_cmp (get_or paths place []) (get_or paths at []))

-- what is found once the path at the place was looked at
abbrev pub next_first : List (List ℕ) → ℕ → Bool → Option ℕ → Option ℕ
next_first paths place blocked first = if blocked && is_before paths place first then Some place else first
