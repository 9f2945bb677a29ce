-- What is looked at in the search for the least reserved path.
use Rattle.std.specs.Prelude.{ℕ, List, Option, Some, None, if◌then◌else◌}
use Rattle.std.specs.Option.{option_and_then}
use Rattle.std.specs.Ordering.{nat_cmp, is_gt}
use Rattle.std.specs.Cmp.Lexicographic.{slice_cmp}
use Rattle.ips_conflict.specs.declared.placed.Placed.{Placed}
use Rattle.ips_meaning.specs.Reserved.{is_reserved}
use Rattle.ips_meaning.specs.Places.{given_path}

-- The path, where it is reserved.
abbrev pub if_reserved : List ℕ → Option (List ℕ)
if_reserved path = if is_reserved path then Some path else None

-- The reserved path that an action gives, where it gives one.
abbrev pub reserved_path_of : Placed → Option (List ℕ)
reserved_path_of p = option_and_then if_reserved (given_path p)

-- The lesser of two paths, of which the first may be none.
abbrev pub lesser_of : Option (List ℕ) → List ℕ → List ℕ
lesser_of None path = path
lesser_of (Some other) path = if is_gt (slice_cmp nat_cmp other path) then path else other
