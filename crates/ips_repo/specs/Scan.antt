-- The search for a mark line, byte by byte.
use Rattle.std.specs.Prelude.{ℕ, ◌+◌, Bool, false, ◌&&◌, ◌||◌, ◌==◌, nat_lt, if◌then◌else◌, List, slice_index, fold, Option, Some, None}
use Rattle.ips_repo.specs.Mark.{is_blank, mark}
use Rattle.ips_repo.specs.declared.mark.Scan.{Scan}

-- Whether a mark line has ended, and how many bytes of the mark the line has so far: none where it can't become a mark line.
pub record Scanned : Type 0 where
  pub found : Bool
  pub matched : Option ℕ

-- what the search keeps
abbrev pub seen : Scan → Scanned
seen s = record { found = s.found; matched = s.matched }

-- before the first byte
abbrev pub unscanned : Scanned
unscanned = record { found = false; matched = Some 0 }

-- the line so far is a mark line
abbrev pub is_whole : Option ℕ → Bool
is_whole None = false
is_whole (Some n) = n == 9

-- how many bytes of the mark the line has with one more byte, which is no blank
abbrev pub advanced : Option ℕ → ℕ → Option ℕ
advanced None byte = None
advanced (Some n) byte = if nat_lt n 9 && (byte == slice_index mark n) then Some (n + 1) else None

-- behind one more byte
abbrev pub stepped : Scanned → ℕ → Scanned
stepped s byte =
    if byte == 10
    then (record { found = s.found || is_whole s.matched; matched = Some 0 })
    else (if is_blank byte then s else record { found = s.found; matched = advanced s.matched byte })

-- behind these bytes
abbrev pub scanned : List ℕ → Scanned
scanned bytes = fold stepped unscanned bytes

-- there is a mark line, if the bytes end here
abbrev pub finds : Scanned → Bool
finds s = s.found || is_whole s.matched
