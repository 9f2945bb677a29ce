-- Versions whose manifests were read, by their numbers.
use Rattle.std.specs.Prelude.{ℕ, Bool, true, false, not, List, slice_get, Option, Some, None}
use Rattle.ips_request.specs.declared.read.Read.{Read}

-- the version is obsolete
abbrev pub is_taken_out : Option Read → Bool
is_taken_out None = false
is_taken_out (Some read) = read.gone

-- the version is installed
abbrev pub is_installed_at : Option Read → Bool
is_installed_at None = false
is_installed_at (Some read) = read.stands

-- the version with this number is obsolete
abbrev pub is_gone_at : List Read → ℕ → Bool
is_gone_at reads i = is_taken_out (slice_get reads i)

-- the version with this number is installed
abbrev pub stands_at : List Read → ℕ → Bool
stands_at reads i = is_installed_at (slice_get reads i)

-- the answers are the same
abbrev pub is_same : Bool → Bool → Bool
is_same x true = x
is_same x false = not x
