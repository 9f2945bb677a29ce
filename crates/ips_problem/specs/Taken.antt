-- The packages that a choice selects.
use Rattle.std.specs.Prelude.{◌≡◌, ℕ, zero, suc, ◌<◌, ◌↔◌, List, [], ◌++◌, map, find, length, slice_get, slice_index, Option, Some, None, Contains}
use Rattle.std.specs.Option.{option_map, option_and_then, option_to_list}
use Rattle.std.specs.Str.{bytes_eq}
use Rattle.ips_refute.specs.Meaning.{pairs}
use Rattle.ips_state.specs.State.{Installed, Ascend}
use Rattle.ips_problem.specs.Posed.{Offer, StemRow, Posed, count_at, picked}

-- A choice has a candidate for each stem, by its number.
pub record IsChoice (p : Posed) (choice : List ℕ) : Type 0 where
  pub each : length choice ≡ length p.stems
  pub offered : (i : ℕ) → i < length choice → slice_index choice i < count_at (slice_get p.rows i)

-- the candidate with this number; absence offers nothing
abbrev pub offer_at : Option StemRow → Option ℕ → Option Offer
offer_at None k = None
offer_at (Some row) None = None
offer_at (Some row) (Some k) = option_and_then (λ o. o) (slice_get row.candidates k)

-- the package of a stem that is offered so
abbrev pub package_of : Option (List ℕ) → Option Offer → Option Installed
package_of None o = None
package_of (Some stem) None = None
package_of (Some stem) (Some offer) = Some (record { stem = stem; version = offer.version; lines = offer.lines })

-- The package that a choice selects of the stem with this number: the candidate that it has for the stem. None where that is
-- absence.
abbrev pub selected_at : Posed → List ℕ → ℕ → Option Installed
selected_at p choice i = package_of (slice_get p.stems i) (offer_at (slice_get p.rows i) (slice_get choice i))

-- the package with this stem among packages
abbrev pub package_with : List ℕ → List Installed → Option Installed
package_with stem packages = find (λ (q : Installed). bytes_eq stem q.stem) packages

-- The packages of a choice, by the bytes of their stems, each stem once: just those of the selection that the choice makes,
-- each at its version.
pub record AreTaken (p : Posed) (choice : List ℕ) (packages : List Installed) : Type 0 where
  pub order : Ascend (map (λ (q : Installed). q.stem) packages)
  pub each : (q : Installed) → Contains packages q ↔ ((i : ℕ) × (selected_at p choice i ≡ Some q))
  pub selection : (stem : List ℕ) → picked p (pairs choice) stem ≡ option_map (λ (q : Installed). q.version) (package_with stem packages)

-- the packages that a choice selects of so many first stems, in the order of their numbers
abbrev pub selected_below : Posed → List ℕ → ℕ → List Installed
selected_below p choice zero = []
selected_below p choice (suc n) = selected_below p choice n ++ option_to_list (selected_at p choice n)
