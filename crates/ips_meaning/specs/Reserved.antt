-- Where an image keeps its own records.
use Rattle.std.specs.Prelude.{◌≡◌, ◌≢◌, ℕ, Bool, true, ◌||◌, List, Some, codes}
use Rattle.std.specs.List.{Contains}
use Rattle.std.specs.declared.cmp.Ordering.TheVariants.{Greater}
use Rattle.std.specs.Ordering.{nat_cmp}
use Rattle.std.specs.Cmp.Lexicographic.{slice_cmp}
use Rattle.ips_text.specs.Ancestry.{covers, is_below}
use Rattle.ips_conflict.specs.declared.placed.Placed.{Placed}
use Rattle.ips_conflict.specs.Key.{key_of}
use Rattle.ips_conflict.specs.Clash.{path_key}

-- An action of the list gives this path.
abbrev pub GivesPath : List Placed → List ℕ → Type 0
GivesPath actions path = (p : Placed) × Contains actions p × (key_of p ≡ Some (path_key path))

-- The path is kept for the image's own records: it is at or below `var/pkg`, or below `var/sadm/pkg`.
abbrev pub is_reserved : List ℕ → Bool
is_reserved path = covers (codes "var/pkg") path || is_below (codes "var/sadm/pkg") path

-- An action gives this reserved path.
abbrev pub TakesReserved : List Placed → List ℕ → Type 0
TakesReserved admitted path = GivesPath admitted path × (is_reserved path ≡ true)

-- No action gives a reserved path.
abbrev pub IsFreeOfReserved : List Placed → Type 0
IsFreeOfReserved admitted = (path : List ℕ) → TakesReserved admitted path → ⊥

-- The reserved path is the least by its bytes that an action gives.
pub record IsLeastReserved (admitted : List Placed) (path : List ℕ) : Type 0 where
  pub taken : TakesReserved admitted path
  pub least : (other : List ℕ) → TakesReserved admitted other → slice_cmp nat_cmp path other ≢ Greater
