-- Things that are kept under their names.
use Rattle.std.specs.Prelude.{◌≡◌, ℕ, List, map, Option}
use Rattle.std.specs.List.{AllByRecursion}
use Rattle.std.specs.Map.{lookup}
use Rattle.std.specs.BTreeMap.{is_at}
use Rattle.std.specs.Ordering.{nat_cmp}
use Rattle.std.specs.Cmp.Lexicographic.{slice_cmp}
use Rattle.ips_state.specs.State.{Ascend}
use Rattle.ips_asked.specs.Named.{latest}

-- each thing stands under its name
abbrev pub AreKeyed : {A : Type 0} → (A → List ℕ) → List (List ℕ × A) → Type 0
AreKeyed name_of entries = AllByRecursion (λ e. name_of e.1 ≡ e.0) entries

-- what stands under a name
abbrev pub found : {A : Type 0} → List ℕ → List (List ℕ × A) → Option A
found name entries = lookup (is_at (slice_cmp nat_cmp name)) entries

-- the things, by their names
pub record IsListed {A : Type 0} (name_of : A → List ℕ) (entries : List (List ℕ × A)) (items : List A) : Type 0 where
  pub order : Ascend (map name_of items)
  pub each : (name : List ℕ) → latest name_of name items ≡ found name entries
