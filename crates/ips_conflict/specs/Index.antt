-- What is looked up among placed actions. Only the search for the first clash uses it.
use Rattle.std.specs.Prelude.{◌≡◌, ◌↔◌, ℕ, ◌<◌, Bool, true, List, [], Option, Some, None, MatchOption, option_map, slice_get, length, if◌then◌else◌, codes}
use Rattle.std.specs.List.{Contains, list_any}
use Rattle.std.specs.Option.{option_eq, option_map_or}
use Rattle.std.specs.Ordering.{is_lt}
use Rattle.std.specs.Map.{lookup}
use Rattle.std.specs.declared.vec.Vec.{Vec}
use Rattle.std.specs.BTreeMap.{BTreeMap, get_by_text}
use Rattle.std.specs.BTreeSet.{BTreeSet}
use Rattle.std.specs.declared.alloc.Global.{Global}
use Rattle.std.specs.declared.string.String.{String}
use Rattle.ips_text.specs.Ancestry.{is_below}
use Rattle.ips_action.specs.Attrs.{is_same}
use Rattle.ips_conflict.specs.declared.placed.Placed.{Placed}
use Rattle.ips_conflict.specs.declared.index.Index.{Index}
use Rattle.ips_conflict.specs.Key.{key_of, value_of}
use Rattle.ips_conflict.specs.Verdict.{IsClashTable}
use Rattle.ips_conflict.specs.Clash.{HasKey, path_key, has_legacy, IsFileAt, Counts, file_cmp}

-- Places by the texts of keys.
abbrev pub Groups : Type 0
Groups = BTreeMap (String Global) (Vec ℕ Global)

-- The places at a text.
abbrev pub places_at : Groups → List ℕ → List ℕ
places_at groups text = option_map_or (λ g. g.items) (get_by_text groups text) []

-- The text of an action's key is this one.
abbrev pub has_text : Placed → List ℕ → Bool
has_text p text = option_eq is_same (option_map (λ k. k.text) (key_of p)) (Some text)

-- The places are those of the actions whose keys have this text.
abbrev pub IsGroup : List Placed → List ℕ → List ℕ → Type 0
IsGroup placed text members = (i : ℕ) → Contains members i ↔ ((p : Placed) × (slice_get placed i ≡ Some p) × (has_text p text ≡ true))

-- At each text are the places of the actions whose keys have it.
abbrev pub AreGroups : List Placed → Groups → Type 0
AreGroups placed groups = (text : List ℕ) → IsGroup placed text (places_at groups text)

-- The set has the path.
abbrev pub has_path : BTreeSet (Vec ℕ Global) → List ℕ → Bool
has_path set path = list_any (λ k. is_same path k.items) set.keys

-- The set has with each path all that stand above it.
abbrev pub HoldsAbove : BTreeSet (Vec ℕ Global) → Type 0
HoldsAbove set = (p q : List ℕ) → has_path set q ≡ true → is_below p q ≡ true → has_path set p ≡ true

-- An action gives a path below this one.
abbrev pub HasBelow : List Placed → List ℕ → Type 0
HasBelow placed path = (i : ℕ) × (below : List ℕ) × (p : Placed) × HasKey placed (path_key below) i p × (is_below path below ≡ true)

-- The paths below which actions stand.
abbrev pub AreAbove : List Placed → BTreeSet (Vec ℕ Global) → Type 0
AreAbove placed above = (path : List ℕ) → (has_path above path ≡ true) ↔ HasBelow placed path

-- The place that a map has for a path.
abbrev pub place_of : BTreeMap (Vec ℕ Global) ℕ → List ℕ → Option ℕ
place_of map path = lookup (λ k. is_same path k.items) map.entries

-- At each path is the file that counts there, where one stands.
abbrev pub AreFiles : List Placed → BTreeMap (Vec ℕ Global) ℕ → Type 0
AreFiles placed files = (path : List ℕ) → MatchOption (place_of files path) ((i : ℕ) (p : Placed) → IsFileAt placed path i p → ⊥) (λ i. (p : Placed) × Counts placed path i p)

-- The first of two files at one path, of which the one that was counted may be none.
abbrev pub first_counted : List Placed → Option ℕ → ℕ → ℕ
first_counted placed None i = i
first_counted placed (Some j) i = if is_lt (file_cmp placed i j) then i else j

-- The place that is counted at a path once one more file is seen.
abbrev pub winner_after : List Placed → Option ℕ → List ℕ → Placed → ℕ → Option ℕ
winner_after placed before path item i = if is_same path (value_of (codes "path") item.action) then Some (first_counted placed before i) else before

-- What is looked up is right.
pub record IsIndex (placed : List Placed) (index : Index) : Type 0 where
  pub groups : AreGroups placed index.groups
  pub above : AreAbove placed index.above
  pub files : AreFiles placed index.files
  pub legacy : index.legacy ≡ has_legacy placed
  pub places : (i : ℕ) → Contains index.places.items i ↔ (i < length placed)
  pub table : IsClashTable index.table
