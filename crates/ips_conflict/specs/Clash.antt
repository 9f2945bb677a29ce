-- Clashes among placed actions, and the first of them.
use Rattle.std.specs.Prelude.{◌≡◌, ◌≢◌, ℕ, Bool, true, false, ◌&&◌, ◌||◌, ◌==◌, if◌then◌else◌, List, [], ◌∷◌, ◌++◌, Option, Some, None, slice_get, codes}
use Rattle.std.specs.List.{list_any}
use Rattle.std.specs.Option.{option_map_or, option_cmp}
use Rattle.std.specs.Fmt.{decimal}
use Rattle.std.specs.declared.cmp.Ordering.{Ordering}
use Rattle.std.specs.declared.cmp.Ordering.TheVariants.{Less, Greater}
use Rattle.std.specs.Ordering.{nat_cmp, on, then_cmp}
use Rattle.std.specs.Cmp.Lexicographic.{slice_cmp}
use Rattle.ips_text.specs.Ancestry.{is_below}
use Rattle.ips_action.specs.declared.kind.ActionKind.TheVariants.{File, Hardlink}
use Rattle.ips_action.specs.Attrs.{is_same}
use Rattle.ips_action.specs.Action.{Fields}
use Rattle.ips_conflict.specs.declared.placed.Placed.{Placed}
use Rattle.ips_conflict.specs.declared.placed.Sort.TheVariants.{Path}
use Rattle.ips_conflict.specs.declared.clashing.Rule.{Rule}
use Rattle.ips_conflict.specs.declared.clashing.Rule.TheVariants.{Mediator, Kinds, Attributes, Deliverers, Below, Target}
use Rattle.ips_conflict.specs.declared.clashing.Clash.{Clash}
use Rattle.ips_conflict.specs.Key.{Key, key_of, sort_of, sort_rank, is_dir, is_legacy}
use Rattle.ips_conflict.specs.Alike.{led_to, takes_place, has}
use Rattle.ips_conflict.specs.Verdict.{rule_rank, breaks}
use Rattle.ips_conflict.specs.Order.{place_cmp}

-- This action stands at the place and has this key.
pub record HasKey (placed : List Placed) (key : Key) (i : ℕ) (p : Placed) : Type 0 where
  pub here : slice_get placed i ≡ Some p
  pub key_is : key_of p ≡ Some key

-- The key of a path.
abbrev pub path_key : List ℕ → Key
path_key path = record { sort = Path; text = path }

-- The key of the action is a path.
abbrev pub has_path_key : Placed → Bool
has_path_key p = option_map_or (λ sort. sort_rank sort == 0) (sort_of p.action.kind) false

-- ---- what a clash is about

-- A clash by the places of its actions: over which key, by which rule, and between which two. Nothing in the second place is the image itself.
pub record Conflict : Type 0 where
  pub key : Key
  pub rule : Rule
  pub first : ℕ
  pub second : Option ℕ

-- Two actions of one key break the rule, the first of them the earlier one.
pub record IsPair (placed : List Placed) (c : Conflict) : Type 0 where
  pub other : ℕ
  pub a : Placed
  pub b : Placed
  pub second : c.second ≡ Some other
  pub a_key : HasKey placed c.key c.first a
  pub b_key : HasKey placed c.key other b
  pub earlier : place_cmp placed c.first other ≡ Less
  pub broken : breaks c.rule a.action b.action ≡ true

-- An entry of a legacy package stands among the actions.
abbrev pub has_legacy : List Placed → Bool
has_legacy placed = list_any (λ p. is_legacy p.action.kind) placed

-- The image itself keeps something below the path: its records below `var`, and the entries of legacy packages, where one stands, below `var/sadm/pkg`.
abbrev pub is_held_by : Bool → List ℕ → Bool
is_held_by legacy path = is_same path (codes "var") || (legacy && (is_same path (codes "var/sadm") || is_same path (codes "var/sadm/pkg")))

-- The same, for these actions.
abbrev pub is_held : List Placed → List ℕ → Bool
is_held placed path = is_held_by (has_legacy placed) path

-- The image itself, or an action where it doesn't, wants something below the path.
abbrev pub IsAbove : List Placed → List ℕ → Option ℕ → Type 0
IsAbove placed path None = is_held placed path ≡ true
IsAbove placed path (Some j) = (is_held placed path ≡ false) × (below : List ℕ) × (q : Placed) × HasKey placed (path_key below) j q × (is_below path below ≡ true)

-- An action gives a path as other than a directory, and something is wanted below it.
pub record IsObstacle (placed : List Placed) (c : Conflict) : Type 0 where
  pub path : List ℕ
  pub a : Placed
  pub of_path : c.key ≡ path_key path
  pub a_key : HasKey placed c.key c.first a
  pub other : is_dir a.action.kind ≡ false
  pub above : IsAbove placed path c.second

-- The file that takes the place of others comes first, then the earlier one.
abbrev pub file_rank : List Placed → ℕ → ℕ
file_rank placed i = option_map_or (λ p. if takes_place p.action then 0 else 1) (slice_get placed i) 1

-- How two files at one path stand to one another.
abbrev pub file_cmp : List Placed → ℕ → ℕ → Ordering
file_cmp placed = then_cmp (on (file_rank placed) nat_cmp) (place_cmp placed)

-- A file stands at the path.
pub record IsFileAt (placed : List Placed) (path : List ℕ) (i : ℕ) (p : Placed) : Type 0 where
  pub at : HasKey placed (path_key path) i p
  pub file : p.action.kind ≡ File

-- The file counts at the path: no other file there comes before it.
pub record Counts (placed : List Placed) (path : List ℕ) (i : ℕ) (p : Placed) : Type 0 where
  pub at : IsFileAt placed path i p
  pub first : (j : ℕ) (q : Placed) → IsFileAt placed path j q → file_cmp placed i j ≢ Greater

-- A file may be missing where its package is installed: it is kept as legacy, abandon or install-only.
abbrev pub may_be_missing : Fields → Bool
may_be_missing a = has (codes "preserve") (codes "legacy") a || has (codes "preserve") (codes "abandon") a || has (codes "preserve") (codes "install-only") a

-- A file counts at the path that is never missing.
pub record HasSureFile (placed : List Placed) (path : List ℕ) : Type 0 where
  pub i : ℕ
  pub p : Placed
  pub counts : Counts placed path i p
  pub sure : may_be_missing p.action ≡ false

-- A hardlink leads to such a file.
pub record LeadsToFile (placed : List Placed) (a : Fields) : Type 0 where
  pub path : List ℕ
  pub led : led_to a ≡ Some path
  pub file : HasSureFile placed path

-- A hardlink leads to no such file.
pub record IsLost (placed : List Placed) (c : Conflict) : Type 0 where
  pub a : Placed
  pub a_key : HasKey placed c.key c.first a
  pub second : c.second ≡ Some c.first
  pub hard : a.action.kind ≡ Hardlink
  pub lost : LeadsToFile placed a.action → ⊥

-- A clash by a rule.
abbrev pub IsConflictBy : Rule → List Placed → Conflict → Type 0
IsConflictBy Mediator placed c = IsPair placed c
IsConflictBy Kinds placed c = IsPair placed c
IsConflictBy Attributes placed c = IsPair placed c
IsConflictBy Deliverers placed c = IsPair placed c
IsConflictBy Below placed c = IsObstacle placed c
IsConflictBy Target placed c = IsLost placed c

-- A clash among the placed actions.
abbrev pub IsConflict : List Placed → Conflict → Type 0
IsConflict placed c = IsConflictBy c.rule placed c

-- ---- the first clash

-- How two keys stand to one another: by their text, then by their sort.
abbrev pub key_cmp : Key → Key → Ordering
key_cmp = then_cmp (on (λ k. k.text) (slice_cmp nat_cmp)) (on (λ k. sort_rank k.sort) nat_cmp)

-- How two pairs stand to one another: by the first action, then by the second.
abbrev pub pair_cmp : List Placed → Conflict → Conflict → Ordering
pair_cmp placed = then_cmp (on (λ c. c.first) (place_cmp placed)) (on (λ c. c.second) (option_cmp (place_cmp placed)))

-- How two clashes stand to one another: by key, then by rule, then by pair.
abbrev pub conflict_cmp : List Placed → Conflict → Conflict → Ordering
conflict_cmp placed = then_cmp (then_cmp (on (λ c. c.key) key_cmp) (on (λ c. rule_rank c.rule) nat_cmp)) (pair_cmp placed)

-- The first clash: no other comes before it.
pub record IsFirst (placed : List Placed) (c : Conflict) : Type 0 where
  pub conflict : IsConflict placed c
  pub first : (d : Conflict) → IsConflict placed d → conflict_cmp placed c d ≢ Greater

-- ---- how a clash is told

-- The name of an action: its package's stem, a colon, and its line.
abbrev pub name_of : Placed → List ℕ
name_of p = p.stem ++ 58 ∷ decimal p.line

-- The name of what stands at a place, or of the image itself.
abbrev pub name_at : List Placed → Option ℕ → List ℕ
name_at placed None = codes "image:0"
name_at placed (Some i) = option_map_or name_of (slice_get placed i) []

-- The clash as it is told.
abbrev pub told : List Placed → Conflict → Clash
told placed c = record { key = c.key.text; first = name_at placed (Some c.first); second = name_at placed c.second; rule = c.rule }
