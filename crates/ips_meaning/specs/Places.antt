-- Which action counts at a path, and which paths are wanted. Only the building of what is wanted uses it.
use Rattle.std.specs.Prelude.{◌≡◌, ◌≢◌, ◌↔◌, ◌⊎◌, ◌==◌, ℕ, Bool, true, List, Option, Some, None, MatchOption, is_some, slice_get, if◌then◌else◌, codes}
use Rattle.std.specs.Option.{option_map_or, unwrap_or}
use Rattle.std.specs.Map.{lookup}
use Rattle.std.specs.Ordering.{nat_cmp, on, then_cmp, is_lt}
use Rattle.std.specs.declared.cmp.Ordering.{Ordering}
use Rattle.std.specs.declared.cmp.Ordering.TheVariants.{Greater}
use Rattle.std.specs.declared.vec.Vec.{Vec}
use Rattle.std.specs.BTreeMap.{BTreeMap}
use Rattle.std.specs.declared.alloc.Global.{Global}
use Rattle.ips_text.specs.Path.{IsPath}
use Rattle.ips_text.specs.Ancestry.{covers, is_below}
use Rattle.ips_action.specs.Attrs.{is_same}
use Rattle.ips_conflict.specs.declared.placed.Placed.{Placed}
use Rattle.ips_conflict.specs.Key.{value_of}
use Rattle.ips_conflict.specs.Order.{place_cmp}
use Rattle.ips_conflict.specs.Alike.{kind_place, takes_place}
use Rattle.ips_conflict.specs.Clash.{HasKey, path_key, has_path_key}
use Rattle.ips_meaning.specs.Want.{IsGiven, is_needed}

-- The path that an action gives, where it gives one.
abbrev pub given_path : Placed → Option (List ℕ)
given_path p = if has_path_key p then Some (value_of (codes "path") p.action) else None

-- The file that takes the place of others comes first, then other files, then what is no file.
abbrev pub rank_of : Placed → ℕ
rank_of p = if kind_place p.action.kind == 1 then (if takes_place p.action then 0 else 1) else 2

-- The same of what stands at a place.
abbrev pub rank_at : List Placed → ℕ → ℕ
rank_at kept i = option_map_or rank_of (slice_get kept i) 2

-- How two actions of one path stand to one another: by rank, then by stem and line.
abbrev pub count_cmp : List Placed → ℕ → ℕ → Ordering
count_cmp kept = then_cmp (on (rank_at kept) nat_cmp) (place_cmp kept)

-- Of the actions that give one path the first: none other there comes before this one.
pub record Leads (kept : List Placed) (path : List ℕ) (i : ℕ) : Type 0 where
  pub p : Placed
  pub at : HasKey kept (path_key path) i p
  pub first : (j : ℕ) (q : Placed) → HasKey kept (path_key path) j q → count_cmp kept i j ≢ Greater

-- Paths, each with the place of the action that counts there, or none.
abbrev pub PathMap : Type 0
PathMap = BTreeMap (Vec ℕ Global) (Option ℕ)

-- What a map has for a path.
abbrev pub found_in : PathMap → List ℕ → Option (Option ℕ)
found_in map path = lookup (λ k. is_same path k.items) map.entries

-- The map has the path.
abbrev pub has_path : PathMap → List ℕ → Bool
has_path map path = is_some (found_in map path)

-- The place that a map has for a path, where it has one.
abbrev pub place_of : PathMap → List ℕ → Option ℕ
place_of map path = unwrap_or (found_in map path) None

-- The map has with each path all that stand above it.
abbrev pub HoldsAbove : PathMap → Type 0
HoldsAbove map = (p q : List ℕ) → has_path map q ≡ true → is_below p q ≡ true → has_path map p ≡ true

-- The place is that of the action that counts at the path, or none where no action gives it.
abbrev pub IsLeading : List Placed → List ℕ → Option ℕ → Type 0
IsLeading kept path place = MatchOption place (IsGiven kept path → ⊥) (λ i. Leads kept path i)

-- At each given path is the place of the action that counts there.
abbrev pub AreLeading : List Placed → PathMap → Type 0
AreLeading kept map = (path : List ℕ) → IsLeading kept path (place_of map path)

-- The first of two places, of which the first may be none.
abbrev pub first_of : List Placed → Option ℕ → ℕ → ℕ
first_of kept None i = i
first_of kept (Some j) i = if is_lt (count_cmp kept i j) then i else j

-- The path or what stands above a given one, or what the image itself needs.
abbrev pub IsWantedPath : List Placed → List ℕ → Type 0
IsWantedPath kept path = (is_needed kept path ≡ true) ⊎ ((below : List ℕ) × IsGiven kept below × (covers path below ≡ true))

-- The map has just the wanted paths.
pub record AreWanted (kept : List Placed) (map : PathMap) : Type 0 where
  pub paths : (path : List ℕ) → (has_path map path ≡ true) ↔ IsWantedPath kept path
  pub proper : (path : List ℕ) → has_path map path ≡ true → IsPath path
