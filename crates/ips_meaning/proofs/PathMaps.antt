-- Paths kept in a map, each with a place or none.
use Rattle.std.proofs.Common.{◌≡◌, ◌∙◌, ◌||◌, ℕ, Bool, true, false, cond, List, Vec, Global, Option, Some, None, nat_cmp, refl, sym, ap}
use Rattle.std.specs.Prelude.{is_some}
use Rattle.std.specs.Map.{lookup}
use Rattle.std.specs.BTreeMap.{insert_entry}
use Rattle.std.specs.Option.{unwrap_or}
use Rattle.std.specs.Ordering.{is_eq}
use Rattle.std.specs.Cmp.Lexicographic.{slice_cmp}
use Rattle.std.proofs.lemmas.Bool.{true≢false}
use Rattle.ips_action.specs.Attrs.{is_same}
use Rattle.ips_action.proofs.KeyOrder.{same_true}
use Rattle.ips_conflict.proofs.Kept.{found_at, found_insert}
use Rattle.ips_meaning.specs.Places.{PathMap, found_in, has_path, place_of}

-- what the map has by the order of paths
pub found_by : (map : PathMap) (path key : List ℕ) (found : Option (Option ℕ)) → key ≡ path → found ≡ lookup (λ k. is_eq (slice_cmp nat_cmp key k.items)) map.entries → found_in map path ≡ found
found_by map path key found same is = ap (found_in map) (sym same) ∙ sym (found_at key map.entries) ∙ sym is

pub place_by : (map : PathMap) (path : List ℕ) (found : Option (Option ℕ)) → found_in map path ≡ found → unwrap_or found None ≡ place_of map path
place_by map path found is = sym (ap (λ (o : Option (Option ℕ)). unwrap_or o None) is)

abbrev pub IsPutIn : PathMap → PathMap → Vec ℕ Global → Option ℕ → Type 0
IsPutIn old new key place = new.entries ≡ insert_entry (λ a b. slice_cmp nat_cmp a.items b.items) old.entries key place

cut_place : (t : Bool) (place : Option ℕ) (found : Option (Option ℕ)) → unwrap_or (cond t (Some place) found) None ≡ cond t place (unwrap_or found None)
cut_place true place found = refl
cut_place false place found = refl

cut_path : (t : Bool) (place : Option ℕ) (found : Option (Option ℕ)) → is_some (cond t (Some place) found) ≡ (t || is_some found)
cut_path true place found = refl
cut_path false place found = refl

-- what the map has once a place is put at a path
pub put_place : (old new : PathMap) (key : Vec ℕ Global) (place : Option ℕ) (path : List ℕ) → IsPutIn old new key place → key.items ≡ path → (q : List ℕ) → place_of new q ≡ cond (is_same q path) place (place_of old q)
put_place old new key place path is at q =
    ap (λ (es : List (Vec ℕ Global × Option ℕ)). unwrap_or (lookup (λ k. is_same q k.items) es) None) is
    ∙ ap (λ (o : Option (Option ℕ)). unwrap_or o None) (found_insert key place q old.entries)
    ∙ cut_place (is_same q key.items) place (found_in old q)
    ∙ ap (λ (p : List ℕ). cond (is_same q p) place (place_of old q)) at

pub put_path : (old new : PathMap) (key : Vec ℕ Global) (place : Option ℕ) (path : List ℕ) → IsPutIn old new key place → key.items ≡ path → (q : List ℕ) → has_path new q ≡ (is_same q path || has_path old q)
put_path old new key place path is at q =
    ap (λ (es : List (Vec ℕ Global × Option ℕ)). is_some (lookup (λ k. is_same q k.items) es)) is
    ∙ ap (λ (o : Option (Option ℕ)). is_some o) (found_insert key place q old.entries)
    ∙ cut_path (is_same q key.items) place (found_in old q)
    ∙ ap (λ (p : List ℕ). is_same q p || has_path old q) at

-- a path that isn't there has no place
none_at : (found : Option (Option ℕ)) → is_some found ≡ false → unwrap_or found None ≡ None
none_at None h = refl
none_at (Some place) h = absurd (true≢false h)

-- a new path without a place leaves all places
pub put_none : (old new : PathMap) (key : Vec ℕ Global) (path : List ℕ) → IsPutIn old new key None → key.items ≡ path → has_path old path ≡ false → (q : List ℕ) → place_of new q ≡ place_of old q
put_none old new key path is at absent q = put_place old new key None path is at q ∙ go (is_same q path) refl
  where
    go : (t : Bool) → is_same q path ≡ t → cond t None (place_of old q) ≡ place_of old q
    go true same = sym (ap (place_of old) (same_true q path same) ∙ none_at (found_in old path) absent)
    go false same = refl

-- a path that is there is no new one
pub had_already : (map : PathMap) (path : List ℕ) → has_path map path ≡ true → (q : List ℕ) → has_path map q ≡ (is_same q path || has_path map q)
had_already map path has q = go (is_same q path) refl
  where
    go : (t : Bool) → is_same q path ≡ t → has_path map q ≡ (t || has_path map q)
    go true same = ap (has_path map) (same_true q path same) ∙ has
    go false same = refl
