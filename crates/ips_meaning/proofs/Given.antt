-- The path that an action gives.
use Rattle.std.proofs.Common.{◌≡◌, ℕ, Bool, true, false, cond, List, Option, Some, None, refl, sym, ap, ◌∙◌}
use Rattle.std.specs.Prelude.{codes, option_map}
use Rattle.std.specs.Option.{option_map_or}
use Rattle.std.proofs.lemmas.Option.{none-some, same_Some}
use Rattle.ips_conflict.specs.declared.placed.Placed.{Placed}
use Rattle.ips_conflict.specs.declared.placed.Sort.{Sort}
use Rattle.ips_conflict.specs.declared.placed.Sort.TheVariants.{Path}
use Rattle.ips_conflict.specs.Key.{Key, key_of, sort_of, text_of, value_of}
use Rattle.ips_conflict.specs.Clash.{path_key, has_path_key}
use Rattle.ips_meaning.specs.Places.{given_path}
use Rattle.ips_conflict.proofs.Indexed.{path_by, path_of}

-- what an action gives is its key
pub given_is : (p : Placed) (path : List ℕ) → given_path p ≡ Some path → key_of p ≡ Some (path_key path)
given_is p path h = go (has_path_key p) refl h
  where
    go : (t : Bool) → has_path_key p ≡ t → cond t (Some (value_of (codes "path") p.action)) None ≡ Some path → key_of p ≡ Some (path_key path)
    go true has e = path_by (sort_of p.action.kind) p has ∙ ap (λ (x : List ℕ). Some (path_key x)) (same_Some (value_of (codes "path") p.action) path e)
    go false has e = absurd (none-some path e)

pub given_from : (p : Placed) (path : List ℕ) → key_of p ≡ Some (path_key path) → given_path p ≡ Some path
given_from p path h =
    let has : has_path_key p ≡ true = path_of (sort_of p.action.kind) p path h in
    let same = same_Some (path_key (value_of (codes "path") p.action)) (path_key path) (sym (path_by (sort_of p.action.kind) p has) ∙ h) in
    ap (λ (t : Bool). cond t (Some (value_of (codes "path") p.action)) None) has ∙ ap (λ (k : Key). Some k.text) same

pub given_none : (p : Placed) (path : List ℕ) → given_path p ≡ None → key_of p ≡ Some (path_key path) → ⊥
given_none p path none h = none-some path (sym none ∙ given_from p path h)

-- the kind of what gives a path is of the sort of paths
pub sort_is : (p : Placed) (path : List ℕ) → key_of p ≡ Some (path_key path) → sort_of p.action.kind ≡ Some Path
sort_is p path h = go (sort_of p.action.kind) h
  where
    go : (o : Option Sort) → option_map (λ sort. let k : Key = record { sort = sort; text = text_of sort p } in k) o ≡ Some (path_key path) → o ≡ Some Path
    go None e = absurd (none-some (path_key path) e)
    go (Some sort) e = ap (λ (s : Sort). Some s) (ap (λ (o : Option Key). option_map_or (λ k. k.sort) o Path) e)
