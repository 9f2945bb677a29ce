-- The first clash of a path with what is wanted below it, and the first lost hardlink at a path.
use Rattle.std.proofs.Common.{◌≡◌, ◌≢◌, ℕ, ◌<◌, true, false, List, Option, Some, None, Bor, refl, sym, ap, subst, ◌∙◌}
use Rattle.std.specs.Prelude.{◌↔◌, length}
use Rattle.std.specs.List.{Contains}
use Rattle.std.specs.Option.{option_cmp}
use Rattle.std.specs.declared.cmp.Ordering.TheVariants.{Greater}
use Rattle.std.proofs.lemmas.Bool.{true≢false}
use Rattle.std.proofs.lemmas.Option.{slice_get_within}
use Rattle.ips_text.specs.Ancestry.{is_below}
use Rattle.ips_conflict.specs.declared.placed.Placed.{Placed}
use Rattle.ips_conflict.specs.declared.placed.Sort.TheVariants.{Path}
use Rattle.ips_conflict.specs.declared.clashing.Rule.{Rule}
use Rattle.ips_conflict.specs.declared.clashing.Rule.TheVariants.{Below, Target}
use Rattle.ips_conflict.specs.declared.earliest.Test.TheVariants.{Obstacle, Lost, Under}
use Rattle.ips_conflict.specs.Key.{Key, text_of}
use Rattle.ips_conflict.specs.Order.{place_cmp}
use Rattle.ips_conflict.specs.Clash.{HasKey, Conflict, IsObstacle, IsLost, IsAbove, IsConflict, IsConflictBy, is_held, path_key}
use Rattle.ips_conflict.specs.Index.{HasBelow}
use Rattle.ips_conflict.specs.Search.{IsEarliest, IsFirstBy, MeetsTest}
use Rattle.ips_conflict.proofs.Grouped.{Keyed, key_sort, key_at, key_text_is}
use Rattle.ips_conflict.proofs.FirstPair.{then_le}

-- ---- hardlinks that are lost

module _ (placed : List Placed) (text : List ℕ) where
  lost_of : (d : Conflict) → IsConflict placed d → d.rule ≡ Target → IsLost placed d
  lost_of d h er = subst (λ (r : Rule). IsConflictBy r placed d) er h

  lost_keyed : (d : Conflict) → IsLost placed d → d.key ≡ path_key text → Keyed placed (path_key text) Lost d.first
  lost_keyed d l ek = record { p = l.a; at = subst (λ (k : Key). HasKey placed k d.first l.a) ek l.a_key; passes = (l.hard, l.lost) }

  pub none_lost : IsEarliest placed (Keyed placed (path_key text) Lost) None → IsFirstBy placed (path_key text) Target None
  none_lost none d h ek er = none d.first (lost_keyed d (lost_of d h er) ek)

  pub found_lost : (first : ℕ) → IsEarliest placed (Keyed placed (path_key text) Lost) (Some first) → IsFirstBy placed (path_key text) Target (Some (first, Some first))
  found_lost first f = (
    record { a = f.0.p; a_key = f.0.at; second = refl; hard = f.0.passes.0; lost = f.0.passes.1 },
    λ d h ek er.
        let l = lost_of d h er in
        let le = f.1 d.first (lost_keyed d l ek) in
        then_le (place_cmp placed first d.first) (option_cmp (place_cmp placed) (Some first) d.second) le (λ tie. subst (λ (o : Option ℕ). option_cmp (place_cmp placed) (Some first) o ≢ Greater) (sym l.second) le),
  )

  -- ---- what stands in the way of what is below it

  obstacle_of : (d : Conflict) → IsConflict placed d → d.rule ≡ Below → IsObstacle placed d
  obstacle_of d h er = subst (λ (r : Rule). IsConflictBy r placed d) er h

  obstacle_keyed : (d : Conflict) → IsObstacle placed d → d.key ≡ path_key text → Keyed placed (path_key text) Obstacle d.first
  obstacle_keyed d o ek = record { p = o.a; at = subst (λ (k : Key). HasKey placed k d.first o.a) ek o.a_key; passes = o.other }

  above_of : (d : Conflict) (o : IsObstacle placed d) → d.key ≡ path_key text → IsAbove placed text d.second
  above_of d o ek =
      let same : o.path ≡ text = ap (λ (k : Key). k.text) (sym o.of_path ∙ ek) in
      subst (λ (p : List ℕ). IsAbove placed p d.second) same o.above

  pub none_obstacle : IsEarliest placed (Keyed placed (path_key text) Obstacle) None → IsFirstBy placed (path_key text) Below None
  none_obstacle none d h ek er = none d.first (obstacle_keyed d (obstacle_of d h er) ek)

  -- the image itself comes before each action
  image_first : (second : Option ℕ) → option_cmp (place_cmp placed) None second ≢ Greater
  image_first None e = cc
  image_first (Some j) e = cc

  pub found_held : (first : ℕ) → IsEarliest placed (Keyed placed (path_key text) Obstacle) (Some first) → is_held placed text ≡ true → IsFirstBy placed (path_key text) Below (Some (first, None))
  found_held first f held = (
    record { path = text; a = f.0.p; of_path = refl; a_key = f.0.at; other = f.0.passes; above = held },
    λ d h ek er.
        let o = obstacle_of d h er in
        then_le (place_cmp placed first d.first) (option_cmp (place_cmp placed) None d.second) (f.1 d.first (obstacle_keyed d o ek)) (λ tie. image_first d.second),
  )

  -- an action stands at the place, below the path
  abbrev pub BelowAt : ℕ → Type 0
  BelowAt j = (below : List ℕ) × (q : Placed) × HasKey placed (path_key below) j q × (is_below text below ≡ true)

  above_at : (second : Option ℕ) → is_held placed text ≡ false → IsAbove placed text second → (j : ℕ) × (second ≡ Some j) × BelowAt j
  above_at None free above = absurd (true≢false (sym above ∙ free))
  above_at (Some j) free above = (j, refl, (above.1, above.2, above.3, above.4))

  pub nothing_below : is_held placed text ≡ false → (HasBelow placed text → ⊥) → IsFirstBy placed (path_key text) Below None
  nothing_below free none d h ek er =
      let w = above_at d.second free (above_of d (obstacle_of d h er) ek) in
      let b = w.2 in
      none (w.0, b.0, b.1, b.2, b.3)

  pub none_below : is_held placed text ≡ false → IsEarliest placed BelowAt None → IsFirstBy placed (path_key text) Below None
  none_below free none d h ek er = let w = above_at d.second free (above_of d (obstacle_of d h er) ek) in none w.0 w.2

  pub found_below : (first second : ℕ) → IsEarliest placed (Keyed placed (path_key text) Obstacle) (Some first) → is_held placed text ≡ false → IsEarliest placed BelowAt (Some second) → IsFirstBy placed (path_key text) Below (Some (first, Some second))
  found_below first second f free s = (
    record { path = text; a = f.0.p; of_path = refl; a_key = f.0.at; other = f.0.passes; above = (free, s.0.0, s.0.1, s.0.2, s.0.3) },
    λ d h ek er.
        let o = obstacle_of d h er in
        let w = above_at d.second free (above_of d o ek) in
        then_le (place_cmp placed first d.first) (option_cmp (place_cmp placed) (Some second) d.second) (f.1 d.first (obstacle_keyed d o ek))
        (λ tie. subst (λ (x : Option ℕ). option_cmp (place_cmp placed) (Some second) x ≢ Greater) (sym w.1) (s.1 w.0 w.2)),
  )

-- ---- all places

-- the action at a place of all stands below the path
module _ (placed : List Placed) (path : Bor (List ℕ)) (places : List ℕ) (all : (i : ℕ) → Contains places i ↔ (i < length placed)) where
  to_below : (j : ℕ) → Contains places j × MeetsTest placed Path (Under path) j → BelowAt placed path.now j
  to_below j w = let m = w.1 in (text_of Path m.p, m.p, record { here = m.here; key_is = key_at m.p Path m.of_sort }, m.passes)

  from_below : (j : ℕ) → BelowAt placed path.now j → Contains places j × MeetsTest placed Path (Under path) j
  from_below j b =
      let p = b.1 in
      let below : is_below path.now (text_of Path p) ≡ true = subst (λ (t : List ℕ). is_below path.now t ≡ true) (sym (key_text_is p (path_key b.0) b.2.key_is)) b.3 in (
        (all j).1 (slice_get_within placed j p b.2.here),
        record { p = p; here = b.2.here; of_sort = key_sort p (path_key b.0) b.2.key_is; passes = below },
      )

  below_earliest : (found : Option ℕ) → IsEarliest placed (λ j. Contains places j × MeetsTest placed Path (Under path) j) found → IsEarliest placed (BelowAt placed path.now) found
  below_earliest None none = λ j b. none j (from_below j b)
  below_earliest (Some i) h = (to_below i h.0, λ j b. h.1 j (from_below j b))

  -- what was found among all places, for the path
  pub below_found : (members : List ℕ) (o found : Option ℕ) → members ≡ places → o ≡ found → IsEarliest placed (λ j. Contains members j × MeetsTest placed Path (Under path) j) o → IsEarliest placed (BelowAt placed path.now) found
  below_found members o found same e h =
      let at = subst (λ (l : List ℕ). IsEarliest placed (λ j. Contains l j × MeetsTest placed Path (Under path) j) o) same h in
      below_earliest found (subst (IsEarliest placed (λ j. Contains places j × MeetsTest placed Path (Under path) j)) e at)
