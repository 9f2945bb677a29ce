-- A request that wants what was wanted, directories without stated modes alone, saves nothing.
use Rattle.std.proofs.Common.{◌≡◌, ℕ, Bool, true, false, cond, not, ◌&&◌, ◌||◌, List, Option, Some, None, is_some, refl, sym, ◌∙◌, ap, inl, inr, ◌⊎◌}
use Rattle.std.specs.Prelude.{is_none}
use Rattle.std.specs.List.{list_any}
use Rattle.std.proofs.lemmas.Bool.{and_parts, and_right, false_from_ne_true, not-true, or_cases, or_from}
use Rattle.ips_text.specs.Ancestry.{covers, is_below, same_path}
use Rattle.ips_text.proofs.Ancestry.{covers_length, covers_short, covers_trans, same_path-true}
use Rattle.ips_outside.specs.Image.{Dir, Entry, Image, IsImage, is_dir}
use Rattle.ips_steps.specs.Private.{records_name}
use Rattle.ips_steps.proofs.Lists.{clash}
use Rattle.ips_after.specs.After.{by_itself, holds_made, is_stated, is_support, is_taken, is_top, itself, linked, linked_as, supported, supported_as}
use Rattle.ips_after.specs.Change.{Kept, Laid, makes, reached}
use Rattle.ips_after.specs.Request.{Request, WantDir, Wanted, lays}
use Rattle.ips_after.specs.Salvage.{destroys, drops_edit_as, salvaged, side_as}
use Rattle.ips_after.proofs.Changed.{reach_of}
use Rattle.ips_after.proofs.Fits.{any_of, below_covers, exists_dir}
use Rattle.ips_after.proofs.Saved.{comparable}
use Rattle.ips_image_steps.specs.Asked.{SavesNothing, WantsTheSame}

-- a directory without a stated mode is wanted there, or nothing
data Bare (o : Option Wanted) : Type 0 where
  Nothing : o ≡ None → Bare o
  Plain : o ≡ Some (WantDir None) → Bare o

module _ (r : Request) (t : Image) (formed : IsImage t) (stands : is_dir (t.look records_name) ≡ true) (same : WantsTheSame r) where
  bare : (q : List ℕ) → Bare (r.new.at q)
  bare q = go (r.new.at q) (same.plain q)
    where
      go : (o : Option Wanted) → (is_some o ≡ true → o ≡ Some (WantDir None)) → Bare o
      go None h = Nothing refl
      go (Some w) h = Plain (h refl)

  kept_as : (o : Option Wanted) (e : Option Entry) → Bare o → by_itself r o o e ≡ Kept
  kept_as o e (Nothing is) = ap (λ (x : Option Wanted). by_itself r x x e) is
  kept_as o e (Plain is) = ap (λ (x : Option Wanted). by_itself r x x e) is

  -- no path becomes anything by its own entry
  itself_kept : (q : List ℕ) → itself r t q ≡ Kept
  itself_kept q = ap (λ (o : Option Wanted). by_itself r o (r.new.at q) (t.look q)) (same.was q) ∙ kept_as (r.new.at q) (t.look q) (bare q)

  linked_at : (q : List ℕ) (o : Option Wanted) → Bare o → linked_as r t q o ≡ itself r t q
  linked_at q o (Nothing is) = ap (linked_as r t q) is
  linked_at q o (Plain is) = ap (linked_as r t q) is

  pub linked_kept : (q : List ℕ) → linked r t q ≡ Kept
  linked_kept q = linked_at q (r.new.at q) (bare q) ∙ itself_kept q

  supported_at : (q : List ℕ) (o : Option Wanted) → Bare o → supported_as r t q o ≡ cond (is_support r t q) (Laid (Dir 493 false)) (linked r t q)
  supported_at q o (Nothing is) = ap (supported_as r t q) is
  supported_at q o (Plain is) = ap (supported_as r t q) is

  pub supported_is : (q : List ℕ) → supported r t q ≡ cond (is_support r t q) (Laid (Dir 493 false)) (linked r t q)
  supported_is q = supported_at q (r.new.at q) (bare q)

  top_as : (o : Option Wanted) → Bare o → is_stated o ≡ false
  top_as o (Nothing is) = ap is_stated is
  top_as o (Plain is) = ap is_stated is

  -- no directory with a stated mode goes
  pub no_top : (q : List ℕ) → is_top r t q ≡ false
  no_top q = and_right _ _ (and_right _ _ (ap is_stated (same.was q) ∙ top_as (r.new.at q) (bare q)))

  -- at and above the folder of the records stand directories
  pub dir_above : (q : List ℕ) → covers q records_name ≡ true → is_dir (t.look q) ≡ true
  dir_above q over = go (same_path q records_name) refl
    where
      go : (b : Bool) → same_path q records_name ≡ b → is_dir (t.look q) ≡ true
      go true is = ap (λ (x : List ℕ). is_dir (t.look x)) (same_path-true q records_name is) ∙ stands
      go false apart = ap (λ (b : Bool). b || is_dir (t.look q)) (sym (exists_dir t records_name stands)) ∙ formed.below_dirs q records_name over apart

  -- what is made below a path outside that folder is below that folder, so the path is above it
  above_records : (p : List ℕ) → covers records_name p ≡ false → holds_made r t p ≡ true → covers p records_name ≡ true
  above_records p out made = go (or_cases (list_any (λ q. is_below p q && makes (linked r t q)) r.new.keys) _ made)
    where
      lays_some : (o : Option (Option Entry)) → lays o ≡ true → is_some o ≡ true
      lays_some (Some x) h = refl
      lays_some None h = cc

      over : (q : List ℕ) → is_below p q ≡ true → is_below records_name q ≡ true → (covers p records_name ≡ true) ⊎ (covers records_name p ≡ true)
      over q a b = comparable p records_name q (below_covers p q a) (below_covers records_name q b)

      turn : (covers p records_name ≡ true) ⊎ (covers records_name p ≡ true) → covers p records_name ≡ true
      turn (inl h) = h
      turn (inr h) = clash (covers records_name p) h out

      go : (list_any (λ q. is_below p q && makes (linked r t q)) r.new.keys ≡ true) ⊎ (list_any (λ q. is_below p q && lays (r.over.at q)) r.over.keys ≡ true) → covers p records_name ≡ true
      go (inl a) =
          let x = any_of (λ q. is_below p q && makes (linked r t q)) r.new.keys a in
          clash (makes (linked r t x.path)) (and_parts (is_below p x.path) _ x.holds).1 (ap makes (linked_kept x.path))
      go (inr a) =
          let x = any_of (λ q. is_below p q && lays (r.over.at q)) r.over.keys a in
          let parts = and_parts (is_below p x.path) _ x.holds in
          turn (over x.path parts.0 (same.inside x.path (lays_some (r.over.at x.path) parts.1)))

  -- a directory that stands above that folder isn't taken
  pub untaken : (p : List ℕ) → covers p records_name ≡ true → is_taken r t p ≡ true → ⊥
  untaken p over h =
      let x = reach_of (λ q. is_top r t q || is_some (r.over.at q)) p h in
      go x.at x.over (or_cases (is_top r t x.at) _ x.holds)
    where
      twice : (a b : List ℕ) → covers a b ≡ true → covers b a ≡ true → same_path a b ≡ true
      twice a b ab ba = covers_short a b ab (covers_length b a ba)

      go : (x : List ℕ) → covers x p ≡ true → (is_top r t x ≡ true) ⊎ (is_some (r.over.at x) ≡ true) → ⊥
      go x up (inl top) = clash (is_top r t x) top (no_top x)
      go x up (inr some) =
          let down = same.inside x some in
          let there = covers_trans x p records_name up over in
          clash (same_path records_name x) (twice records_name x (below_covers records_name x down) there) (not-true _ (and_parts (covers records_name x) _ down).1)

  -- nothing is destroyed
  undestroyed : (p : List ℕ) → destroys r t p ≡ false
  undestroyed p = false_from_ne_true _ (λ h.
      let one = and_parts (makes (supported r t p)) _ h in
      let out = not-true _ (and_parts (not (covers records_name p)) _ one.1).0 in
      go out (is_support r t p) refl (ap makes (sym (supported_is p)) ∙ one.0))
    where
      go : covers records_name p ≡ false → (b : Bool) → is_support r t p ≡ b → makes (cond (is_support r t p) (Laid (Dir 493 false)) (linked r t p)) ≡ true → ⊥
      go out true is made =
          let one = and_parts (is_none (r.over.at p)) _ is in
          let two = and_parts (not (is_dir (t.look p)) || is_taken r t p) _ one.1 in
          let over = above_records p out two.1 in
          turn over (or_cases (not (is_dir (t.look p))) _ two.0)
        where
          turn : covers p records_name ≡ true → (not (is_dir (t.look p)) ≡ true) ⊎ (is_taken r t p ≡ true) → ⊥
          turn over (inl bare) = clash (is_dir (t.look p)) (dir_above p over) (not-true _ bare)
          turn over (inr taken) = untaken p over taken
      go out false is made = clash (makes (cond (is_support r t p) (Laid (Dir 493 false)) (linked r t p))) made (ap (λ (b : Bool). makes (cond b (Laid (Dir 493 false)) (linked r t p))) is ∙ ap makes (linked_kept p))

  unedited : (o : Option Wanted) (e : Option Entry) → Bare o → drops_edit_as r o o e ≡ false
  unedited o e (Nothing is) = ap (λ (x : Option Wanted). drops_edit_as r x x e) is
  unedited o e (Plain is) = ap (λ (x : Option Wanted). drops_edit_as r x x e) is

  unsalvaged : (q : List ℕ) → salvaged r t q ≡ false
  unsalvaged q = and_right _ _ (and_right _ _ (or_from _ _ (none_reached (destroys r t) undestroyed) (or_from _ _ (none_reached (is_top r t) no_top) edit)))
    where
      none_reached : (f : List ℕ → Bool) → ((p : List ℕ) → f p ≡ false) → reached f q ≡ false
      none_reached f none = false_from_ne_true _ (λ h. let x = reach_of f q h in clash (f x.at) x.holds (none x.at))

      edit : drops_edit_as r (r.old.at q) (r.new.at q) (t.look q) ≡ false
      edit = ap (λ (o : Option Wanted). drops_edit_as r o (r.new.at q) (t.look q)) (same.was q) ∙ unedited (r.new.at q) (t.look q) (bare q)

  unsided_as : (was o : Option Wanted) (e : Option Entry) → Bare o → side_as r was o e ≡ None
  unsided_as was o e (Nothing is) = ap (λ (x : Option Wanted). side_as r was x e) is
  unsided_as was o e (Plain is) = ap (λ (x : Option Wanted). side_as r was x e) is

  pub saves_nothing : SavesNothing r t
  saves_nothing = record { unsalvaged = unsalvaged; unsided = λ q. unsided_as (r.old.at q) (r.new.at q) (t.look q) (bare q) }
