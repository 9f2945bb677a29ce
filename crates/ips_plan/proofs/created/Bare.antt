-- What becomes of each path in a request that wants what was wanted, where records speak only of what is right in their folder: just what they say.
use Rattle.std.proofs.Common.{◌≡◌, ◌⊎◌, inl, inr, ℕ, Bool, true, false, cond, not, ◌&&◌, ◌||◌, List, [], ◌∷◌, Option, Some, None, is_some, refl, sym, ◌∙◌, ap}
use Rattle.std.specs.Prelude.{is_none}
use Rattle.std.specs.List.{list_any}
use Rattle.std.proofs.lemmas.Bool.{and_left, and_parts, false_from_ne_true, not-true, or_cases, or_from}
use Rattle.ips_text.specs.Ancestry.{covers, is_below}
use Rattle.ips_text.proofs.Ancestry.{covers_trans, parent_covers}
use Rattle.ips_outside.specs.Image.{Dir, Entry, Image, IsImage, is_dir}
use Rattle.ips_steps.specs.Private.{records_name}
use Rattle.ips_steps.proofs.Lists.{clash}
use Rattle.ips_after.specs.After.{IsEmptied, change_after, given_up, holds_made, is_support, is_taken, linked, may_empty, over_or, ranks, supported, unstated}
use Rattle.ips_after.specs.Change.{Changes, Kept, Laid, Removed, changed, cleared, laid_entry, left_same, makes, remoded, replaces, target, with_given}
use Rattle.ips_after.specs.Extra.{extra_or}
use Rattle.ips_after.specs.Request.{Request, Wanted, lays}
use Rattle.ips_after.specs.Salvage.{Aside, Beside, GoesTo, IsAside, Salvage, change_saving, has_foreign, has_long_side, image_saving, is_unmovable, salvaged, side_at}
use Rattle.ips_after.specs.Salvage.{saved as saved_at}
use Rattle.ips_after.proofs.Changed.{reach_of}
use Rattle.ips_after.proofs.Fits.{any_of}
use Rattle.ips_after.proofs.Saved.{sent_or_way}
use Rattle.ips_image_steps.specs.Asked.{SavesNothing, WantsTheSame}
use Rattle.ips_image_steps.proofs.Unsaved.{dir_above, linked_kept, saves_nothing, supported_is, untaken}
use Rattle.ips_plan.proofs.created.First.{IsChild, above_child}

-- what becomes of a path by what is said alone
abbrev pub said_alone : Request → Changes
said_alone r q = over_or (r.over.at q) Kept

-- ---- no mode is given

unmoded : (x : Option (Option Entry)) (meets : Bool) (e : Option Entry) → remoded (over_or x Kept) meets e ≡ e
unmoded None meets e = refl
unmoded (Some None) meets e = refl
unmoded (Some (Some y)) meets e = refl

module _ (says : List ℕ → Option (Option Entry)) (t : Image) where
  abbrev alone : Changes
  alone q = over_or (says q) Kept

  ungiven : (order : List (List ℕ)) (q : List ℕ) (e : Option Entry) → with_given alone order t q e ≡ e
  ungiven [] q e = refl
  ungiven (p ∷ order) q e = ap (with_given alone order t q) (unmoded (says p) _ e) ∙ ungiven order q e

  -- so the order of modes doesn't count
  pub any_order : (order : List (List ℕ)) → changed alone order t ≡ changed alone [] t
  any_order order = λ i. record {
    look = λ q. cond (cleared alone (target (alone q) q)) (laid_entry (alone (target (alone q) q))) (ungiven order (target (alone q) q) (t.look (target (alone q) q)) i);
    same = λ a b. left_same alone t (target (alone a) a) (target (alone b) b);
  }

module _ (r : Request) (t : Image) (formed : IsImage t) (stands : is_dir (t.look records_name) ≡ true) (same : WantsTheSame r) (children : (q : List ℕ) → is_some (r.over.at q) ≡ true → IsChild q) where
  lays_some : (o : Option (Option Entry)) → lays o ≡ true → is_some o ≡ true
  lays_some (Some x) h = refl
  lays_some None h = cc

  -- what is made below a path lies in the folder of the records, so the path is at or above that folder
  made_above : (p : List ℕ) → holds_made r t p ≡ true → covers p records_name ≡ true
  made_above p made = go (or_cases (list_any (λ q. is_below p q && makes (linked r t q)) r.new.keys) _ made)
    where
      go : (list_any (λ q. is_below p q && makes (linked r t q)) r.new.keys ≡ true) ⊎ (list_any (λ q. is_below p q && lays (r.over.at q)) r.over.keys ≡ true) → covers p records_name ≡ true
      go (inl a) =
          let x = any_of (λ q. is_below p q && makes (linked r t q)) r.new.keys a in
          clash (makes (linked r t x.path)) (and_parts (is_below p x.path) _ x.holds).1 (ap makes (linked_kept r t formed stands same x.path))
      go (inr a) =
          let x = any_of (λ q. is_below p q && lays (r.over.at q)) r.over.keys a in
          let parts = and_parts (is_below p x.path) _ x.holds in
          let below = and_parts (covers p x.path) _ parts.0 in
          above_child p x.path (children x.path (lays_some (r.over.at x.path) parts.1)) below.0 (not-true _ below.1)

  -- no directory is made for what is below it
  unsupported : (p : List ℕ) → is_support r t p ≡ false
  unsupported p = false_from_ne_true _ (λ h.
      let one = and_parts (is_none (r.over.at p)) _ h in
      let two = and_parts (not (is_dir (t.look p)) || is_taken r t p) _ one.1 in
      turn (made_above p two.1) (or_cases (not (is_dir (t.look p))) _ two.0))
    where
      turn : covers p records_name ≡ true → (not (is_dir (t.look p)) ≡ true) ⊎ (is_taken r t p ≡ true) → ⊥
      turn over (inl bare) = clash (is_dir (t.look p)) (dir_above r t formed stands same p over) (not-true _ bare)
      turn over (inr taken) = untaken r t formed stands same p over taken

  supported_kept : (p : List ℕ) → supported r t p ≡ Kept
  supported_kept p = supported_is r t formed stands same p ∙ ap (λ (b : Bool). cond b (Laid (Dir 493 false)) (linked r t p)) (unsupported p) ∙ linked_kept r t formed stands same p

  -- no directory is emptied
  may_stay : (p : List ℕ) → may_empty r t p ≡ true → ⊥
  may_stay p h =
      let one = and_parts (unstated (r.old.at p)) _ h in
      go (r.new.at p) (ap unstated (sym (same.was p)) ∙ one.0) (and_parts (is_none (r.new.at p)) _ one.1).0
    where
      go : (o : Option Wanted) → unstated o ≡ true → is_none o ≡ true → ⊥
      go (Some w) u n = cc
      go None u n = cc

  module _ (emptied : List ℕ → Bool) (is : IsEmptied r t emptied) where
    change_is : (p : List ℕ) → change_after r t emptied p ≡ said_alone r p
    change_is p =
        ap (λ (b : Bool). cond b Removed (over_or (r.over.at p) (supported r t p))) (false_from_ne_true (emptied p) (λ h. may_stay p (is.only p h)))
        ∙ ap (over_or (r.over.at p)) (supported_kept p)

    -- outside the folder of the records nothing is replaced
    uncleared : (p : List ℕ) → covers records_name p ≡ false → cleared (change_after r t emptied) p ≡ false
    uncleared p out = false_from_ne_true _ (λ h. let x = reach_of (λ q. replaces (change_after r t emptied q)) p h in go x.at x.over (ap replaces (sym (change_is x.at)) ∙ x.holds))
      where
        go : (x : List ℕ) → covers x p ≡ true → replaces (said_alone r x) ≡ true → ⊥
        go x up h = turn (r.over.at x) refl h
          where
            turn : (o : Option (Option Entry)) → r.over.at x ≡ o → replaces (over_or o Kept) ≡ true → ⊥
            turn (Some y) is h = clash (covers records_name p) (covers_trans records_name x p (parent_covers x records_name (children x (ap is_some is))) up) out
            turn None is h = cc

  none : SavesNothing r t
  none = saves_nothing r t formed stands same

  -- at no path the request can't be carried out
  pub movable : (a : Aside) → IsEmptied r t a.emptied → (p : List ℕ) → is_unmovable r t a p ≡ false
  movable a is p = or_from _ _ (and_left _ _ (none.unsalvaged p)) (or_from _ _ foreign (ap (has_long_side r t a p) (none.unsided p)))
    where
      foreign : (has_foreign (t.look p) && (not (covers records_name p) && (given_up r t p && cleared (change_after r t a.emptied) p))) ≡ false
      foreign = false_from_ne_true _ (λ h.
          let one = and_parts (has_foreign (t.look p)) _ h in
          let two = and_parts (not (covers records_name p)) _ one.1 in
          let three = and_parts (given_up r t p) _ two.1 in
          clash (cleared (change_after r t a.emptied) p) three.1 (uncleared a.emptied is p (not-true _ two.0)))

  module _ (a : Aside) (is : IsAside r t a) where
    unsaved : (q : List ℕ) → saved_at r t a q ≡ None
    unsaved q = nothing (saved_at r t a q) (λ s. go (sent_or_way r t a q s))
      where
        nothing : (o : Option Entry) → (is_some o ≡ true → ⊥) → o ≡ None
        nothing (Some x) never = absurd (never refl)
        nothing None never = refl

        sent : (q : List ℕ) → GoesTo r t a q → ⊥
        sent q (Salvage p h) = clash (salvaged r t p) h (none.unsalvaged p)
        sent q (Beside p side at) = clash (is_some (side_at r t p)) (ap is_some at) (ap is_some (none.unsided p))

        go : GoesTo r t a q ⊎ (a.ways q ≡ true) → ⊥
        go (inl g) = sent q g
        go (inr w) = let x = (is.ways_only q w).0 in sent x.at x.goes

    saving_is : (q : List ℕ) → change_saving r t a q ≡ said_alone r q
    saving_is q = ap (λ (e : Option Entry). extra_or e (change_after r t a.emptied q)) (unsaved q) ∙ change_is a.emptied is.is_emptied q

    -- the image after is the one with what is said alone
    pub image_is : image_saving r t a ≡ changed (said_alone r) [] t
    image_is = ap (λ (c : Changes). changed c (ranks r) t) (λ i. λ q. saving_is q i) ∙ any_order (λ q. r.over.at q) t (ranks r)
