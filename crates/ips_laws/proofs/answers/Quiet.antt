-- What a request in which nothing is said makes of a whole image is what it makes of the visible one, whatever stands at the updater's own names.
use Rattle.std.proofs.Common.{◌≡◌, ◌⊎◌, inl, inr, ℕ, Bool, true, false, cond, not, ◌&&◌, ◌||◌, List, [], ◌∷◌, Option, Some, None, is_some, is_none, refl, sym, ◌∙◌, ap, subst}
use Rattle.std.specs.List.{list_any}
use Rattle.std.proofs.lemmas.Bool.{and_left, and_parts, false_from_ne_true, or_from}
use Rattle.ips_text.specs.Ancestry.{covers, is_below, same_path}
use Rattle.ips_text.proofs.Ancestry.{covers-self, same_path-true}
use Rattle.ips_outside.specs.Image.{Dir, Entry, File, Image, Link, is_dir, is_file}
use Rattle.ips_outside.specs.Change.{names}
use Rattle.ips_steps.specs.Private.{is_private, records_name, visible}
use Rattle.ips_steps.proofs.Lists.{clash}
use Rattle.ips_steps.proofs.PrivateNames.{private_below}
use Rattle.ips_after.specs.After.{IsEmptied, answer_at, by_itself, change_after, change_settled, drops, has_laid, holds_made, image_after, image_settled, is_stated, is_support, is_taken, is_top, itself, leads_to, linked, linked_as, links_to, may_empty, needs_file, ranks, removed_if, stated, stays_in, supported_as, unstated, was_equal, whole_dir}
use Rattle.ips_after.specs.Change.{Change, Changes, Given, Joined, Kept, Laid, Removed, changed, cleared, joins, laid_entry, left, makes, reached, remoded, target, with_given}
use Rattle.ips_after.specs.Request.{Request, Want, WantDir, WantFile, WantHard, WantLink, Wanted, is_dir_wanted, is_file_wanted}
use Rattle.ips_after.proofs.Fits.{any_of, below_covers, below_of, dir_joins, file_joins, link_target}
use Rattle.ips_after.proofs.Places.{private_own}
use Rattle.ips_after.proofs.Saved.{comparable}
use Rattle.ips_after.proofs.Unseen.{and_second}
use Rattle.ips_change.specs.wanted.Named.{is_payload_of}
use Rattle.ips_plan.specs.image_plan.Accounts.{nothing_said}

-- What is used of what was wanted and what is: nothing is wanted below the folder of the records, hard links lead to wanted files, and that folder and what is above it
-- are wanted directories.
pub record IsBetween (old new : Want) : Type 0 where
  pub none_old : (q : List ℕ) → is_below records_name q ≡ true → old.at q ≡ None
  pub none_new : (q : List ℕ) → is_below records_name q ≡ true → new.at q ≡ None
  pub hards : (x to : List ℕ) → new.at x ≡ Some (WantHard to) → is_file_wanted (new.at to) ≡ true
  pub above : (z : List ℕ) → covers z records_name ≡ true → is_dir_wanted (new.at z) ≡ true

-- ---- one more name of a file

removed_alone : (b : Bool) → joins (removed_if b) ≡ false
removed_alone true = refl
removed_alone false = refl

-- what is no longer wanted is no name of another file
old_alone : (r : Request) (o : Option Wanted) (e : Option Entry) → joins (by_itself r o None e) ≡ false
old_alone r None e = refl
old_alone r (Some (WantDir None)) e = refl
old_alone r (Some (WantDir (Some m))) e = removed_alone (is_dir e)
old_alone r (Some (WantFile payload m preserve)) e = removed_alone (drops _)
old_alone r (Some (WantLink g)) e = removed_alone _
old_alone r (Some (WantHard to)) e = removed_alone (is_file e)

not_joined : (X : Type 0) (c : Change) (to : List ℕ) → joins c ≡ false → c ≡ Joined to → X
not_joined X c to off is = clash (joins c) (ap joins is) off

joined_to : (l we : Bool) (x to : List ℕ) → cond l (Joined x) (cond we Kept (Joined x)) ≡ Joined to → x ≡ to
joined_to true we x to is = cc
joined_to false true x to is = cc
joined_to false false x to is = cc

supported_alone : (s : Bool) (x : Entry) (c : Change) → joins c ≡ false → joins (cond s (Laid x) c) ≡ false
supported_alone true x c off = refl
supported_alone false x c off = off

module _ (old new : Want) (bytes : List ℕ → List ℕ) (between : IsBetween old new) (h : Image) where
  abbrev r : Request
  r = record { old = old; new = new; bytes = bytes; holds = is_payload_of; over = nothing_said }

  abbrev v : Image
  v = visible h

  pub look_seen : (q : List ℕ) → is_private q ≡ false → v.look q ≡ h.look q
  look_seen q s = ap (λ (b : Bool). cond b None (h.look q)) s

  look_hidden : (q : List ℕ) → is_private q ≡ true → v.look q ≡ None
  look_hidden q own = ap (λ (b : Bool). cond b None (h.look q)) own

  old_hidden : (q : List ℕ) → is_private q ≡ true → old.at q ≡ None
  old_hidden q own = between.none_old q (private_own q own)

  new_hidden : (q : List ℕ) → is_private q ≡ true → new.at q ≡ None
  new_hidden q own = between.none_new q (private_own q own)

  -- ---- what becomes of a path

  itself_hidden : (q : List ℕ) → is_private q ≡ true → (t : Image) → itself r t q ≡ Kept
  itself_hidden q own t = ap (λ (o : Option Wanted). by_itself r o (new.at q) (t.look q)) (old_hidden q own) ∙ ap (λ (o : Option Wanted). by_itself r None o (t.look q)) (new_hidden q own)

  itself_at : (q : List ℕ) → itself r h q ≡ itself r v q
  itself_at q = go (is_private q) refl
    where
      go : (b : Bool) → is_private q ≡ b → itself r h q ≡ itself r v q
      go true own = itself_hidden q own h ∙ sym (itself_hidden q own v)
      go false s = ap (by_itself r (old.at q) (new.at q)) (sym (look_seen q s))

  itself_all : itself r h ≡ itself r v
  itself_all = λ i. λ q. itself_at q i

  led_hidden : (c : Changes) (p : List ℕ) → is_private p ≡ true → list_any (λ x. leads_to p (new.at x) && makes (c x)) new.keys ≡ false
  led_hidden c p own = false_from_ne_true _ (λ a. let s = any_of (λ x. leads_to p (new.at x) && makes (c x)) new.keys a in none s.path (new.at s.path) refl (and_parts (leads_to p (new.at s.path)) _ s.holds).0)
    where
      none : (x : List ℕ) (o : Option Wanted) → new.at x ≡ o → leads_to p o ≡ true → ⊥
      none x (Some (WantDir m)) at l = cc
      none x (Some (WantFile payload m preserve)) at l = cc
      none x (Some (WantLink g)) at l = cc
      none x (Some (WantHard to)) at l = clash (is_file_wanted (new.at p)) (subst (λ (y : List ℕ). is_file_wanted (new.at y) ≡ true) (same_path-true to p l) (between.hards x to at)) (ap is_file_wanted (new_hidden p own))
      none x None at l = cc

  needs_at : (p : List ℕ) → needs_file r h p ≡ needs_file r v p
  needs_at p = go (is_private p) refl
    where
      go : (b : Bool) → is_private p ≡ b → needs_file r h p ≡ needs_file r v p
      go true own = and_second (is_none (r.over.at p)) (not (is_file (h.look p))) _ (led_hidden (itself r h) p own) ∙ sym (and_second (is_none (r.over.at p)) (not (is_file (v.look p))) _ (led_hidden (itself r v) p own))
      go false s = ap (λ (e : Option Entry). is_none (r.over.at p) && (not (is_file e) && list_any (λ x. leads_to p (new.at x) && makes (itself r h x)) new.keys)) (sym (look_seen p s))
          ∙ ap (λ (c : Changes). is_none (r.over.at p) && (not (is_file (v.look p)) && list_any (λ x. leads_to p (new.at x) && makes (c x)) new.keys)) itself_all

  laid_at : (p : List ℕ) → has_laid r h p ≡ has_laid r v p
  laid_at p = ap (λ (n : Bool). n || makes (itself r h p)) (needs_at p) ∙ ap (λ (c : Change). needs_file r v p || makes c) (itself_at p)

  linked_as_at : (p : List ℕ) (o : Option Wanted) → linked_as r h p o ≡ linked_as r v p o
  linked_as_at p (Some (WantDir m)) = itself_at p
  linked_as_at p (Some (WantFile payload m preserve)) =
      ap (λ (n : Bool). cond n (Laid (File m (bytes payload))) (itself r h p)) (needs_at p) ∙ ap (λ (c : Change). cond (needs_file r v p) (Laid (File m (bytes payload))) c) (itself_at p)
  linked_as_at p (Some (WantLink g)) = itself_at p
  linked_as_at p (Some (WantHard to)) = ap (λ (n : Bool). cond n (Joined to) (itself r h p)) (laid_at to) ∙ ap (λ (c : Change). cond (has_laid r v to) (Joined to) c) (itself_at p)
  linked_as_at p None = itself_at p

  linked_at : (p : List ℕ) → linked r h p ≡ linked r v p
  linked_at p = linked_as_at p (new.at p)

  linked_all : linked r h ≡ linked r v
  linked_all = λ i. λ p. linked_at p i

  top_at : (p : List ℕ) → is_top r h p ≡ is_top r v p
  top_at p = go (is_private p) refl
    where
      go : (b : Bool) → is_private p ≡ b → is_top r h p ≡ is_top r v p
      go true own = and_second (is_none (new.at p)) (is_dir (h.look p)) _ (ap is_stated (old_hidden p own)) ∙ sym (and_second (is_none (new.at p)) (is_dir (v.look p)) _ (ap is_stated (old_hidden p own)))
      go false s = ap (λ (e : Option Entry). is_none (new.at p) && (is_dir e && is_stated (old.at p))) (sym (look_seen p s))

  top_all : is_top r h ≡ is_top r v
  top_all = λ i. λ p. top_at p i

  taken_at : (p : List ℕ) → is_taken r h p ≡ is_taken r v p
  taken_at p = ap (λ (f : List ℕ → Bool). reached (λ q. f q || is_some (r.over.at q)) p) top_all

  linked_hidden : (q : List ℕ) → is_private q ≡ true → linked r h q ≡ Kept
  linked_hidden q own = ap (linked_as r h q) (new_hidden q own) ∙ itself_hidden q own h

  made_hidden : (p : List ℕ) → is_private p ≡ true → holds_made r h p ≡ false
  made_hidden p own = or_from _ _ (false_from_ne_true _ none) refl
    where
      none : list_any (λ q. is_below p q && makes (linked r h q)) new.keys ≡ true → ⊥
      none a =
          let s = any_of (λ q. is_below p q && makes (linked r h q)) new.keys a in
          let parts = and_parts (is_below p s.path) (makes (linked r h s.path)) s.holds in
          clash (makes (linked r h s.path)) parts.1 (ap makes (linked_hidden s.path (private_below p s.path own (below_covers p s.path parts.0))))

  made_at : (p : List ℕ) → holds_made r h p ≡ holds_made r v p
  made_at p = ap (λ (c : Changes). list_any (λ q. is_below p q && makes (c q)) new.keys || false) linked_all

  no_support : (p : List ℕ) → is_private p ≡ true → is_support r h p ≡ false
  no_support p own = and_second (is_none (r.over.at p)) (not (is_dir (h.look p)) || is_taken r h p) _ (made_hidden p own)

  support_at : (p : List ℕ) → is_support r h p ≡ is_support r v p
  support_at p = go (is_private p) refl
    where
      go : (b : Bool) → is_private p ≡ b → is_support r h p ≡ is_support r v p
      go true own = no_support p own ∙ sym (and_second (is_none (r.over.at p)) (not (is_dir (v.look p)) || is_taken r v p) _ (sym (made_at p) ∙ made_hidden p own))
      go false s = ap (λ (e : Option Entry). is_none (r.over.at p) && ((not (is_dir e) || is_taken r h p) && holds_made r h p)) (sym (look_seen p s))
          ∙ ap (λ (x : Bool). is_none (r.over.at p) && ((not (is_dir (v.look p)) || x) && holds_made r h p)) (taken_at p)
          ∙ ap (λ (x : Bool). is_none (r.over.at p) && ((not (is_dir (v.look p)) || is_taken r v p) && x)) (made_at p)

  supported_as_at : (p : List ℕ) (o : Option Wanted) → supported_as r h p o ≡ supported_as r v p o
  supported_as_at p (Some (WantDir m)) = ap (λ (s : Bool). cond s (Laid (Dir (stated m) false)) (linked r h p)) (support_at p) ∙ ap (λ (c : Change). cond (is_support r v p) (Laid (Dir (stated m) false)) c) (linked_at p)
  supported_as_at p (Some (WantFile payload m preserve)) = linked_at p
  supported_as_at p (Some (WantLink g)) = linked_at p
  supported_as_at p (Some (WantHard to)) = linked_at p
  supported_as_at p None = ap (λ (s : Bool). cond s (Laid (Dir 493 false)) (linked r h p)) (support_at p) ∙ ap (λ (c : Change). cond (is_support r v p) (Laid (Dir 493 false)) c) (linked_at p)

  settled_at : (p : List ℕ) → change_settled r h p ≡ change_settled r v p
  settled_at p = supported_as_at p (new.at p)

  settled_all : change_settled r h ≡ change_settled r v
  settled_all = λ i. λ p. settled_at p i

  empty_at : (p : List ℕ) → may_empty r h p ≡ may_empty r v p
  empty_at p = go (is_private p) refl
    where
      go : (b : Bool) → is_private p ≡ b → may_empty r h p ≡ may_empty r v p
      go true own = and_left (unstated (old.at p)) _ (ap unstated (old_hidden p own)) ∙ sym (and_left (unstated (old.at p)) _ (ap unstated (old_hidden p own)))
      go false s = ap (λ (e : Option Entry). unstated (old.at p) && (is_none (new.at p) && (whole_dir e && (is_none (r.over.at p) && not (is_support r h p))))) (sym (look_seen p s))
          ∙ ap (λ (x : Bool). unstated (old.at p) && (is_none (new.at p) && (whole_dir (v.look p) && (is_none (r.over.at p) && not x)))) (support_at p)

  -- ---- what is left of a path

  kept_hidden : (q : List ℕ) → is_private q ≡ true → change_settled r h q ≡ Kept
  kept_hidden q own = ap (supported_as r h q) (new_hidden q own) ∙ ap (λ (s : Bool). cond s (Laid (Dir 493 false)) (linked r h q)) (no_support q own) ∙ linked_hidden q own

  same_seen : (a b : List ℕ) → is_private a ≡ false → is_private b ≡ false → v.same a b ≡ h.same a b
  same_seen a b sa sb = ap (λ (own : Bool). cond own false (h.same a b)) (or_from (is_private a) (is_private b) sa sb)

  given_seen : (c : Changes) → ((x : List ℕ) → is_private x ≡ true → c x ≡ Kept) → (order : List (List ℕ)) (q : List ℕ) → is_private q ≡ false → (e : Option Entry) → with_given c order h q e ≡ with_given c order v q e
  given_seen c keep [] q s e = refl
  given_seen c keep (p ∷ order) q s e = given_seen c keep order q s (remoded (c p) (not (cleared c p) && names h p q) e) ∙ ap (with_given c order v q) (one (is_private p) refl)
    where
      one : (b : Bool) → is_private p ≡ b → remoded (c p) (not (cleared c p) && names h p q) e ≡ remoded (c p) (not (cleared c p) && names v p q) e
      one true own = ap (λ (k : Change). remoded k (not (cleared c p) && names h p q) e) (keep p own) ∙ sym (ap (λ (k : Change). remoded k (not (cleared c p) && names v p q) e) (keep p own))
      one false seen = ap (λ (b : Bool). remoded (c p) (not (cleared c p) && (same_path p q || b)) e) (sym (same_seen p q seen s))

  changed_seen : (c : Changes) → ((x : List ℕ) → is_private x ≡ true → c x ≡ Kept) → (x : List ℕ) → is_private (target (c x) x) ≡ false → (changed c (ranks r) h).look x ≡ (changed c (ranks r) v).look x
  changed_seen c keep x s =
      let y : List ℕ = target (c x) x in
      ap (cond (cleared c y) (laid_entry (c y))) (given_seen c keep (ranks r) y s (h.look y) ∙ ap (with_given c (ranks r) v y) (sym (look_seen y s)))

  -- one more name is made of a wanted file alone
  joins_wanted : (x to : List ℕ) (o : Option Wanted) → new.at x ≡ o → supported_as r h x o ≡ Joined to → o ≡ Some (WantHard to)
  joins_wanted x to (Some (WantDir m)) at is =
      let here : linked r h x ≡ by_itself r (old.at x) (Some (WantDir m)) (h.look x) = ap (linked_as r h x) at ∙ ap (λ (o : Option Wanted). by_itself r (old.at x) o (h.look x)) at in
      not_joined (Some (WantDir m) ≡ Some (WantHard to)) (cond (is_support r h x) (Laid (Dir (stated m) false)) (linked r h x)) to
      (ap (λ (c : Change). joins (cond (is_support r h x) (Laid (Dir (stated m) false)) c)) here ∙ dir_joins (is_support r h x) (was_equal (old.at x) (WantDir m)) (is_dir (h.look x)) m (Dir (stated m) false)) is
  joins_wanted x to (Some (WantFile payload m preserve)) at is =
      let here : itself r h x ≡ by_itself r (old.at x) (Some (WantFile payload m preserve)) (h.look x) = ap (λ (o : Option Wanted). by_itself r (old.at x) o (h.look x)) at in
      not_joined (Some (WantFile payload m preserve) ≡ Some (WantHard to)) (linked r h x) to
      (ap (λ (o : Option Wanted). joins (linked_as r h x o)) at ∙ ap (λ (c : Change). joins (cond (needs_file r h x) (Laid (File m (bytes payload))) c)) here
      ∙ file_joins (answer_at r (old.at x) payload preserve (h.look x)) (needs_file r h x) (was_equal (old.at x) (WantFile payload m preserve)) m (File m (bytes payload)) (h.look x)) is
  joins_wanted x to (Some (WantLink g)) at is =
      let here : itself r h x ≡ by_itself r (old.at x) (Some (WantLink g)) (h.look x) = ap (λ (o : Option Wanted). by_itself r (old.at x) o (h.look x)) at in
      not_joined (Some (WantLink g) ≡ Some (WantHard to)) (linked r h x) to
      (ap (λ (o : Option Wanted). joins (linked_as r h x o)) at ∙ ap joins here ∙ link_target (was_equal (old.at x) (WantLink g)) (links_to g (h.look x)) (Link g) x) is
  joins_wanted x to (Some (WantHard y)) at is =
      let here : itself r h x ≡ by_itself r (old.at x) (Some (WantHard y)) (h.look x) = ap (λ (o : Option Wanted). by_itself r (old.at x) o (h.look x)) at in
      let there : linked r h x ≡ cond (has_laid r h y) (Joined y) (cond (was_equal (old.at x) (WantHard y)) Kept (Joined y)) =
      ap (linked_as r h x) at ∙ ap (λ (c : Change). cond (has_laid r h y) (Joined y) c) here in
      ap (λ (z : List ℕ). Some (WantHard z)) (joined_to (has_laid r h y) (was_equal (old.at x) (WantHard y)) y to (sym there ∙ is))
  joins_wanted x to None at is =
      let here : linked r h x ≡ by_itself r (old.at x) None (h.look x) = ap (linked_as r h x) at ∙ ap (λ (o : Option Wanted). by_itself r (old.at x) o (h.look x)) at in
      not_joined (None ≡ Some (WantHard to)) (cond (is_support r h x) (Laid (Dir 493 false)) (linked r h x)) to
      (supported_alone (is_support r h x) (Dir 493 false) (linked r h x) (ap joins here ∙ old_alone r (old.at x) (h.look x))) is

  joined_shown : (x to : List ℕ) → change_settled r h x ≡ Joined to → is_private to ≡ false
  joined_shown x to is =
      let hard : new.at x ≡ Some (WantHard to) = joins_wanted x to (new.at x) refl is in
      false_from_ne_true _ (λ own. clash (is_file_wanted (new.at to)) (between.hards x to hard) (ap is_file_wanted (new_hidden to own)))

  target_shown : (x : List ℕ) (c : Change) → change_settled r h x ≡ c → is_private x ≡ false → is_private (target c x) ≡ false
  target_shown x Kept is s = s
  target_shown x Removed is s = s
  target_shown x (Laid e) is s = s
  target_shown x (Joined to) is s = joined_shown x to is
  target_shown x (Given m) is s = s

  settled_target : (x : List ℕ) → is_private x ≡ false → is_private (target (change_settled r h x) x) ≡ false
  settled_target x s = target_shown x (change_settled r h x) refl s

  settled_seen : (x : List ℕ) → is_private x ≡ false → (image_settled r h).look x ≡ (image_settled r v).look x
  settled_seen x s = changed_seen (change_settled r h) kept_hidden x (settled_target x s) ∙ ap (λ (c : Changes). (changed c (ranks r) v).look x) settled_all

  hidden_none : (x : List ℕ) → is_private x ≡ true → (image_settled r v).look x ≡ None
  hidden_none x own =
      ap (λ (c : Changes). left c (ranks r) v (target (c x) x)) (sym settled_all)
      ∙ ap (λ (k : Change). left (change_settled r h) (ranks r) v (target k x)) (kept_hidden x own)
      ∙ go (cleared (change_settled r h) x)
    where
      ungiven : (c : Change) (meets : Bool) → remoded c meets None ≡ None
      ungiven Kept meets = refl
      ungiven Removed meets = refl
      ungiven (Laid e) meets = refl
      ungiven (Joined to) meets = refl
      ungiven (Given m) true = refl
      ungiven (Given m) false = refl

      nothing_given : (order : List (List ℕ)) → with_given (change_settled r h) order v x None ≡ None
      nothing_given [] = refl
      nothing_given (p ∷ order) = ap (with_given (change_settled r h) order v x) (ungiven (change_settled r h p) (not (cleared (change_settled r h) p) && names v p x)) ∙ nothing_given order

      go : (b : Bool) → cond b (laid_entry (change_settled r h x)) (with_given (change_settled r h) (ranks r) v x (v.look x)) ≡ None
      go true = ap laid_entry (kept_hidden x own)
      go false = ap (with_given (change_settled r h) (ranks r) v x) (look_hidden x own) ∙ nothing_given (ranks r)

  stays_at : (x : List ℕ) → is_private x ≡ false → stays_in r h x ≡ stays_in r v x
  stays_at x s = ap (λ (o : Option Entry). is_some o && not (may_empty r h x)) (settled_seen x s) ∙ ap (λ (b : Bool). is_some ((image_settled r v).look x) && not b) (empty_at x)

  -- ---- which directories are emptied

  outside : (q x : List ℕ) → may_empty r h q ≡ true → is_below q x ≡ true → is_private x ≡ false
  outside q x m b = false_from_ne_true _ (λ own. go (comparable q records_name x (below_covers q x b) (below_covers records_name x (private_own x own))))
    where
      parts : (unstated (old.at q) ≡ true) × (is_none (new.at q) ≡ true)
      parts = let p = and_parts (unstated (old.at q)) _ m in (p.0, (and_parts (is_none (new.at q)) _ p.1).0)

      none : (o : Option Wanted) → is_dir_wanted o ≡ true → is_none o ≡ true → ⊥
      none (Some w) d n = cc
      none None d n = cc

      up : covers q records_name ≡ true → ⊥
      up over = none (new.at q) (between.above q over) parts.1

      down : covers records_name q ≡ true → (s : Bool) → same_path records_name q ≡ s → ⊥
      down over true same = up (subst (λ (z : List ℕ). covers z records_name ≡ true) (same_path-true records_name q same) (covers-self records_name))
      down over false apart = clash (unstated (old.at q)) parts.0 (ap unstated (between.none_old q (below_of records_name q over apart)))

      go : (covers q records_name ≡ true) ⊎ (covers records_name q ≡ true) → ⊥
      go (inl over) = up over
      go (inr over) = down over (same_path records_name q) refl

  module _ (e : List ℕ → Bool) (is : IsEmptied r h e) where
    stays_hidden : (q x : List ℕ) → e q ≡ true → is_below q x ≡ true → (b : Bool) → is_private x ≡ b → stays_in r v x ≡ false
    stays_hidden q x t b true own = ap (λ (o : Option Entry). is_some o && not (may_empty r v x)) (hidden_none x own)
    stays_hidden q x t b false seen = sym (stays_at x seen) ∙ is.empty q x t b

    pub emptied_seen : IsEmptied r v e
    emptied_seen = record {
      only = λ q t. sym (empty_at q) ∙ is.only q t;
      empty = λ q x t b. stays_hidden q x t b (is_private x) refl;
      full = λ q m off.
          let f = is.full q (empty_at q ∙ m) off in
          record { path = f.path; inside = f.inside; left = sym (stays_at f.path (outside q f.path (empty_at q ∙ m) f.inside)) ∙ f.left };
    }

    -- ---- what is left of it

    pub after_at : (p : List ℕ) → change_after r h e p ≡ change_after r v e p
    after_at p = ap (cond (e p) Removed) (settled_at p)

    after_all : change_after r h e ≡ change_after r v e
    after_all = λ i. λ p. after_at p i

    unemptied : (q : List ℕ) → is_private q ≡ true → e q ≡ false
    unemptied q own = false_from_ne_true _ (λ t. clash (unstated (old.at q)) (and_parts (unstated (old.at q)) _ (is.only q t)).0 (ap unstated (old_hidden q own)))

    after_hidden : (q : List ℕ) → is_private q ≡ true → change_after r h e q ≡ Kept
    after_hidden q own = ap (λ (b : Bool). cond b Removed (change_settled r h q)) (unemptied q own) ∙ kept_hidden q own

    after_target : (x : List ℕ) → is_private x ≡ false → is_private (target (change_after r h e x) x) ≡ false
    after_target x s = go (e x)
      where
        go : (b : Bool) → is_private (target (cond b Removed (change_settled r h x)) x) ≡ false
        go true = s
        go false = settled_target x s

    -- what is left at a path that isn't private
    pub left_at : (x : List ℕ) → is_private x ≡ false → (image_after r h e).look x ≡ (image_after r v e).look x
    left_at x s = changed_seen (change_after r h e) after_hidden x (after_target x s) ∙ ap (λ (c : Changes). (changed c (ranks r) v).look x) after_all
