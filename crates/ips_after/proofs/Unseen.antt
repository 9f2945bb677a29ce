-- What is private bears on no rule: what a request makes of the whole image is what it makes of the visible one.
use Rattle.std.proofs.Common.{◌≡◌, ℕ, Bool, true, false, cond, not, ◌&&◌, ◌||◌, List, [], ◌∷◌, ◌++◌, Option, Some, None, is_some, is_none, filter, refl, sym, ◌∙◌, ap, subst, inl, inr, ◌⊎◌}
use Rattle.std.proofs.lemmas.Bool.{and_left, and_parts, and_right, or_from, or_left, or_cases, not-true, false_from_ne_true}
use Rattle.std.specs.List.{list_any}
use Rattle.ips_text.specs.Ancestry.{same_path, covers, is_below}
use Rattle.ips_outside.specs.Change.{names}
use Rattle.ips_outside.specs.Image.{Dir, Entry, File, Image, IsImage, is_dir, is_file}
use Rattle.ips_steps.specs.Private.{records_name, is_private, visible}
use Rattle.ips_steps.specs.Journal.{may_name}
use Rattle.ips_after.specs.After.{IsEmptied, by_itself, change_after, change_settled, given_up, given_up_as, has_laid, holds_made, image_settled, is_stated, is_support, is_taken, is_top, itself, leads_to, linked, linked_as, may_empty, needs_file, over_or, ranks, stated, stays_in, supported, supported_as, unstated, whole_dir}
use Rattle.ips_after.specs.Change.{Change, Changes, Given, Joined, Kept, Laid, Removed, cleared, laid_entry, left, makes, reached, remoded, replaces, target, with_given}
use Rattle.ips_after.specs.Extra.{extra_or}
use Rattle.ips_after.specs.Lists.{turned}
use Rattle.ips_after.specs.Planned.{IsNameable, can_name, contents_of, lays_account, plan_order, steps_of, wants_other}
use Rattle.ips_after.specs.Request.{IsRequest, Request, WantDir, WantFile, WantHard, WantLink, Wanted, is_dir_wanted, is_file_wanted, is_hard_wanted, lays, takes}
use Rattle.ips_after.specs.Salvage.{Aside, Beside, GoesTo, Holding, IsAside, IsAsides, IsLostName, IsOwn, IsRoot, Lesser, NameTaken, Salvage, Salvaged, SavedBelow, Side, change_saving, dir_or_other, drops_edit_as, has_foreign, has_long_side, inside, is_long_path, is_lost, is_unmovable, destroys, movable, moved, moved_inside, put_beside, root_name, salvaged, salvaged_inside, saved, saved_as, saving_contents, saving_steps, side_as, side_at, side_entry, side_is, side_name, way_entry}
use Rattle.ips_text.proofs.Ancestry.{same_path-true, covers-self}
use Rattle.ips_steps.proofs.Lists.{clash}
use Rattle.ips_steps.proofs.PrivateNames.{private_below}
use Rattle.ips_after.proofs.Changed.{reach_of}
use Rattle.ips_after.proofs.Fits.{any_of, below_covers, below_of, dir_left, spares}
use Rattle.ips_after.proofs.Names.{side_facts}
use Rattle.ips_after.proofs.Naming.{named_after, seen_above, stands_above, wanted_above}
use Rattle.ips_after.proofs.Places.{front_seen, private_own, root_rest, root_seen, way_seen}
use Rattle.ips_after.proofs.Saved.{above_suffix, comparable}

-- ---- truths

pub and_second : (a b c : Bool) → c ≡ false → (a && (b && c)) ≡ false
and_second a b c h = ap (λ (x : Bool). a && (b && x)) h ∙ ap (λ (x : Bool). a && x) (and_right b false refl) ∙ and_right a false refl

mid_false : (a b c : Bool) → b ≡ true → (a && (not b && c)) ≡ false
mid_false a b c h = ap (λ (x : Bool). a && (not x && c)) h ∙ and_right a false refl

last_false : (a b : Bool) → b ≡ true → (a && not b) ≡ false
last_false a b h = ap (λ (x : Bool). a && not x) h ∙ and_right a false refl

given_none : (c : Changes) (order : List (List ℕ)) (t : Image) (q : List ℕ) → with_given c order t q None ≡ None
given_none c [] t q = refl
given_none c (p ∷ order) t q = ap (with_given c order t q) (one (c p) (not (cleared c p) && names t p q)) ∙ given_none c order t q
  where
    one : (x : Change) (b : Bool) → remoded x b None ≡ None
    one Kept b = refl
    one Removed b = refl
    one (Laid e) b = refl
    one (Joined to) b = refl
    one (Given m) true = refl
    one (Given m) false = refl

bare : (a b s : Bool) → a ≡ false → b ≡ false → cond (a || b) false s ≡ s
bare true b s ea eb = cc
bare false true s ea eb = cc
bare false false s ea eb = refl

no_make : (b : Bool) (o : Option (Option Entry)) (c : Change) → replaces (cond b Removed (over_or o c)) ≡ false → makes c ≡ false
no_make true o c h = cc
no_make false (Some (Some e)) c h = cc
no_make false (Some None) c h = cc
no_make false None Kept h = refl
no_make false None Removed h = cc
no_make false None (Laid e) h = cc
no_make false None (Joined to) h = cc
no_make false None (Given m) h = refl

-- the names that the salvage folder may have aren't private
root_name_seen : (moment : List ℕ) (k : ℕ) → is_private (root_name moment k) ≡ false
root_name_seen moment k = let b = root_rest moment k in ap is_private b.is ∙ front_seen b.rest

pub root_as_seen : (h : Image) (moment root : List ℕ) → IsRoot h moment root → IsRoot (visible h) moment root
root_as_seen h moment root is = record {
  times = is.times;
  name = is.name;
  free = shown root (ap is_private is.name ∙ root_name_seen moment is.times) ∙ is.free;
  first = λ k less none. is.first k less (sym (shown (root_name moment k) (root_name_seen moment k)) ∙ none);
}
  where
    shown : (q : List ℕ) → is_private q ≡ false → (visible h).look q ≡ h.look q
    shown q s = ap (λ (b : Bool). cond b None (h.look q)) s

-- the folder of the records can be seen
pub nameable_seen : (r : Request) (h : Image) → IsNameable r h → IsNameable r (visible h)
nameable_seen r h may = record { stands = ap is_dir (ap (λ (b : Bool). cond b None (h.look records_name)) (seen_above records_name (covers-self records_name))) ∙ may.stands; wanted = may.wanted; news = may.news; olds = may.olds; overs = may.overs }

module _ (r : Request) (h : Image) (good : IsRequest r) (formed : IsImage h) (may : IsNameable r h)
    (none_old : (q : List ℕ) → is_below records_name q ≡ true → r.old.at q ≡ None) (none_new : (q : List ℕ) → is_below records_name q ≡ true → r.new.at q ≡ None) where
  abbrev v : Image
  v = visible h

  look_seen : (q : List ℕ) → is_private q ≡ false → v.look q ≡ h.look q
  look_seen q s = ap (λ (b : Bool). cond b None (h.look q)) s

  look_hidden : (q : List ℕ) → is_private q ≡ true → v.look q ≡ None
  look_hidden q own = ap (λ (b : Bool). cond b None (h.look q)) own

  old_hidden : (q : List ℕ) → is_private q ≡ true → r.old.at q ≡ None
  old_hidden q own = none_old q (private_own q own)

  new_hidden : (q : List ℕ) → is_private q ≡ true → r.new.at q ≡ None
  new_hidden q own = none_new q (private_own q own)

  over_hidden : (q : List ℕ) → is_private q ≡ true → r.over.at q ≡ None
  over_hidden q own = go (r.over.at q) refl
    where
      go : (o : Option (Option Entry)) → r.over.at q ≡ o → r.over.at q ≡ None
      go (Some x) at = clash (is_private q) own (not-true _ (and_parts (not (is_private q)) _ (may.overs q (ap is_some at))).0)
      go None at = at

  -- ---- what becomes of a path

  itself_hidden : (q : List ℕ) → is_private q ≡ true → (t : Image) → itself r t q ≡ Kept
  itself_hidden q own t = rw (old_hidden q own, new_hidden q own) refl

  itself_at : (q : List ℕ) → itself r h q ≡ itself r v q
  itself_at q = go (is_private q) refl
    where
      go : (b : Bool) → is_private q ≡ b → itself r h q ≡ itself r v q
      go true own = itself_hidden q own h ∙ sym (itself_hidden q own v)
      go false s = ap (by_itself r (r.old.at q) (r.new.at q)) (sym (look_seen q s))

  itself_all : itself r h ≡ itself r v
  itself_all = λ i. λ q. itself_at q i

  led_hidden : (c : Changes) (p : List ℕ) → is_private p ≡ true → list_any (λ x. leads_to p (r.new.at x) && makes (c x)) r.new.keys ≡ false
  led_hidden c p own = false_from_ne_true _ (λ a. let s = any_of (λ x. leads_to p (r.new.at x) && makes (c x)) r.new.keys a in none s.path (r.new.at s.path) refl (and_parts (leads_to p (r.new.at s.path)) _ s.holds).0)
    where
      none : (x : List ℕ) (o : Option Wanted) → r.new.at x ≡ o → leads_to p o ≡ true → ⊥
      none x (Some (WantDir m)) at l = cc
      none x (Some (WantFile payload m preserve)) at l = cc
      none x (Some (WantLink g)) at l = cc
      none x (Some (WantHard to)) at l = clash (is_file_wanted (r.new.at p)) (subst (λ (y : List ℕ). is_file_wanted (r.new.at y) ≡ true) (same_path-true to p l) (good.hards x to at)) (ap is_file_wanted (new_hidden p own))
      none x None at l = cc

  needs_at : (p : List ℕ) → needs_file r h p ≡ needs_file r v p
  needs_at p = go (is_private p) refl
    where
      go : (b : Bool) → is_private p ≡ b → needs_file r h p ≡ needs_file r v p
      go true own = and_second (is_none (r.over.at p)) (not (is_file (h.look p))) _ (led_hidden (itself r h) p own) ∙ sym (and_second (is_none (r.over.at p)) (not (is_file (v.look p))) _ (led_hidden (itself r v) p own))
      go false s = ap (λ (e : Option Entry). is_none (r.over.at p) && (not (is_file e) && list_any (λ x. leads_to p (r.new.at x) && makes (itself r h x)) r.new.keys)) (sym (look_seen p s))
          ∙ ap (λ (c : Changes). is_none (r.over.at p) && (not (is_file (v.look p)) && list_any (λ x. leads_to p (r.new.at x) && makes (c x)) r.new.keys)) itself_all

  laid_at : (p : List ℕ) → has_laid r h p ≡ has_laid r v p
  laid_at p = ap (λ (n : Bool). lays (r.over.at p) || (n || makes (itself r h p))) (needs_at p) ∙ ap (λ (c : Change). lays (r.over.at p) || (needs_file r v p || makes c)) (itself_at p)

  linked_as_at : (p : List ℕ) (o : Option Wanted) → linked_as r h p o ≡ linked_as r v p o
  linked_as_at p (Some (WantDir m)) = itself_at p
  linked_as_at p (Some (WantFile payload m preserve)) =
      ap (λ (n : Bool). cond n (Laid (File m (r.bytes payload))) (itself r h p)) (needs_at p) ∙ ap (λ (c : Change). cond (needs_file r v p) (Laid (File m (r.bytes payload))) c) (itself_at p)
  linked_as_at p (Some (WantLink g)) = itself_at p
  linked_as_at p (Some (WantHard to)) = ap (λ (n : Bool). cond n (Joined to) (itself r h p)) (laid_at to) ∙ ap (λ (c : Change). cond (has_laid r v to) (Joined to) c) (itself_at p)
  linked_as_at p None = itself_at p

  linked_at : (p : List ℕ) → linked r h p ≡ linked r v p
  linked_at p = linked_as_at p (r.new.at p)

  linked_all : linked r h ≡ linked r v
  linked_all = λ i. λ p. linked_at p i

  top_at : (p : List ℕ) → is_top r h p ≡ is_top r v p
  top_at p = go (is_private p) refl
    where
      go : (b : Bool) → is_private p ≡ b → is_top r h p ≡ is_top r v p
      go true own = and_second (is_none (r.new.at p)) (is_dir (h.look p)) _ (ap is_stated (old_hidden p own)) ∙ sym (and_second (is_none (r.new.at p)) (is_dir (v.look p)) _ (ap is_stated (old_hidden p own)))
      go false s = ap (λ (e : Option Entry). is_none (r.new.at p) && (is_dir e && is_stated (r.old.at p))) (sym (look_seen p s))

  top_all : is_top r h ≡ is_top r v
  top_all = λ i. λ p. top_at p i

  taken_at : (p : List ℕ) → is_taken r h p ≡ is_taken r v p
  taken_at p = ap (λ (f : List ℕ → Bool). reached (λ q. f q || is_some (r.over.at q)) p) top_all

  linked_hidden : (q : List ℕ) → is_private q ≡ true → linked r h q ≡ Kept
  linked_hidden q own = ap (linked_as r h q) (new_hidden q own) ∙ itself_hidden q own h

  made_hidden : (p : List ℕ) → is_private p ≡ true → holds_made r h p ≡ false
  made_hidden p own = or_from _ _ (none (λ q. makes (linked r h q)) r.new.keys (λ q o. ap makes (linked_hidden q o))) (none (λ q. lays (r.over.at q)) r.over.keys (λ q o. ap lays (over_hidden q o)))
    where
      none : (f : List ℕ → Bool) (xs : List (List ℕ)) → ((q : List ℕ) → is_private q ≡ true → f q ≡ false) → list_any (λ q. is_below p q && f q) xs ≡ false
      none f xs off = false_from_ne_true _ (λ a.
          let s = any_of (λ q. is_below p q && f q) xs a in
          let parts = and_parts (is_below p s.path) (f s.path) s.holds in
          clash (f s.path) parts.1 (off s.path (private_below p s.path own (below_covers p s.path parts.0))))

  made_at : (p : List ℕ) → holds_made r h p ≡ holds_made r v p
  made_at p = ap (λ (c : Changes). list_any (λ q. is_below p q && makes (c q)) r.new.keys || list_any (λ q. is_below p q && lays (r.over.at q)) r.over.keys) linked_all

  no_support : (p : List ℕ) → is_private p ≡ true → is_support r h p ≡ false
  no_support p own = and_second (is_none (r.over.at p)) (not (is_dir (h.look p)) || is_taken r h p) _ (made_hidden p own)

  support_at : (p : List ℕ) → is_support r h p ≡ is_support r v p
  support_at p = go (is_private p) refl
    where
      go : (b : Bool) → is_private p ≡ b → is_support r h p ≡ is_support r v p
      go true own = no_support p own ∙ sym (and_second (is_none (r.over.at p)) (not (is_dir (v.look p)) || is_taken r v p) _ (sym (made_at p) ∙ made_hidden p own))
      go false s = ap (λ (e : Option Entry). is_none (r.over.at p) && ((not (is_dir e) || is_taken r h p) && holds_made r h p)) (sym (look_seen p s))
          ∙ ap (λ (x : Bool). is_none (r.over.at p) && ((not (is_dir (v.look p)) || x) && holds_made r h p)) (taken_at p)
          ∙ ap (λ (x : Bool). is_none (r.over.at p) && ((not (is_dir (v.look p)) || is_taken r v p) && x)) (made_at p)

  support_all : is_support r h ≡ is_support r v
  support_all = λ i. λ p. support_at p i

  supported_as_at : (p : List ℕ) (o : Option Wanted) → supported_as r h p o ≡ supported_as r v p o
  supported_as_at p (Some (WantDir m)) = ap (λ (s : Bool). cond s (Laid (Dir (stated m) false)) (linked r h p)) (support_at p) ∙ ap (λ (c : Change). cond (is_support r v p) (Laid (Dir (stated m) false)) c) (linked_at p)
  supported_as_at p (Some (WantFile payload m preserve)) = linked_at p
  supported_as_at p (Some (WantLink g)) = linked_at p
  supported_as_at p (Some (WantHard to)) = linked_at p
  supported_as_at p None = ap (λ (s : Bool). cond s (Laid (Dir 493 false)) (linked r h p)) (support_at p) ∙ ap (λ (c : Change). cond (is_support r v p) (Laid (Dir 493 false)) c) (linked_at p)

  supported_at : (p : List ℕ) → supported r h p ≡ supported r v p
  supported_at p = supported_as_at p (r.new.at p)

  settled_at : (p : List ℕ) → change_settled r h p ≡ change_settled r v p
  settled_at p = ap (over_or (r.over.at p)) (supported_at p)

  settled_all : change_settled r h ≡ change_settled r v
  settled_all = λ i. λ p. settled_at p i

  -- what becomes of a path is the same of the whole image
  pub after_seen : (e : List ℕ → Bool) (p : List ℕ) → change_after r h e p ≡ change_after r v e p
  after_seen e p = ap (cond (e p) Removed) (settled_at p)

  pub order_seen : plan_order r h ≡ plan_order r v
  order_seen = ap (λ (s : List ℕ → Bool).
      turned (filter (λ p. is_none (r.new.at p) && not (is_some (r.over.at p) || (is_none (r.new.at p) && s p))) r.old.keys)
      ++ (filter (λ p. is_some (r.old.at p) && is_dir_wanted (r.new.at p)) r.new.keys
      ++ (filter (λ p. is_some (r.old.at p) && wants_other r p) r.new.keys
      ++ (filter (λ p. is_none (r.old.at p) && is_dir_wanted (r.new.at p)) r.new.keys
      ++ (filter (λ p. is_none (r.old.at p) && wants_other r p) r.new.keys
      ++ (filter (λ p. cond (is_some (r.over.at p)) (r.over.is_account p) ((is_none (r.new.at p) && s p) && list_any (λ q. is_below p q && lays_account r q) r.over.keys)) r.over.keys
      ++ (filter (λ p. is_hard_wanted (r.new.at p)) r.new.keys
      ++ filter (λ p. (is_some (r.over.at p) || (is_none (r.new.at p) && s p)) && not (cond (is_some (r.over.at p)) (r.over.is_account p) ((is_none (r.new.at p) && s p) && list_any (λ q. is_below p q && lays_account r q) r.over.keys))) r.over.keys))))))) support_all

  empty_at : (p : List ℕ) → may_empty r h p ≡ may_empty r v p
  empty_at p = go (is_private p) refl
    where
      go : (b : Bool) → is_private p ≡ b → may_empty r h p ≡ may_empty r v p
      go true own = and_left (unstated (r.old.at p)) _ (ap unstated (old_hidden p own)) ∙ sym (and_left (unstated (r.old.at p)) _ (ap unstated (old_hidden p own)))
      go false s = ap (λ (e : Option Entry). unstated (r.old.at p) && (is_none (r.new.at p) && (whole_dir e && (is_none (r.over.at p) && not (is_support r h p))))) (sym (look_seen p s))
          ∙ ap (λ (x : Bool). unstated (r.old.at p) && (is_none (r.new.at p) && (whole_dir (v.look p) && (is_none (r.over.at p) && not x)))) (support_at p)

  -- ---- what is left before directories are emptied

  kept_hidden : (q : List ℕ) → is_private q ≡ true → change_settled r h q ≡ Kept
  kept_hidden q own = ap (λ (o : Option (Option Entry)). over_or o (supported r h q)) (over_hidden q own) ∙ ap (supported_as r h q) (new_hidden q own)
      ∙ ap (λ (s : Bool). cond s (Laid (Dir 493 false)) (linked r h q)) (no_support q own) ∙ linked_hidden q own

  same_seen : (a b : List ℕ) → is_private a ≡ false → is_private b ≡ false → v.same a b ≡ h.same a b
  same_seen a b sa sb = bare (is_private a) (is_private b) (h.same a b) sa sb

  given_seen : (c : Changes) → ((x : List ℕ) → is_private x ≡ true → c x ≡ Kept) → (order : List (List ℕ)) (q : List ℕ) → is_private q ≡ false → (e : Option Entry) → with_given c order h q e ≡ with_given c order v q e
  given_seen c keep [] q s e = refl
  given_seen c keep (p ∷ order) q s e = given_seen c keep order q s (remoded (c p) (not (cleared c p) && names h p q) e) ∙ ap (with_given c order v q) (one (is_private p) refl)
    where
      one : (b : Bool) → is_private p ≡ b → remoded (c p) (not (cleared c p) && names h p q) e ≡ remoded (c p) (not (cleared c p) && names v p q) e
      one true own = ap (λ (k : Change). remoded k (not (cleared c p) && names h p q) e) (keep p own) ∙ sym (ap (λ (k : Change). remoded k (not (cleared c p) && names v p q) e) (keep p own))
      one false seen = ap (λ (b : Bool). remoded (c p) (not (cleared c p) && (same_path p q || b)) e) (sym (same_seen p q seen s))

  target_seen : (c : Change) (x : List ℕ) → can_name c x ≡ true → is_private x ≡ false → is_private (target c x) ≡ false
  target_seen Kept x can s = s
  target_seen Removed x can s = s
  target_seen (Laid e) x can s = s
  target_seen (Joined to) x can s = not-true _ (and_parts (not (is_private to)) _ (and_parts (may_name x) _ can).1).0
  target_seen (Given m) x can s = s

  module _ (e : List ℕ → Bool) (is : IsEmptied r h e) where
    wanted_up : (z : List ℕ) → covers z records_name ≡ true → is_dir_wanted (r.new.at z) ≡ true
    wanted_up z up = wanted_above r h e good formed (spares r h e is) may z up

    settled_is : (x : List ℕ) → may_empty r h x ≡ false → change_after r h e x ≡ change_settled r h x
    settled_is x off = ap (λ (b : Bool). cond b Removed (change_settled r h x)) (false_from_ne_true _ (λ t. clash (may_empty r h x) (is.only x t) off))

    settled_seen : (x : List ℕ) → is_private x ≡ false → may_empty r h x ≡ false → (image_settled r h).look x ≡ (image_settled r v).look x
    settled_seen x s off =
        let cs : Changes = change_settled r h in
        let y : List ℕ = target (cs x) x in
        let ys : is_private y ≡ false = target_seen (cs x) x (ap (λ (c : Change). can_name c x) (sym (settled_is x off)) ∙ named_after r h e good formed (spares r h e is) may x) s in
        ap (cond (cleared cs y) (laid_entry (cs y))) (given_seen cs kept_hidden (ranks r) y ys (h.look y) ∙ ap (with_given cs (ranks r) v y) (sym (look_seen y ys)))
        ∙ ap (λ (c : Changes). left c (ranks r) v (target (c x) x)) settled_all

    hidden_none : (x : List ℕ) → is_private x ≡ true → (image_settled r v).look x ≡ None
    hidden_none x own =
        ap (λ (c : Changes). left c (ranks r) v (target (c x) x)) (sym settled_all)
        ∙ ap (λ (k : Change). left (change_settled r h) (ranks r) v (target k x)) (kept_hidden x own)
        ∙ go (cleared (change_settled r h) x)
      where
        go : (b : Bool) → cond b (laid_entry (change_settled r h x)) (with_given (change_settled r h) (ranks r) v x (v.look x)) ≡ None
        go true = ap laid_entry (kept_hidden x own)
        go false = ap (with_given (change_settled r h) (ranks r) v x) (look_hidden x own) ∙ given_none (change_settled r h) (ranks r) v x

    stays_at : (x : List ℕ) → is_private x ≡ false → stays_in r h x ≡ stays_in r v x
    stays_at x s = go (may_empty r h x) refl
      where
        go : (b : Bool) → may_empty r h x ≡ b → stays_in r h x ≡ stays_in r v x
        go true m = last_false (is_some ((image_settled r h).look x)) (may_empty r h x) m ∙ sym (last_false (is_some ((image_settled r v).look x)) (may_empty r v x) (sym (empty_at x) ∙ m))
        go false m = ap (λ (o : Option Entry). is_some o && not (may_empty r h x)) (settled_seen x s m) ∙ ap (λ (b : Bool). is_some ((image_settled r v).look x) && not b) (empty_at x)

    outside : (q x : List ℕ) → may_empty r h q ≡ true → is_below q x ≡ true → is_private x ≡ false
    outside q x m b = false_from_ne_true _ (λ own. go (comparable q records_name x (below_covers q x b) (below_covers records_name x (private_own x own))))
      where
        parts : (unstated (r.old.at q) ≡ true) × (is_none (r.new.at q) ≡ true)
        parts = let p = and_parts (unstated (r.old.at q)) _ m in (p.0, (and_parts (is_none (r.new.at q)) _ p.1).0)

        none : (o : Option Wanted) → is_dir_wanted o ≡ true → is_none o ≡ true → ⊥
        none (Some w) d n = cc
        none None d n = cc

        up : covers q records_name ≡ true → ⊥
        up over = none (r.new.at q) (wanted_up q over) parts.1

        down : covers records_name q ≡ true → (s : Bool) → same_path records_name q ≡ s → ⊥
        down over true same = up (subst (λ (z : List ℕ). covers z records_name ≡ true) (same_path-true records_name q same) (covers-self records_name))
        down over false apart = clash (unstated (r.old.at q)) parts.0 (ap unstated (none_old q (below_of records_name q over apart)))

        go : (covers q records_name ≡ true) ⊎ (covers records_name q ≡ true) → ⊥
        go (inl over) = up over
        go (inr over) = down over (same_path records_name q) refl

    pub emptied_seen : IsEmptied r v e
    emptied_seen = record {
      only = λ q t. sym (empty_at q) ∙ is.only q t;
      empty = λ q x t b. none q x t b (is_private x) refl;
      full = λ q m off.
          let f = is.full q (empty_at q ∙ m) off in
          record { path = f.path; inside = f.inside; left = sym (stays_at f.path (outside q f.path (empty_at q ∙ m) f.inside)) ∙ f.left };
    }
      where
        none : (q x : List ℕ) → e q ≡ true → is_below q x ≡ true → (b : Bool) → is_private x ≡ b → stays_in r v x ≡ false
        none q x t b true own = ap (λ (o : Option Entry). is_some o && not (may_empty r v x)) (hidden_none x own)
        none q x t b false seen = sym (stays_at x seen) ∙ is.empty q x t b

    -- ---- what is salvaged

    no_make_up : (z : List ℕ) → covers z records_name ≡ true → makes (supported r h z) ≡ false
    no_make_up z up = no_make (e z) (r.over.at z) (supported r h z) (dir_left r h e good formed (spares r h e is) z (r.new.at z) refl (wanted_up z up) (stands_above r h e good formed (spares r h e is) may z up))

    destroys_at : (p : List ℕ) → destroys r h p ≡ destroys r v p
    destroys_at p = go (is_private p) refl
      where
        go : (b : Bool) → is_private p ≡ b → destroys r h p ≡ destroys r v p
        go true own =
            let c : covers records_name p ≡ true = below_covers records_name p (private_own p own) in
            mid_false (makes (supported r h p)) (covers records_name p) _ c ∙ sym (mid_false (makes (supported r v p)) (covers records_name p) _ c)
        go false s = ap (λ (c : Change). makes c && (not (covers records_name p) && not (saved_as r (r.old.at p) (r.new.at p) (h.look p)))) (supported_at p)
            ∙ ap (λ (e : Option Entry). makes (supported r v p) && (not (covers records_name p) && not (saved_as r (r.old.at p) (r.new.at p) e))) (sym (look_seen p s))

    destroys_all : destroys r h ≡ destroys r v
    destroys_all = λ i. λ p. destroys_at p i

    -- what is at or above the folder of the records is neither destroyed nor goes
    over_own : (z p : List ℕ) → covers z p ≡ true → is_private p ≡ true → (covers z records_name ≡ true) ⊎ (is_below records_name z ≡ true)
    over_own z p over own = go (comparable z records_name p over (below_covers records_name p (private_own p own)))
      where
        same : (s : Bool) → same_path records_name z ≡ s → covers records_name z ≡ true → (covers z records_name ≡ true) ⊎ (is_below records_name z ≡ true)
        same true at down = inl (subst (λ (x : List ℕ). covers x records_name ≡ true) (same_path-true records_name z at) (covers-self records_name))
        same false apart down = inr (below_of records_name z down apart)

        go : (covers z records_name ≡ true) ⊎ (covers records_name z ≡ true) → (covers z records_name ≡ true) ⊎ (is_below records_name z ≡ true)
        go (inl up) = inl up
        go (inr down) = same (same_path records_name z) refl down

    none_destroyed : (p : List ℕ) → is_private p ≡ true → reached (destroys r h) p ≡ false
    none_destroyed p own = false_from_ne_true _ (λ a. let z = reach_of (destroys r h) p a in go z.at z.holds (over_own z.at p z.over own))
      where
        go : (z : List ℕ) → destroys r h z ≡ true → (covers z records_name ≡ true) ⊎ (is_below records_name z ≡ true) → ⊥
        go z d (inl up) = clash (makes (supported r h z)) (and_parts (makes (supported r h z)) _ d).0 (no_make_up z up)
        go z d (inr down) = clash (destroys r h z) d (mid_false (makes (supported r h z)) (covers records_name z) _ (below_covers records_name z down))

    none_top : (p : List ℕ) → is_private p ≡ true → reached (is_top r h) p ≡ false
    none_top p own = false_from_ne_true _ (λ a. let z = reach_of (is_top r h) p a in go z.at z.holds (over_own z.at p z.over own))
      where
        none : (o : Option Wanted) → is_dir_wanted o ≡ true → is_none o ≡ true → ⊥
        none (Some w) d n = cc
        none None d n = cc

        go : (z : List ℕ) → is_top r h z ≡ true → (covers z records_name ≡ true) ⊎ (is_below records_name z ≡ true) → ⊥
        go z t (inl up) = none (r.new.at z) (wanted_up z up) (and_parts (is_none (r.new.at z)) _ t).0
        go z t (inr down) = clash (is_top r h z) t (and_second (is_none (r.new.at z)) (is_dir (h.look z)) _ (ap is_stated (none_old z down)))

    salvaged_hidden : (p : List ℕ) → is_private p ≡ true → salvaged r h p ≡ false
    salvaged_hidden p own = and_second (is_some (h.look p)) (not (given_up r h p)) _
        (or_from _ _ (none_destroyed p own) (or_from _ _ (none_top p own) (ap (λ (o : Option Wanted). drops_edit_as r o (r.new.at p) (h.look p)) (old_hidden p own))))

    pub salvaged_seen : (p : List ℕ) → salvaged r h p ≡ salvaged r v p
    salvaged_seen p = go (is_private p) refl
      where
        go : (b : Bool) → is_private p ≡ b → salvaged r h p ≡ salvaged r v p
        go true own = salvaged_hidden p own ∙ sym (and_left (is_some (v.look p)) _ (ap is_some (look_hidden p own)))
        go false s = ap (λ (e : Option Entry). is_some e && (not (given_up_as r.holds (r.old.at p) e || reached (λ q. takes (r.over.at q)) p)
            && (reached (destroys r h) p || (reached (is_top r h) p || drops_edit_as r (r.old.at p) (r.new.at p) e)))) (sym (look_seen p s))
            ∙ ap (λ (f : List ℕ → Bool). is_some (v.look p) && (not (given_up r v p) && (reached f p || (reached (is_top r h) p || drops_edit_as r (r.old.at p) (r.new.at p) (v.look p))))) destroys_all
            ∙ ap (λ (f : List ℕ → Bool). is_some (v.look p) && (not (given_up r v p) && (reached (destroys r v) p || (reached f p || drops_edit_as r (r.old.at p) (r.new.at p) (v.look p))))) top_all

    salvaged_shown : (p : List ℕ) → salvaged r h p ≡ true → is_private p ≡ false
    salvaged_shown p s = false_from_ne_true _ (λ own. clash (salvaged r h p) s (salvaged_hidden p own))

    -- ---- side names

    pub side_seen : (p : List ℕ) → side_at r h p ≡ side_at r v p
    side_seen p = go (is_private p) refl
      where
        go : (b : Bool) → is_private p ≡ b → side_at r h p ≡ side_at r v p
        go true own = ap (λ (o : Option Wanted). side_as r (r.old.at p) o (h.look p)) (new_hidden p own) ∙ sym (ap (λ (o : Option Wanted). side_as r (r.old.at p) o (v.look p)) (new_hidden p own))
        go false s = ap (side_as r (r.old.at p) (r.new.at p)) (sym (look_seen p s))

    beside_shown : (p : List ℕ) (side : Side) → side_at r h p ≡ Some side → is_private (p ++ side.suffix) ≡ false
    beside_shown p side at = false_from_ne_true _ (λ own.
        let f = side_facts r h p side at in
        clash (is_some (r.new.at p)) f.1 (ap is_some (none_new p (above_suffix records_name p side.suffix f.0.free f.0.some (private_own (p ++ side.suffix) own)))))

    lost_seen : (name : List ℕ) → is_private name ≡ false → is_lost r h name ≡ is_lost r v name
    lost_seen name s = ap (λ (e : Option Entry). (is_some (r.old.at name) || is_some (r.new.at name)) || dir_or_other e) (sym (look_seen name s))

    name_seen : (a : Aside) (p : List ℕ) (side : Side) → side_at r h p ≡ Some side → side_name r h a p side ≡ side_name r v a p side
    name_seen a p side at = ap (λ (b : Bool). cond b (a.lost p) (p ++ side.suffix)) (lost_seen (p ++ side.suffix) (beside_shown p side at))

    goes_seen : (a : Aside) (q : List ℕ) → GoesTo r h a q → GoesTo r v a q
    goes_seen a q (Salvage p s) = Salvage p (sym (salvaged_seen p) ∙ s)
    goes_seen a q (Beside p side at) = subst (GoesTo r v a) (sym (name_seen a p side at)) (Beside p side (sym (side_seen p) ∙ at))

    goes_whole : (a : Aside) (q : List ℕ) → GoesTo r v a q → GoesTo r h a q
    goes_whole a q (Salvage p s) = Salvage p (salvaged_seen p ∙ s)
    goes_whole a q (Beside p side at) = let here : side_at r h p ≡ Some side = side_seen p ∙ at in subst (GoesTo r h a) (name_seen a p side here) (Beside p side here)

    saved_below : (a : Aside) (q : List ℕ) → SavedBelow r h a q → SavedBelow r v a q
    saved_below a q b = record { at = b.at; inside_it = b.inside_it; goes = goes_seen a b.at b.goes }

    below_whole : (a : Aside) (q : List ℕ) → SavedBelow r v a q → SavedBelow r h a q
    below_whole a q b = record { at = b.at; inside_it = b.inside_it; goes = goes_whole a b.at b.goes }

    name_taken : (a : Aside) (p q : List ℕ) → NameTaken r h a p q → NameTaken r v a p q
    name_taken a p q (Holding name b) = Holding name (saved_below a name b)
    name_taken a p q (Salvaged x s) = Salvaged x (sym (salvaged_seen x) ∙ s)
    name_taken a p q (Lesser x side at less) = subst (NameTaken r v a p) (sym (name_seen a x side at)) (Lesser x side (sym (side_seen x) ∙ at) less)

    taken_whole : (a : Aside) (p q : List ℕ) → NameTaken r v a p q → NameTaken r h a p q
    taken_whole a p q (Holding name b) = Holding name (below_whole a name b)
    taken_whole a p q (Salvaged x s) = Salvaged x (salvaged_seen x ∙ s)
    taken_whole a p q (Lesser x side at less) = let here : side_at r h x ≡ Some side = side_seen x ∙ at in subst (NameTaken r h a p) (name_seen a x side here) (Lesser x side here less)

    lost_name : (a : Aside) (p : List ℕ) (side : Side) → IsLostName r h a p side → IsLostName r v a p side
    lost_name a p side n = record {
      times = n.times;
      name = n.name;
      free = λ t. n.free (taken_whole a p (a.lost p) t);
      first = λ k less. name_taken a p _ (n.first k less);
    }

  -- ---- what is saved

  module _ (moment : List ℕ) (a : Aside) (own : IsOwn r h a) (at_root : IsRoot h moment a.root) (is : IsAside r h a) where
    abbrev e : List ℕ → Bool
    e = a.emptied

    salvage_seen : (p : List ℕ) → salvaged r h p ≡ salvaged r v p
    salvage_seen = salvaged_seen e is.is_emptied

    way_shown : (q : List ℕ) → (covers q a.root || covers a.root q) ≡ true → is_private q ≡ false
    way_shown q w = way_seen moment r h a good formed own is at_root q (or_cases (covers q a.root) (covers a.root q) w)

    root_shown : is_private a.root ≡ false
    root_shown = root_seen moment r h a good formed own is at_root a.root (covers-self a.root)

    pub aside_seen : IsAside r v a
    aside_seen = record {
      no_root = look_seen a.root root_shown ∙ is.no_root;
      is_emptied = emptied_seen e is.is_emptied;
      ways_only = λ q w.
          let x = is.ways_only q w in
          (saved_below e is.is_emptied a q x.0, ap is_dir (look_seen q (way_shown q x.2)) ∙ x.1, x.2);
      ways_all = λ q b d near. is.ways_all q (below_whole e is.is_emptied a q b) (ap is_dir (sym (look_seen q (way_shown q near))) ∙ d) near;
      names = λ p side at lost.
          let here : side_at r h p ≡ Some side = side_seen e is.is_emptied p ∙ at in
          lost_name e is.is_emptied a p side (is.names p side here (lost_seen e is.is_emptied (p ++ side.suffix) (beside_shown e is.is_emptied p side here) ∙ lost));
    }

    side_is_seen : (q p : List ℕ) (s : Option Side) → side_at r h p ≡ s → side_is r h a q p s ≡ side_is r v a q p s
    side_is_seen q p (Some side) at = ap (λ (x : List ℕ). same_path x q) (name_seen e is.is_emptied a p side at)
    side_is_seen q p None at = refl

    beside_seen : (keys : List (List ℕ)) (q : List ℕ) (o : Option Entry) → put_beside r h a keys q o ≡ put_beside r v a keys q o
    beside_seen [] q o = refl
    beside_seen (p ∷ keys) q o =
        ap (λ (b : Bool). cond b (side_entry (side_at r h p)) (put_beside r h a keys q o)) (side_is_seen q p (side_at r h p) refl)
        ∙ ap (λ (s : Option Side). cond (side_is r v a q p s) (side_entry s) (put_beside r h a keys q o)) (side_seen e is.is_emptied p)
        ∙ ap (cond (side_is r v a q p (side_at r v p)) (side_entry (side_at r v p))) (beside_seen keys q o)

    pub saved_seen : (q : List ℕ) → saved r h a q ≡ saved r v a q
    saved_seen q = go (inside a.root q)
      where
        one : (b : Bool) (x : List ℕ) → salvaged r h x ≡ b → cond b (moved (h.look x)) (put_beside r h a r.new.keys q (way_entry (a.ways q))) ≡ cond b (moved (v.look x)) (put_beside r v a r.new.keys q (way_entry (a.ways q)))
        one true x s = ap moved (sym (look_seen x (salvaged_shown e is.is_emptied x s)))
        one false x s = beside_seen r.new.keys q (way_entry (a.ways q))

        go : (o : Option (List ℕ)) → cond (salvaged_inside r h o) (moved_inside h o) (put_beside r h a r.new.keys q (way_entry (a.ways q))) ≡ cond (salvaged_inside r v o) (moved_inside v o) (put_beside r v a r.new.keys q (way_entry (a.ways q)))
        go (Some x) = one (salvaged r h x) x refl ∙ ap (λ (b : Bool). cond b (moved (v.look x)) (put_beside r v a r.new.keys q (way_entry (a.ways q)))) (salvage_seen x)
        go None = beside_seen r.new.keys q (way_entry (a.ways q))

    pub change_seen : (q : List ℕ) → change_saving r h a q ≡ change_saving r v a q
    change_seen q = ap (λ (o : Option Entry). extra_or o (change_after r h a.emptied q)) (saved_seen q) ∙ ap (extra_or (saved r v a q)) (after_seen a.emptied q)

    pub steps_seen : (asides : List (List ℕ)) → saving_steps r h a asides ≡ saving_steps r v a asides
    steps_seen asides = ap (λ (c : Changes). steps_of c 0 (asides ++ plan_order r h)) (λ i. λ q. change_seen q i) ∙ ap (λ (o : List (List ℕ)). steps_of (change_saving r v a) 0 (asides ++ o)) order_seen

    pub contents_seen : (asides : List (List ℕ)) → saving_contents r h a asides ≡ saving_contents r v a asides
    contents_seen asides = ap (λ (c : Changes). contents_of c (asides ++ plan_order r h)) (λ i. λ q. change_seen q i) ∙ ap (λ (o : List (List ℕ)). contents_of (change_saving r v a) (asides ++ o)) order_seen

    pub asides_seen : (asides : List (List ℕ)) → IsAsides r h a asides → IsAsides r v a asides
    asides_seen asides x = record { all = λ q. ap is_some (sym (saved_seen q)) ∙ x.all q; by_bytes = x.by_bytes }

    pub own_seen : IsOwn r v a
    own_seen = record {
      stands = ap is_dir (look_seen records_name (way_shown records_name (or_left _ _ (below_covers records_name a.root own.inside)))) ∙ own.stands;
      wanted = own.wanted;
      none_new = own.none_new;
      none_old = own.none_old;
      inside = own.inside;
      apart = λ q s. own.apart q (ap is_some (saved_seen q) ∙ s);
      above = λ p q s. own.above p q (ap is_some (saved_seen p) ∙ s);
    }

    pub unmovable_seen : (p : List ℕ) → is_unmovable r h a p ≡ is_unmovable r v a p
    unmovable_seen p = go (is_private p) refl
      where
        long_side : (s : Option Side) → side_at r h p ≡ s → has_long_side r h a p s ≡ has_long_side r v a p s
        long_side (Some side) at = ap is_long_path (name_seen e is.is_emptied a p side at)
        long_side None at = refl

        sides : has_long_side r h a p (side_at r h p) ≡ has_long_side r v a p (side_at r v p)
        sides = long_side (side_at r h p) refl ∙ ap (has_long_side r v a p) (side_seen e is.is_emptied p)

        three : (x y z x' y' z' : Bool) → x ≡ x' → y ≡ y' → z ≡ z' → (x || (y || z)) ≡ (x' || (y' || z'))
        three x y z x' y' z' p q s = rw (p, q, s) refl

        go : (b : Bool) → is_private p ≡ b → is_unmovable r h a p ≡ is_unmovable r v a p
        go true hidden =
            let no : salvaged r h p ≡ false = salvaged_hidden e is.is_emptied p hidden in
            let c : covers records_name p ≡ true = below_covers records_name p (private_own p hidden) in
            three _ _ _ _ _ _
            (and_left (salvaged r h p) _ no ∙ sym (and_left (salvaged r v p) _ (sym (salvage_seen p) ∙ no)))
            (mid_false (has_foreign (h.look p)) (covers records_name p) _ c ∙ sym (mid_false (has_foreign (v.look p)) (covers records_name p) _ c))
            sides
        go false s = three _ _ _ _ _ _
            (ap (λ (b : Bool). b && (not (movable (h.look p)) || is_long_path (a.root ++ 47 ∷ p))) (salvage_seen p) ∙ ap (λ (o : Option Entry). salvaged r v p && (not (movable o) || is_long_path (a.root ++ 47 ∷ p))) (sym (look_seen p s)))
            (ap (λ (o : Option Entry). has_foreign o && (not (covers records_name p) && ((given_up_as r.holds (r.old.at p) o || reached (λ q. takes (r.over.at q)) p) && cleared (change_after r h a.emptied) p))) (sym (look_seen p s))
            ∙ ap (λ (f : Changes). has_foreign (v.look p) && (not (covers records_name p) && (given_up r v p && cleared f p))) (λ i. λ q. after_seen a.emptied q i))
            sides
