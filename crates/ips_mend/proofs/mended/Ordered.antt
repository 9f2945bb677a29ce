-- The order of a repair's plan.
use Rattle.std.proofs.Common.{◌≡◌, ◌⊎◌, inl, inr, ℕ, suc, ◌+◌, ◌<◌, ◌≤◌, Bool, true, false, cond, not, ◌&&◌, ◌||◌, List, [], ◌∷◌, ◌++◌, filter, length, map, Option, Some, None, is_some, is_none, refl, sym, ◌∙◌, ap, subst, arith, append_assoc, get_or}
use Rattle.std.specs.Prelude.{slice_get}
use Rattle.std.specs.List.{AllByRecursion, list_any}
use Rattle.std.specs.List.Sorted.{IsStrictlySortedBy}
use Rattle.std.specs.Option.{option_map}
use Rattle.std.specs.Ordering.{nat_cmp}
use Rattle.std.specs.Cmp.Lexicographic.{slice_cmp}
use Rattle.std.proofs.lemmas.Bool.{and_parts, false_from_ne_true, or_cases}
use Rattle.std.proofs.lemmas.List.{map-append}
use Rattle.std.proofs.lemmas.Option.{slice_get-map}
use Rattle.ips_text.specs.Ancestry.{is_below}
use Rattle.ips_text.proofs.Lists.{all_append}
use Rattle.ips_outside.specs.Image.{Entry as Standing, Image, is_dir}
use Rattle.ips_after.specs.After.{holds_made, is_support, is_taken, linked}
use Rattle.ips_after.specs.Change.{makes}
use Rattle.ips_after.specs.Findings.{Damage}
use Rattle.ips_after.specs.Lists.{listed, turned}
use Rattle.ips_after.specs.Planned.{is_apart, is_early, is_late, is_spare, lays_account, plan_order, wants_other}
use Rattle.ips_after.specs.Repaired.{IsRepair, Repair, found, request_of, spoiled}
use Rattle.ips_after.specs.Request.{Request, Wanted, is_dir_wanted, is_hard_wanted, lays}
use Rattle.ips_after.proofs.Fits.{any_of}
use Rattle.ips_after.proofs.Order.{filter_none}
use Rattle.ips_meaning.specs.declared.entry.Entry.{Entry}
use Rattle.ips_change.specs.wanted.Wanted.{want_of, wanted_of}
use Rattle.ips_emptied.specs.order.Chosen.{chosen, path_in}
use Rattle.ips_emptied.proofs.order.Filtered.{same_filtered}
use Rattle.ips_emptied.proofs.order.Places.{chosen_paths, chosen_within}
use Rattle.ips_change.proofs.survey.Marking.{mark_there}
use Rattle.ips_mend.proofs.mended.Merged.{entry_there}
use Rattle.ips_mend.specs.declared.mended.ordering.Group.{Group}
use Rattle.ips_mend.specs.declared.mended.ordering.Group.TheVariants.{Dirs, Others, Hards}
use Rattle.ips_mend.specs.mended.Ordering.{is_of, is_of_at, wanted_order}

-- ---- what is wanted and was

dirs_were : (o : Option Wanted) (d : Option Damage) → (is_some (spoiled o d) && is_dir_wanted o) ≡ is_dir_wanted o
dirs_were None d = refl
dirs_were (Some w) None = refl
dirs_were (Some w) (Some d) = refl

no_dirs_new : (o : Option Wanted) (d : Option Damage) → (is_none (spoiled o d) && is_dir_wanted o) ≡ false
no_dirs_new None d = refl
no_dirs_new (Some w) None = refl
no_dirs_new (Some w) (Some d) = refl

none_new : (o : Option Wanted) (d : Option Damage) (b : Bool) → is_some o ≡ true → (is_none (spoiled o d) && b) ≡ false
none_new None d b h = cc
none_new (Some w) None b h = refl
none_new (Some w) (Some d) b h = refl

plain_and : (a b : Bool) → (a && (b && true)) ≡ (a && b)
plain_and true true = refl
plain_and true false = refl
plain_and false b = refl

rest_were : (o : Option Wanted) (d : Option Damage) (v : Option (Option Standing)) → is_some o ≡ true → v ≡ None
    → (is_some (spoiled o d) && (not (is_dir_wanted o) && (not (is_hard_wanted o) && is_none v))) ≡ is_of Others o
rest_were None d v h s = cc
rest_were (Some w) None v h s = rw s (plain_and (not (is_dir_wanted (Some w))) (not (is_hard_wanted (Some w))))
rest_were (Some w) (Some d) v h s = rw s (plain_and (not (is_dir_wanted (Some w))) (not (is_hard_wanted (Some w))))

dir_or_none : (o : Option Wanted) → is_none o ≡ true → is_dir_wanted o ≡ true → ⊥
dir_or_none None h k = cc
dir_or_none (Some w) h k = cc

gone_not : (o : Option Wanted) (b : Bool) → is_some o ≡ true → (is_none o && b) ≡ false
gone_not (Some w) b h = refl
gone_not None b h = cc

both : {a b c d : List (List ℕ)} → a ≡ b → c ≡ d → a ++ c ≡ b ++ d
both {a} {b} {c} {d} h k = ap (λ (l : List (List ℕ)). l ++ c) h ∙ ap (λ (l : List (List ℕ)). b ++ l) k

module _ (f : Repair) (t : Image) (good : IsRepair f) (records : (q : List ℕ) → is_some (f.over.at q) ≡ true → f.over.is_account q ≡ false) where
  abbrev r : Request
  r = request_of f t

  abbrev keys : List (List ℕ)
  keys = f.want.keys

  wanted : (q : List ℕ) → listed keys q ≡ true → is_some (f.want.at q) ≡ true
  wanted q h = good.want_fits.keyed q ∙ h

  -- no directory is made for what is put alone
  spare_none : (q : List ℕ) → is_spare r t q ≡ false
  spare_none q = false_from_ne_true _ (λ spare.
      let parts = and_parts (is_none (f.want.at q)) (is_support r t q) spare in
      let one = and_parts (is_none (f.over.at q)) ((not (is_dir (t.look q)) || is_taken r t q) && holds_made r t q) parts.1 in
      let two = and_parts (not (is_dir (t.look q)) || is_taken r t q) (holds_made r t q) one.1 in
      dir_or_none (f.want.at q) parts.0 (go q (or_cases _ _ two.1)))
    where
      go : (q : List ℕ) → (list_any (λ x. is_below q x && makes (linked r t x)) keys ≡ true) ⊎ (list_any (λ x. is_below q x && lays (f.over.at x)) f.over.keys ≡ true) → is_dir_wanted (f.want.at q) ≡ true
      go q (inl some) =
          let x = any_of (λ x. is_below q x && makes (linked r t x)) keys some in
          let sides = and_parts (is_below q x.path) (makes (linked r t x.path)) x.holds in
          good.want_fits.dirs q x.path sides.0 (wanted x.path x.in_list)
      go q (inr some) =
          let x = any_of (λ x. is_below q x && lays (f.over.at x)) f.over.keys some in
          let sides = and_parts (is_below q x.path) (lays (f.over.at x.path)) x.holds in
          good.above q x.path sides.0 sides.1

  early_none : (q : List ℕ) → is_early r t q ≡ false
  early_none q = go (is_some (f.over.at q)) refl
    where
      go : (b : Bool) → is_some (f.over.at q) ≡ b → cond b (f.over.is_account q) (is_spare r t q && list_any (λ x. is_below q x && lays_account r x) f.over.keys) ≡ false
      go true h = records q h
      go false h = ap (λ (b : Bool). b && list_any (λ x. is_below q x && lays_account r x) f.over.keys) (spare_none q)

  late_is : (q : List ℕ) → is_late r t q ≡ is_some (f.over.at q)
  late_is q =
      ap (λ (b : Bool). (is_some (f.over.at q) || b) && not (is_early r t q)) (spare_none q)
      ∙ ap (λ (b : Bool). (is_some (f.over.at q) || false) && not b) (early_none q) ∙ plain (is_some (f.over.at q))
    where
      plain : (b : Bool) → ((b || false) && true) ≡ b
      plain true = refl
      plain false = refl

  among : (g h : List ℕ → Bool) → ((q : List ℕ) → listed keys q ≡ true → g q ≡ h q) → filter g keys ≡ filter h keys
  among g h same = same_filtered g h keys keys good.want_fits.by_bytes good.want_fits.by_bytes (λ q. go (listed keys q) (g q) (h q) (same q))
    where
      go : (l a b : Bool) → (l ≡ true → a ≡ b) → (l && a) ≡ (l && b)
      go true a b alike = alike refl
      go false a b alike = refl

  pub order_is : plan_order r t ≡ wanted_order f.want ++ filter (λ p. is_some (f.over.at p)) f.over.keys
  order_is =
      let gone = ap turned (filter_none (λ p. is_none (f.want.at p) && not (is_apart r t p)) keys (λ q h. gone_not (f.want.at q) (not (is_apart r t q)) (wanted q h))) in
      let dirs = among (λ p. is_some (r.old.at p) && is_dir_wanted (f.want.at p)) (is_of_at Dirs f.want) (λ q h. dirs_were (f.want.at q) (found f t q)) in
      let others = among (λ p. is_some (r.old.at p) && wants_other r p) (is_of_at Others f.want) (λ q h. rest_were (f.want.at q) (found f t q) (f.over.at q) (wanted q h) (good.silent q (wanted q h))) in
      let new_dirs = filter_none (λ p. is_none (r.old.at p) && is_dir_wanted (f.want.at p)) keys (λ q h. no_dirs_new (f.want.at q) (found f t q)) in
      let new_others = filter_none (λ p. is_none (r.old.at p) && wants_other r p) keys (λ q h. none_new (f.want.at q) (found f t q) (wants_other r q) (wanted q h)) in
      let early = filter_none (is_early r t) f.over.keys (λ q h. early_none q) in
      let late = same_filtered (is_late r t) (λ p. is_some (f.over.at p)) f.over.keys f.over.keys good.over_fits.by_bytes good.over_fits.by_bytes (λ q. ap (λ (b : Bool). listed f.over.keys q && b) (late_is q)) in
      let all = both gone (both dirs (both others (both new_dirs (both new_others (both early (both refl late)))))) in
      let d = filter (is_of_at Dirs f.want) keys in
      let o = filter (is_of_at Others f.want) keys in
      let h = filter (is_of_at Hards f.want) keys in
      let l = filter (λ p. is_some (f.over.at p)) f.over.keys in
      all ∙ sym (append_assoc d (o ++ h) l ∙ ap (λ (x : List (List ℕ)). d ++ x) (append_assoc o h l))

-- ---- places of groups

pub marked_here : (group : Group) (entries : List (List ℕ × Entry)) (i : ℕ) (p : List ℕ) (e : Entry) (b : Bool) → slice_get entries i ≡ Some (p, e) → IsStrictlySortedBy (slice_cmp nat_cmp) (want_of entries).keys
    → b ≡ is_of group (Some (wanted_of e)) → b ≡ get_or (map (is_of_at group (want_of entries)) (want_of entries).keys) i false
marked_here group entries i p e b there order is =
    is ∙ ap (is_of group) (sym (entry_there entries i p e there order))
    ∙ sym (mark_there (is_of_at group (want_of entries)) (want_of entries).keys _ i p false refl (slice_get-map (λ (x : List ℕ × Entry). x.0) entries i ∙ ap (option_map (λ (x : List ℕ × Entry). x.0)) there))

length_map : {A B : Type 0} (g : A → B) (xs : List A) → length (map g xs) ≡ length xs
length_map g [] = refl
length_map g (x ∷ xs) = ap (λ (n : ℕ). suc n) (length_map g xs)

pub long_as : (group : Group) (entries : List (List ℕ × Entry)) → length (map (is_of_at group (want_of entries)) (want_of entries).keys) ≡ length entries
long_as group entries = length_map (is_of_at group (want_of entries)) (want_of entries).keys ∙ length_map (λ (x : List ℕ × Entry). x.0) entries

abbrev pub places_of : Group → List (List ℕ × Entry) → List ℕ
places_of group entries = chosen 0 (map (is_of_at group (want_of entries)) (want_of entries).keys)

group_within : (group : Group) (entries : List (List ℕ × Entry)) → AllByRecursion (λ i. i < length entries) (places_of group entries)
group_within group entries =
    let long = long_as group entries in
    let le : 0 + length (map (is_of_at group (want_of entries)) (want_of entries).keys) ≤ length entries = omega (arith, long) in
    chosen_within (length entries) 0 (map (is_of_at group (want_of entries)) (want_of entries).keys) le

pub all_within : (entries : List (List ℕ × Entry)) (order : List ℕ) → order ≡ (places_of Dirs entries ++ places_of Others entries) ++ places_of Hards entries → AllByRecursion (λ i. i < length entries) order
all_within entries order is = subst (AllByRecursion (λ i. i < length entries)) (sym is)
    (all_append (λ i. i < length entries) (places_of Dirs entries ++ places_of Others entries) (places_of Hards entries)
    (all_append (λ i. i < length entries) (places_of Dirs entries) (places_of Others entries) (group_within Dirs entries) (group_within Others entries)) (group_within Hards entries))

pub paths_are : (entries : List (List ℕ × Entry)) (order : List ℕ) → order ≡ (places_of Dirs entries ++ places_of Others entries) ++ places_of Hards entries → map (path_in (want_of entries).keys) order ≡ wanted_order (want_of entries)
paths_are entries order is =
    let paths = (want_of entries).keys in
    let at : ℕ → List ℕ = path_in paths in
    let d = places_of Dirs entries in
    let o = places_of Others entries in
    let h = places_of Hards entries in
    ap (map at) (is ∙ append_assoc d o h) ∙ map-append at d (o ++ h)
    ∙ both (chosen_paths (is_of_at Dirs (want_of entries)) paths) (map-append at o h ∙ both (chosen_paths (is_of_at Others (want_of entries)) paths) (chosen_paths (is_of_at Hards (want_of entries)) paths))
