-- Paths in their groups, and the groups as a plan has them.
use Rattle.std.proofs.Common.{◌≡◌, inl, inr, ℕ, Bool, true, false, cond, not, ◌&&◌, ◌||◌, List, [], ◌∷◌, ◌++◌, map, filter, Option, Some, None, is_none, is_some, refl, sym, ap, ◌∙◌}
use Rattle.std.specs.List.{list_any}
use Rattle.std.proofs.lemmas.Bool.{and_parts, and_right, false≢true, or_cases, or_left, or_right}
use Rattle.std.proofs.lemmas.List.{append_assoc, map-append}
use Rattle.ips_text.specs.Ancestry.{is_below, same_path}
use Rattle.ips_text.proofs.Ancestry.{same_path-self}
use Rattle.ips_outside.specs.Image.{Entry, Image, is_dir}
use Rattle.ips_after.specs.After.{holds_made, is_support, is_taken, linked}
use Rattle.ips_after.specs.Change.{makes}
use Rattle.ips_after.specs.Lists.{listed, turned}
use Rattle.ips_after.specs.Planned.{is_apart, is_early, is_late, is_spare, lays_account, plan_order, wants_other}
use Rattle.ips_after.specs.Request.{IsRequest, Request, Wanted, is_dir_wanted, is_hard_wanted, lays}
use Rattle.ips_change.specs.Told.{naming}
use Rattle.ips_change.specs.declared.survey.row.Row.{Row}
use Rattle.ips_change.specs.survey.Marks.{row_paths}
use Rattle.ips_change.specs.declared.survey.said.Said.{Said}
use Rattle.ips_change.specs.survey.Said.{said_as, says_laid}
use Rattle.ips_change.specs.survey.Tables.{IsTable}
use Rattle.ips_change.proofs.survey.Marked.{is_laid, is_spoken}
use Rattle.ips_emptied.specs.order.Groups.{belongs, group_at, lays_below}
use Rattle.ips_after.proofs.Fits.{dir_of_wanted}
use Rattle.ips_links.proofs.Led.{same_any}
use Rattle.ips_links.proofs.Linked.{is_silent}
use Rattle.ips_emptied.specs.order.Chosen.{chosen, path_in, turned_places}
use Rattle.ips_emptied.specs.order.Marking.{ordered_places, places_in}
use Rattle.ips_emptied.specs.declared.order.group.Group.{Group}
use Rattle.ips_emptied.specs.declared.order.group.Group.TheVariants as group
use Rattle.ips_emptied.proofs.order.Places.{chosen_paths, turned_paths}
use Rattle.ips_emptied.proofs.order.Filtered.{same_filtered}

-- ---- rows

pub account_here : (r : Request) (p : List ℕ) (account : Bool) (said : Option Said) → account ≡ r.over.is_account p → said ≡ said_as (r.over.at p) → (account && says_laid said) ≡ lays_account r p
account_here r p account said a s = rw (a, s) (ap (λ (b : Bool). r.over.is_account p && b) (is_laid (r.over.at p)))

pub account_none : (r : Request) (rows : List Row) (said : List (Option Said)) (q : List ℕ) → IsTable r rows said → listed (row_paths rows) q ≡ false → lays_account r q ≡ false
account_none r rows said q table apart = and_right (r.over.is_account q) (lays (r.over.at q)) (ap lays (table.none_else q apart))

pub group_here : (r : Request) (t : Image) (group : Group) (p : List ℕ) (was new : Option Wanted) (said : Option Said) (support account above : Bool) → was ≡ r.old.at p → new ≡ r.new.at p → said ≡ said_as (r.over.at p)
    → support ≡ is_support (naming r) t p → account ≡ r.over.is_account p → above ≡ lays_below r p → belongs group was new said support account above ≡ group_at r t group p
group_here r t group p was new said support account above w n s u a b = rw (w, n, s, u, a, b) refl

-- ---- groups

some_listed : {P : Type 0} (f : List ℕ → Bool) (keys : List (List ℕ)) → list_any f keys ≡ true → ((x : List ℕ) → listed keys x ≡ true → f x ≡ true → P) → P
some_listed f [] h to = absurd (false≢true h)
some_listed f (k ∷ keys) h to = elim (or_cases (f k) (list_any f keys) h) [
  | inl here ↦ to k (or_left (same_path k k) (listed keys k) (same_path-self k)) here
  | inr more ↦ some_listed f keys more (λ x there is. to x (or_right (same_path k x) (listed keys x) there) is)
]

-- a test in two lists in which it holds nowhere else
pub in_both : (l k f g : Bool) → f ≡ g → (f ≡ true → l ≡ true) → (f ≡ true → k ≡ true) → (l && f) ≡ (k && g)
in_both l k true g e to_l to_k = rw (to_l refl, to_k refl) e
in_both l k false g e to_l to_k = and_right l false refl ∙ sym (and_right k g (sym e))

pub rest_in_both : (l w n x y : Bool) → (n ≡ true → l ≡ true) → x ≡ y → (l && (w && (n && x))) ≡ (n && (w && y))
rest_in_both l w true x y to_l e = rw (to_l refl) (ap (λ (b : Bool). w && b) e)
rest_in_both l w false x y to_l e = and_right l (w && false) (and_right w false refl)

gone_in_both : (o n k x y : Bool) → x ≡ y → ((o || (n || k)) && (o && x)) ≡ (o && y)
gone_in_both true n k x y e = e
gone_in_both false n k x y e = and_right (n || k) false refl

early_apart : (c a s v : Bool) → cond c a (s && v) ≡ true → (c || s) ≡ true
early_apart true a s v h = refl
early_apart false a s v h = (and_parts s v h).0

module _ (r : Request) (t : Image) (rows : List Row) (said : List (Option Said)) (good : IsRequest r) (table : IsTable r rows said) where
  abbrev paths : List (List ℕ)
  paths = row_paths rows

  old_row : (q : List ℕ) → is_some (r.old.at q) ≡ true → listed paths q ≡ true
  old_row q h = table.covers q ∙ or_left (is_some (r.old.at q)) (is_some (r.new.at q) || listed r.over.keys q) h

  new_row : (q : List ℕ) → is_some (r.new.at q) ≡ true → listed paths q ≡ true
  new_row q h = table.covers q ∙ or_right (is_some (r.old.at q)) (is_some (r.new.at q) || listed r.over.keys q) (or_left (is_some (r.new.at q)) (listed r.over.keys q) h)

  key_row : (q : List ℕ) → listed r.over.keys q ≡ true → listed paths q ≡ true
  key_row q h = table.covers q ∙ or_right (is_some (r.old.at q)) (is_some (r.new.at q) || listed r.over.keys q) (or_right (is_some (r.new.at q)) (listed r.over.keys q) h)

  new_key : (q : List ℕ) → is_some (r.new.at q) ≡ true → listed r.new.keys q ≡ true
  new_key q h = sym (good.new_want.keyed q) ∙ h

  -- what is laid as an account file below a path, in all rows
  pub below_is : (p : List ℕ) → list_any (λ q. is_below p q && lays_account r q) paths ≡ lays_below r p
  below_is p = same_any (λ q. is_below p q && lays_account r q) paths r.over.keys
      (λ q is there. good.over_fits.keyed q (spoken (r.over.at q) (and_parts (r.over.is_account q) (lays (r.over.at q)) (and_parts (is_below p q) (lays_account r q) is).1).1))
      (λ q is there. key_row q there)
    where
      spoken : (o : Option (Option Entry)) → lays o ≡ true → is_some o ≡ true
      spoken (Some x) h = refl
      spoken None h = cc

  -- a path whose step stands among those of account files and records is one of which they speak, or one above such
  apart_key : (q : List ℕ) → is_apart (naming r) t q ≡ true → listed r.over.keys q ≡ true
  apart_key q h = elim (or_cases (is_some (r.over.at q)) (is_spare (naming r) t q) h) [
    | inl spoken ↦ good.over_fits.keyed q spoken
    | inr spare ↦
        let parts = and_parts (is_none (r.new.at q)) (is_support (naming r) t q) spare in
        let made = (and_parts (not (is_dir (t.look q)) || is_taken (naming r) t q) (holds_made (naming r) t q) (and_parts (is_none (r.over.at q)) ((not (is_dir (t.look q)) || is_taken (naming r) t q) && holds_made (naming r) t q) parts.1).1).1 in
        elim (or_cases (list_any (λ x. is_below q x && makes (linked (naming r) t x)) r.new.keys) (list_any (λ x. is_below q x && lays (r.over.at x)) r.over.keys) made) [
          | inl wanted ↦ some_listed (λ x. is_below q x && makes (linked (naming r) t x)) r.new.keys wanted (λ x there is.
              absurd (unwanted (r.new.at q) parts.0 (dir_of_wanted (r.new.at q) (good.new_want.dirs q x (and_parts (is_below q x) (makes (linked (naming r) t x)) is).0 (good.new_want.keyed x ∙ there)))))
          | inr laid ↦ some_listed (λ x. is_below q x && lays (r.over.at x)) r.over.keys laid (λ x there is. good.over_fits.closed q x (and_parts (is_below q x) (lays (r.over.at x)) is).0 there)
        ]
  ]
    where
      unwanted : (w : Option Wanted) → is_none w ≡ true → is_some w ≡ true → ⊥
      unwanted (Some x) a b = false≢true a
      unwanted None a b = false≢true b

  gone_is : filter (group_at r t group.Gone) paths ≡ filter (λ p. is_none (r.new.at p) && not (is_apart (naming r) t p)) r.old.keys
  gone_is = same_filtered (group_at r t group.Gone) (λ p. is_none (r.new.at p) && not (is_apart (naming r) t p)) paths r.old.keys table.order good.old_want.by_bytes (λ q.
      rw (table.covers q, sym (good.old_want.keyed q)) (gone_in_both (is_some (r.old.at q)) (is_some (r.new.at q)) (listed r.over.keys q) _ _
      (ap (λ (b : Bool). is_none (r.new.at q) && not (b || (is_none (r.new.at q) && is_support (naming r) t q))) (is_spoken (r.over.at q)))))

  old_dirs : filter (group_at r t group.OldDirs) paths ≡ filter (λ p. is_some (r.old.at p) && is_dir_wanted (r.new.at p)) r.new.keys
  old_dirs = same_filtered (group_at r t group.OldDirs) (λ p. is_some (r.old.at p) && is_dir_wanted (r.new.at p)) paths r.new.keys table.order good.new_want.by_bytes (λ q.
      in_both (listed paths q) (listed r.new.keys q) (is_some (r.old.at q) && is_dir_wanted (r.new.at q)) (is_some (r.old.at q) && is_dir_wanted (r.new.at q)) refl
      (λ h. old_row q (and_parts (is_some (r.old.at q)) (is_dir_wanted (r.new.at q)) h).0) (λ h. new_key q (dir_of_wanted (r.new.at q) (and_parts (is_some (r.old.at q)) (is_dir_wanted (r.new.at q)) h).1)))

  new_dirs : filter (group_at r t group.NewDirs) paths ≡ filter (λ p. is_none (r.old.at p) && is_dir_wanted (r.new.at p)) r.new.keys
  new_dirs = same_filtered (group_at r t group.NewDirs) (λ p. is_none (r.old.at p) && is_dir_wanted (r.new.at p)) paths r.new.keys table.order good.new_want.by_bytes (λ q.
      in_both (listed paths q) (listed r.new.keys q) (is_none (r.old.at q) && is_dir_wanted (r.new.at q)) (is_none (r.old.at q) && is_dir_wanted (r.new.at q)) refl
      (λ h. new_row q (dir_of_wanted (r.new.at q) (and_parts (is_none (r.old.at q)) (is_dir_wanted (r.new.at q)) h).1)) (λ h. new_key q (dir_of_wanted (r.new.at q) (and_parts (is_none (r.old.at q)) (is_dir_wanted (r.new.at q)) h).1)))

  others_here : (q : List ℕ) → (not (is_dir_wanted (r.new.at q)) && (not (is_hard_wanted (r.new.at q)) && is_none (said_as (r.over.at q)))) ≡ wants_other (naming r) q
  others_here q = ap (λ (b : Bool). not (is_dir_wanted (r.new.at q)) && (not (is_hard_wanted (r.new.at q)) && b)) (is_silent (r.over.at q))

  old_others : filter (group_at r t group.OldOthers) paths ≡ filter (λ p. is_some (r.old.at p) && wants_other (naming r) p) r.new.keys
  old_others = same_filtered (group_at r t group.OldOthers) (λ p. is_some (r.old.at p) && wants_other (naming r) p) paths r.new.keys table.order good.new_want.by_bytes (λ q.
      rest_in_both (listed paths q) (is_some (r.old.at q)) (is_some (r.new.at q)) _ (wants_other (naming r) q) (new_row q) (others_here q) ∙ ap (λ (b : Bool). b && (is_some (r.old.at q) && wants_other (naming r) q)) (good.new_want.keyed q))

  new_others : filter (group_at r t group.NewOthers) paths ≡ filter (λ p. is_none (r.old.at p) && wants_other (naming r) p) r.new.keys
  new_others = same_filtered (group_at r t group.NewOthers) (λ p. is_none (r.old.at p) && wants_other (naming r) p) paths r.new.keys table.order good.new_want.by_bytes (λ q.
      rest_in_both (listed paths q) (is_none (r.old.at q)) (is_some (r.new.at q)) _ (wants_other (naming r) q) (new_row q) (others_here q) ∙ ap (λ (b : Bool). b && (is_none (r.old.at q) && wants_other (naming r) q)) (good.new_want.keyed q))

  hards : filter (group_at r t group.Hards) paths ≡ filter (λ p. is_hard_wanted (r.new.at p)) r.new.keys
  hards = same_filtered (group_at r t group.Hards) (λ p. is_hard_wanted (r.new.at p)) paths r.new.keys table.order good.new_want.by_bytes (λ q.
      in_both (listed paths q) (listed r.new.keys q) (is_hard_wanted (r.new.at q)) (is_hard_wanted (r.new.at q)) refl (λ h. new_row q (there (r.new.at q) h)) (λ h. new_key q (there (r.new.at q) h)))
    where
      there : (w : Option Wanted) → is_hard_wanted w ≡ true → is_some w ≡ true
      there (Some w) h = refl
      there None h = cc

  early_here : (q : List ℕ) → group_at r t group.Accounts q ≡ is_early (naming r) t q
  early_here q = ap (λ (b : Bool). cond b (r.over.is_account q) ((is_none (r.new.at q) && is_support (naming r) t q) && lays_below r q)) (is_spoken (r.over.at q))

  early_key : (q : List ℕ) → group_at r t group.Accounts q ≡ true → listed r.over.keys q ≡ true
  early_key q h = apart_key q (early_apart (is_some (r.over.at q)) (r.over.is_account q) (is_none (r.new.at q) && is_support (naming r) t q) (lays_below r q) (sym (early_here q) ∙ h))

  early : filter (group_at r t group.Accounts) paths ≡ filter (is_early (naming r) t) r.over.keys
  early = same_filtered (group_at r t group.Accounts) (is_early (naming r) t) paths r.over.keys table.order good.over_fits.by_bytes (λ q.
      in_both (listed paths q) (listed r.over.keys q) (group_at r t group.Accounts q) (is_early (naming r) t q) (early_here q) (λ h. key_row q (early_key q h)) (early_key q))

  late_here : (q : List ℕ) → group_at r t group.Records q ≡ is_late (naming r) t q
  late_here q = ap (λ (b : Bool). (b || (is_none (r.new.at q) && is_support (naming r) t q)) && not (cond b (r.over.is_account q) ((is_none (r.new.at q) && is_support (naming r) t q) && lays_below r q))) (is_spoken (r.over.at q))

  late_key : (q : List ℕ) → group_at r t group.Records q ≡ true → listed r.over.keys q ≡ true
  late_key q h = apart_key q (and_parts (is_apart (naming r) t q) (not (is_early (naming r) t q)) (sym (late_here q) ∙ h)).0

  late : filter (group_at r t group.Records) paths ≡ filter (is_late (naming r) t) r.over.keys
  late = same_filtered (group_at r t group.Records) (is_late (naming r) t) paths r.over.keys table.order good.over_fits.by_bytes (λ q.
      in_both (listed paths q) (listed r.over.keys q) (group_at r t group.Records q) (is_late (naming r) t q) (late_here q) (λ h. key_row q (late_key q h)) (late_key q))

  -- the paths at the places that are marked as in a group
  placed_in : (g : Group) (test : List ℕ → Bool) (keys : List (List ℕ)) → filter (group_at r t g) paths ≡ filter test keys → map (path_in paths) (chosen 0 (map (group_at r t g) paths)) ≡ filter test keys
  placed_in g test keys e = chosen_paths (group_at r t g) paths ∙ e

  more : (front group : List ℕ) (a b : List (List ℕ)) → map (path_in paths) front ≡ a → map (path_in paths) group ≡ b → map (path_in paths) (front ++ group) ≡ a ++ b
  more front group a b ha hb = map-append (path_in paths) front group ∙ rw (ha, hb) refl

  abbrev of_group : Group → List ℕ
  of_group g = places_in r t paths g

  pub ordered : map (path_in paths) (ordered_places r t paths) ≡ plan_order (naming r) t
  ordered =
      let a0 = turned (filter (λ p. is_none (r.new.at p) && not (is_apart (naming r) t p)) r.old.keys) in
      let a1 = filter (λ p. is_some (r.old.at p) && is_dir_wanted (r.new.at p)) r.new.keys in
      let a2 = filter (λ p. is_some (r.old.at p) && wants_other (naming r) p) r.new.keys in
      let a3 = filter (λ p. is_none (r.old.at p) && is_dir_wanted (r.new.at p)) r.new.keys in
      let a4 = filter (λ p. is_none (r.old.at p) && wants_other (naming r) p) r.new.keys in
      let a5 = filter (is_early (naming r) t) r.over.keys in
      let a6 = filter (λ p. is_hard_wanted (r.new.at p)) r.new.keys in
      let a7 = filter (is_late (naming r) t) r.over.keys in
      let p0 = turned_paths paths (of_group group.Gone) ∙ ap turned (placed_in group.Gone _ r.old.keys gone_is) in
      let p1 = more (turned_places (of_group group.Gone)) (of_group group.OldDirs) a0 a1 p0 (placed_in group.OldDirs _ r.new.keys old_dirs) in
      let p2 = more _ (of_group group.OldOthers) (a0 ++ a1) a2 p1 (placed_in group.OldOthers _ r.new.keys old_others) in
      let p3 = more _ (of_group group.NewDirs) (a0 ++ a1 ++ a2) a3 p2 (placed_in group.NewDirs _ r.new.keys new_dirs) in
      let p4 = more _ (of_group group.NewOthers) (a0 ++ a1 ++ a2 ++ a3) a4 p3 (placed_in group.NewOthers _ r.new.keys new_others) in
      let p5 = more _ (of_group group.Accounts) (a0 ++ a1 ++ a2 ++ a3 ++ a4) a5 p4 (placed_in group.Accounts _ r.over.keys early) in
      let p6 = more _ (of_group group.Hards) (a0 ++ a1 ++ a2 ++ a3 ++ a4 ++ a5) a6 p5 (placed_in group.Hards _ r.new.keys hards) in
      let p7 = more _ (of_group group.Records) (a0 ++ a1 ++ a2 ++ a3 ++ a4 ++ a5 ++ a6) a7 p6 (placed_in group.Records _ r.over.keys late) in
      p7 ∙ append_assoc (a0 ++ a1 ++ a2 ++ a3 ++ a4 ++ a5) a6 a7 ∙ append_assoc (a0 ++ a1 ++ a2 ++ a3 ++ a4) a5 (a6 ++ a7) ∙ append_assoc (a0 ++ a1 ++ a2 ++ a3) a4 (a5 ++ (a6 ++ a7)) ∙ append_assoc (a0 ++ a1 ++ a2) a3 (a4 ++ (a5 ++ (a6 ++ a7)))
      ∙ append_assoc (a0 ++ a1) a2 (a3 ++ (a4 ++ (a5 ++ (a6 ++ a7)))) ∙ append_assoc a0 a1 (a2 ++ (a3 ++ (a4 ++ (a5 ++ (a6 ++ a7)))))
