-- A record that stands as it is due stands behind the request too.
use Rattle.std.proofs.Common.{◌≡◌, ℕ, Bool, true, false, cond, not, ◌&&◌, ◌||◌, List, Option, Some, None, is_some, is_none, refl, sym, ◌∙◌, ap, subst, inl, inr}
use Rattle.std.specs.Prelude.{codes}
use Rattle.std.specs.List.{list_any}
use Rattle.std.proofs.lemmas.Bool.{and_parts, or_parts, or_cases, or_left, or_right, cases_Bool, false_from_ne_true}
use Rattle.ips_text.specs.Ancestry.{same_path, covers, is_below}
use Rattle.ips_text.proofs.Ancestry.{covers-self, covers_trans, same_path-true}
use Rattle.ips_outside.specs.Image.{Entry, Dir, File, Link, Other, Image, IsImage, is_dir, with_mode}
use Rattle.ips_steps.specs.Steps.{stage_name}
use Rattle.ips_steps.specs.Private.{records_name, gate_name, is_private, journal_name, mark_front}
use Rattle.ips_state.specs.Records.{history_path}
use Rattle.ips_steps.proofs.Lists.{clash}
use Rattle.ips_after.specs.After.{IsEmptied, change_after, image_after, is_support, is_taken, is_top, linked, mode_given, ranks, stated, unstated, was_equal}
use Rattle.ips_after.specs.Change.{Kept, Laid, cleared, makes, replaces, with_given}
use Rattle.ips_after.specs.Lists.{listed}
use Rattle.ips_after.specs.Request.{IsRequest, Request, WantDir, Wanted, is_dir_wanted, lays}
use Rattle.ips_after.proofs.Changed.{reach_of}
use Rattle.ips_after.proofs.Fits.{any_from, any_of, below_covers, below_of, dir_of_wanted, given_but}
use Rattle.ips_after.proofs.Saved.{comparable}
use Rattle.ips_due.specs.Due.{Content, Due, IsDue, IsOverOf, LeavesOwn, account_at, goes_with, holds_content, is_content, is_due, is_file_of, is_own, record_at, said, said_folder}
use Rattle.ips_due.proofs.Fitting.{Said, due_of_account, due_of_folder, due_of_record, own_down, said_is}

-- a file stands, and is no directory
there : (test : List ℕ → Bool) (e : Option Entry) → is_file_of test e ≡ true → (is_none e ≡ false) × (is_dir e ≡ false)
there test (Some (Dir m f)) h = cc
there test (Some (File m b)) h = (refl, refl)
there test (Some (Link g)) h = cc
there test (Some Other) h = cc
there test None h = cc

-- a mode is no matter of bytes
any_mode : (test : List ℕ → Bool) (e : Option Entry) → is_file_of test (with_mode 0 e) ≡ is_file_of test e
any_mode test (Some (Dir m f)) = refl
any_mode test (Some (File m b)) = refl
any_mode test (Some (Link g)) = refl
any_mode test (Some Other) = refl
any_mode test None = refl

dir_wanted : (w : Option Wanted) → is_dir_wanted w ≡ true → (m : Option ℕ) × (w ≡ Some (WantDir m))
dir_wanted (Some (WantDir m)) h = (m, refl)
dir_wanted w h = absurd cc

-- a wanted directory that stands isn't replaced
dir_stays : (equal : Bool) (m : Option ℕ) (e : Option Entry) → is_dir e ≡ true → replaces (cond equal Kept (cond (is_dir e) (mode_given m) (Laid (Dir (stated m) false)))) ≡ false
dir_stays true m e dir = refl
dir_stays false (Some m) e dir = ap (λ (b : Bool). replaces (cond b (mode_given (Some m)) (Laid (Dir m false)))) dir
dir_stays false None e dir = ap (λ (b : Bool). replaces (cond b (mode_given None) (Laid (Dir 493 false)))) dir

neither : (a : Option Entry) (b : Option Content) → is_some a ≡ false → is_some b ≡ false → (a ≡ None) × (b ≡ None)
neither None None g h = (refl, refl)
neither None (Some y) g h = absurd cc
neither (Some x) b g h = absurd cc

-- of a directory that stands no folder is said
folder_silent : (f : Bool) (e : Option Entry) → is_dir e ≡ true → cond f (said_folder e) None ≡ None
folder_silent true e dir = ap (λ (b : Bool). cond b None (Some (Some (Dir 493 false)))) dir
folder_silent false e dir = refl

and_none : (b : Bool) → b && false ≡ false
and_none true = refl
and_none false = refl

lays_due : (due : Due) (y : List ℕ) (x : Option (Option Entry)) → Said due y x → lays x ≡ true → is_due due y ≡ true
lays_due due y _ (Said.Account m b at) h = due_of_account due y (ap is_some at)
lays_due due y _ (Said.Record b at) h = due_of_record due y at
lays_due due y _ (Said.Folder at) h = due_of_folder due y at
lays_due due y _ (Said.Gone at) h = cc
lays_due due y _ Said.Silent h = cc

module _ (due : Due) (t : Image) (r : Request) (emptied : List ℕ → Bool) (good : IsRequest r) (formed : IsImage t) (gone : IsEmptied r t emptied)
    (is : IsDue due) (of : IsOverOf r.bytes r.holds due t r.over) (left : LeavesOwn due r.new) (bare : (x : List ℕ) → is_own x ≡ true → r.old.at x ≡ None)
    (q : List ℕ) (content : Content) (none : account_at due.accounts q ≡ None) (at : record_at due.records q ≡ Some content) (stands : holds_content r.holds content (t.look q) ≡ true) (keeps : goes_with due q ≡ false) where
  q_due : is_due due q ≡ true
  q_due = due_of_record due q (ap is_some at)

  q_own : is_own q ≡ true
  q_own = (is.own q (or_left _ _ (ap is_some at))).0

  dir_above : (x : List ℕ) → is_below x q ≡ true → is_dir (t.look x) ≡ true
  dir_above x up =
      let parts = and_parts (covers x q) _ up in
      elim (or_cases (is_none (t.look q)) (is_dir (t.look x)) (formed.below_dirs x q parts.0 (not_true (same_path x q) parts.1))) [
        | inl h ↦ clash (is_none (t.look q)) h (there (is_content r.holds content) (t.look q) stands).0
        | inr h ↦ h
      ]
    where
      not_true : (b : Bool) → not b ≡ true → b ≡ false
      not_true true h = absurd cc
      not_true false h = refl

  -- nothing above is due but folders
  flat_above : (x : List ℕ) → is_below x q ≡ true → (is_some (account_at due.accounts x) ≡ false) × ((is_some (record_at due.records x) ≡ false) × (listed due.gone x ≡ false))
  flat_above x up =
      let parts = or_parts (is_some (account_at due.accounts x)) _ (is.flat x q up q_due) in
      (parts.0, or_parts (is_some (record_at due.records x)) _ parts.1)

  not_renewed : (x : List ℕ) → covers x q ≡ true → listed due.renewed x ≡ false
  not_renewed x over = false_from_ne_true _ (λ h. clash _ (or_left _ _ (any_from (λ p. covers p q) due.renewed x h over)) keeps)

  silent_above : (x : List ℕ) → is_below x q ≡ true → r.over.at x ≡ None
  silent_above x up =
      let flat = flat_above x up in
      let none_due = neither (account_at due.accounts x) (record_at due.records x) flat.0 flat.1.0 in
      of.at x
      ∙ rw (none_due.0, none_due.1, not_renewed x (below_covers x q up), flat.1.1) (folder_silent (listed due.folders x) (t.look x) (dir_above x up))

  silent_here : r.over.at q ≡ None
  silent_here = of.at q ∙ rw (none, at, stands, keeps) refl

  silent : (x : List ℕ) → covers x q ≡ true → r.over.at x ≡ None
  silent x over = elim (cases_Bool (same_path x q)) [
    | inl same ↦ ap r.over.at (same_path-true x q same) ∙ silent_here
    | inr apart ↦ silent_above x (below_of x q over apart)
  ]

  -- what isn't the image's own and stands above is wanted as a directory
  beside : (n x : List ℕ) → is_below n q ≡ true → is_dir_wanted (r.new.at n) ≡ true → (is_below n x ≡ true → is_own x ≡ true) → covers x q ≡ true → is_own x ≡ false → is_dir_wanted (r.new.at x) ≡ true
  beside n x under dir owned over off = elim (comparable x n q over (below_covers n q under)) [
    | inl up ↦ elim (cases_Bool (same_path x n)) [
      | inl same ↦ ap (λ (y : List ℕ). is_dir_wanted (r.new.at y)) (same_path-true x n same) ∙ dir
      | inr apart ↦ good.new_want.dirs x n (below_of x n up apart) (dir_of_wanted (r.new.at n) dir)
    ]
    | inr down ↦ elim (cases_Bool (same_path n x)) [
      | inl same ↦ ap (λ (y : List ℕ). is_dir_wanted (r.new.at y)) (sym (same_path-true n x same)) ∙ dir
      | inr apart ↦ clash (is_own x) (owned (below_of n x down apart)) off
    ]
  ]

  wanted_above : (x : List ℕ) → covers x q ≡ true → is_own x ≡ false → is_dir_wanted (r.new.at x) ≡ true
  wanted_above x over off = elim (or_cases (is_below records_name q) (is_below (codes "var/sadm/pkg") q) q_own) [
    | inl h ↦ beside records_name x h left.folder (λ y. or_left _ _ y) over off
    | inr h ↦ beside (codes "var/sadm/pkg") x h (left.legacy q h q_due) (λ y. or_right (is_below records_name x) _ y) over off
  ]

  no_top : (x : List ℕ) → covers x q ≡ true → is_top r t x ≡ false
  no_top x over = elim (cases_Bool (is_own x)) [
    | inl own ↦ rw (left.none x own, bare x own) (and_none (is_dir (t.look x)))
    | inr off ↦ let w = dir_wanted (r.new.at x) (wanted_above x over off) in rw (w.1) refl
  ]

  not_taken : (x : List ℕ) → covers x q ≡ true → is_taken r t x ≡ false
  not_taken x over = false_from_ne_true _ (λ h.
      let up = reach_of (λ z. is_top r t z || is_some (r.over.at z)) x h in
      let z_over : covers up.at q ≡ true = covers_trans up.at x q up.over over in
      elim (or_cases (is_top r t up.at) (is_some (r.over.at up.at)) up.holds) [
        | inl top ↦ clash _ top (no_top up.at z_over)
        | inr said ↦ clash _ said (ap is_some (silent up.at z_over))
      ])

  no_support_above : (x : List ℕ) → is_below x q ≡ true → is_support r t x ≡ false
  no_support_above x up = rw (silent_above x up, dir_above x up, not_taken x (below_covers x q up)) refl

  -- nothing is made below
  no_support_here : is_support r t q ≡ false
  no_support_here = rw (silent_here, not_made) (and_none (not (is_dir (t.look q)) || is_taken r t q))
    where
      by_want : list_any (λ y. is_below q y && makes (linked r t y)) r.new.keys ≡ false
      by_want = false_from_ne_true _ (λ h.
          let some = any_of (λ y. is_below q y && makes (linked r t y)) r.new.keys h in
          let below = (and_parts (is_below q some.path) _ some.holds).0 in
          clash (is_some (r.new.at some.path)) (good.new_want.keyed some.path ∙ some.in_list) (ap is_some (left.none some.path (own_down q some.path below q_own))))

      by_over : list_any (λ y. is_below q y && lays (r.over.at y)) r.over.keys ≡ false
      by_over = false_from_ne_true _ (λ h.
          let some = any_of (λ y. is_below q y && lays (r.over.at y)) r.over.keys h in
          let parts = and_parts (is_below q some.path) _ some.holds in
          let wanted = lays_due due some.path (r.over.at some.path) (subst (Said due some.path) (sym (of.at some.path)) (said_is r.bytes r.holds due t some.path)) parts.1 in
          let flat = or_parts (is_some (account_at due.accounts q)) _ (is.flat q some.path parts.0 wanted) in
          clash (is_some (record_at due.records q)) (ap is_some at) (or_parts (is_some (record_at due.records q)) _ flat.1).0)

      not_made : (list_any (λ y. is_below q y && makes (linked r t y)) r.new.keys || list_any (λ y. is_below q y && lays (r.over.at y)) r.over.keys) ≡ false
      not_made = rw (by_want, by_over) refl

  not_emptied : (x : List ℕ) → covers x q ≡ true → emptied x ≡ false
  not_emptied x over = false_from_ne_true _ (λ h.
      let may = and_parts (unstated (r.old.at x)) _ (gone.only x h) in
      elim (cases_Bool (is_own x)) [
        | inl own ↦ clash (unstated (r.old.at x)) may.0 (ap unstated (bare x own))
        | inr off ↦
            let w = dir_wanted (r.new.at x) (wanted_above x over off) in
            clash (is_none (r.new.at x)) (and_parts (is_none (r.new.at x)) _ may.1).0 (ap is_none w.1)
      ])

  -- the image's own that nothing is made for is kept
  kept_own : (x : List ℕ) → covers x q ≡ true → is_own x ≡ true → is_support r t x ≡ false → change_after r t emptied x ≡ Kept
  kept_own x over own unsupported = rw (not_emptied x over, silent x over, left.none x own, unsupported, left.none x own, bare x own, left.none x own) refl

  still : (x : List ℕ) → covers x q ≡ true → replaces (change_after r t emptied x) ≡ false
  still x over = elim (cases_Bool (same_path x q)) [
    | inl same ↦
        let one = same_path-true x q same in
        ap replaces (kept_own x over (subst (λ (y : List ℕ). is_own y ≡ true) (sym one) q_own) (subst (λ (y : List ℕ). is_support r t y ≡ false) (sym one) no_support_here))
    | inr apart ↦
        let up = below_of x q over apart in
        elim (cases_Bool (is_own x)) [
          | inl own ↦ ap replaces (kept_own x over own (no_support_above x up))
          | inr off ↦
              let w = dir_wanted (r.new.at x) (wanted_above x over off) in
              rw (not_emptied x over, silent x over, w.1, no_support_above x up, w.1, w.1) (dir_stays (was_equal (r.old.at x) (WantDir w.0)) w.0 (t.look x) (dir_above x up))
        ]
  ]

  not_cleared : cleared (change_after r t emptied) q ≡ false
  not_cleared = false_from_ne_true _ (λ h.
      let up = reach_of (λ p. replaces (change_after r t emptied p)) q h in
      clash _ up.holds (still up.at up.over))

  pub record_stays : holds_content r.holds content ((image_after r t emptied).look q) ≡ true
  record_stays =
      let kept = kept_own q (covers-self q) q_own no_support_here in
      rw (kept, not_cleared)
      (sym (any_mode (is_content r.holds content) (with_given (change_after r t emptied) (ranks r) t q (t.look q))) ∙ ap (is_file_of (is_content r.holds content)) (given_but (change_after r t emptied) (ranks r) t q (t.look q)) ∙ any_mode (is_content r.holds content) (t.look q) ∙ stands)

-- the history is no name of the commit's own
pub history_seen : is_private history_path ≡ false
unfolding stage_name journal_name gate_name mark_front
history_seen = refl
