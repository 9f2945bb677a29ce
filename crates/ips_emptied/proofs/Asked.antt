-- Whether a directory is emptied, by rows and their marks.
use Rattle.std.proofs.Common.{◌≡◌, ℕ, Bool, true, false, cond, not, ◌&&◌, ◌||◌, List, length, get_or, slice_get, Option, Some, None, is_none, refl, sym, ◌∙◌, ap, subst}
use Rattle.std.specs.List.{list_all, list_any}
use Rattle.std.proofs.lemmas.Bool.{and_from, and_parts, false_from_ne_true, not-true, not_from_false}
use Rattle.ips_text.specs.Ancestry.{is_below, parent, same_path}
use Rattle.ips_text.proofs.Ancestry.{same_path-true}
use Rattle.ips_outside.proofs.Children.{child_below}
use Rattle.ips_outside.specs.Children.{is_child, is_directory, is_foreign}
use Rattle.ips_outside.specs.Image.{Dir, Entry, File, Image, IsImage, Link, Other, is_dir}
use Rattle.ips_steps.proofs.Lists.{clash}
use Rattle.ips_after.specs.After.{IsEmptied, change_settled, is_support, may_empty, unstated}
use Rattle.ips_after.specs.Change.{Kept, makes, reached, replaces}
use Rattle.ips_after.specs.Lists.{listed, unrepeated}
use Rattle.ips_after.specs.Request.{IsRequest, Request, WantDir, WantFile, WantHard, WantLink, Wanted}
use Rattle.ips_after.proofs.Sorted.{sorted_once}
use Rattle.ips_change.specs.declared.stands.Stands.{Stands}
use Rattle.ips_change.specs.declared.stands.Stands.TheVariants as stands
use Rattle.ips_change.specs.Stands.{is_dir_seen, is_unasked, seen_of, stands_of}
use Rattle.ips_change.specs.Told.{naming}
use Rattle.ips_change.specs.declared.survey.row.Row.{Row}
use Rattle.ips_change.specs.survey.Marks.{IsMarkOf, holds_below, row_paths}
use Rattle.ips_change.specs.declared.survey.said.Said.{Said}
use Rattle.ips_change.specs.survey.Tables.{IsTable}
use Rattle.ips_links.proofs.Linked.{is_bare}
use Rattle.ips_emptied.specs.Emptying.{IsEmptiedAt, goes_by, is_candidate, marked_in}
use Rattle.ips_emptied.proofs.Leaving.{Known, all_taken, by_children, each_emptied, holds_made, may_parts, may_whole, not_may}
use Rattle.ips_emptied.proofs.Placed.{mark_at, mark_is, place_of, unmarked}
use Rattle.ips_emptied.proofs.Remaining.{settled_bare}

-- ---- what is seen

-- a directory that is seen stands
pub seen_dir : (holds : List ℕ → List ℕ → Bool) (was new : Option Wanted) (e : Option Entry) (s : Stands) → s ≡ stands_of holds was new e → is_dir_seen s ≡ true → is_dir e ≡ true
seen_dir holds was new e s is h = go (is_unasked was new) e (sym (ap is_dir_seen is) ∙ h)
  where
    go : (b : Bool) (e : Option Entry) → is_dir_seen (cond b stands.Unasked (seen_of holds was new e)) ≡ true → is_dir e ≡ true
    go true e h = cc
    go false (Some (Dir m f)) h = refl
    go false (Some (File m b)) h = cc
    go false (Some (Link g)) h = cc
    go false (Some Other) h = cc
    go false None h = cc

-- where a directory was wanted and no longer is, one that stands is seen
pub unseen_dir : (holds : List ℕ → List ℕ → Bool) (was new : Option Wanted) (e : Option Entry) (s : Stands) → unstated was ≡ true → is_none new ≡ true → s ≡ stands_of holds was new e → is_dir_seen s ≡ false → is_dir e ≡ false
unseen_dir holds (Some (WantDir None)) None e s old none is h = go e (sym (ap is_dir_seen is) ∙ h)
  where
    go : (e : Option Entry) → is_dir_seen (seen_of holds (Some (WantDir None)) None e) ≡ false → is_dir e ≡ false
    go (Some (Dir m f)) h = cc
    go (Some (File m b)) h = refl
    go (Some (Link g)) h = refl
    go (Some Other) h = refl
    go None h = refl
unseen_dir holds was (Some w) e s old none is h = cc
unseen_dir holds (Some (WantDir (Some m))) None e s old none is h = cc
unseen_dir holds (Some (WantFile payload m preserve)) None e s old none is h = cc
unseen_dir holds (Some (WantLink g)) None e s old none is h = cc
unseen_dir holds (Some (WantHard to)) None e s old none is h = cc
unseen_dir holds None None e s old none is h = cc

-- ---- what is known of a candidate

pub record Candidate (r : Request) (t : Image) (paths : List (List ℕ)) (q : List ℕ) : Type 0 where
  pub old : unstated (r.old.at q) ≡ true
  pub new : is_none (r.new.at q) ≡ true
  pub unmade : holds_below (λ x. makes (change_settled r t x)) paths q ≡ false

pub candidate : (r : Request) (t : Image) (paths : List (List ℕ)) (q : List ℕ) → is_candidate r t paths q ≡ true → Candidate r t paths q
candidate r t paths q h =
    let one = and_parts (unstated (r.old.at q)) _ h in
    let two = and_parts (is_none (r.new.at q)) _ one.1 in
    let three = and_parts (is_none (r.over.at q)) _ two.1 in
    let four = and_parts (not (is_support r t q)) _ three.1 in
    record { old = one.0; new = two.0; unmade = not-true _ four.1 }

pub named : (r : Request) → IsRequest r → IsRequest (naming r)
named r good = record { old_want = good.old_want; new_want = good.new_want; over_fits = good.over_fits; hards = good.hards }

module _ (r : Request) (t : Image) (rows : List Row) (said : List (Option Said)) (good : IsRequest r) (formed : IsImage t) (table : IsTable r rows said) where
  abbrev paths : List (List ℕ)
  paths = row_paths rows

  abbrev made : List ℕ → Bool
  made q = makes (change_settled (naming r) t q)

  quiet : (q : List ℕ) → listed paths q ≡ false → change_settled (naming r) t q ≡ Kept
  quiet q apart = settled_bare r t rows said q good table apart

  bare_stays : (q : List ℕ) → listed paths q ≡ false → IsEmptiedAt (naming r) t q false
  bare_stays q apart = not_may (naming r) t paths (named r good) formed quiet q (false_from_ne_true _ (λ m.
      clash (unstated (r.old.at q)) (and_parts (unstated (r.old.at q)) _ m).0 (ap unstated (is_bare r rows said q table apart).old)))

  pub no_candidate : (q : List ℕ) → is_candidate (naming r) t paths q ≡ false → IsEmptiedAt (naming r) t q false
  no_candidate q none = go (holds_below made paths q) refl
    where
      go : (b : Bool) → holds_below made paths q ≡ b → IsEmptiedAt (naming r) t q false
      go true some = holds_made (naming r) t paths (named r good) formed quiet q some
      go false unmade = not_may (naming r) t paths (named r good) formed quiet q (may_parts (naming r) t paths q unmade ∙ ap (λ (b : Bool). b && (is_dir (t.look q) && not (is_foreign (t.look q)))) none)

  pub no_dir : (q : List ℕ) → is_dir (t.look q) ≡ false → IsEmptiedAt (naming r) t q false
  no_dir q none = not_may (naming r) t paths (named r good) formed quiet q (false_from_ne_true _ (λ m. clash (is_dir (t.look q)) (may_whole (naming r) t q m).0 none))

  pub no_whole : (q : List ℕ) → is_foreign (t.look q) ≡ true → IsEmptiedAt (naming r) t q false
  no_whole q foreign = not_may (naming r) t paths (named r good) formed quiet q (false_from_ne_true _ (λ m. clash (is_foreign (t.look q)) foreign (may_whole (naming r) t q m).1))

  may : (q : List ℕ) → is_candidate (naming r) t paths q ≡ true → is_dir (t.look q) ≡ true → is_foreign (t.look q) ≡ false → may_empty (naming r) t q ≡ true
  may q is dir whole = may_parts (naming r) t paths q (candidate (naming r) t paths q is).unmade ∙ and_from _ _ is (and_from _ _ dir (not_from_false _ whole))

  pub taken : (q : List ℕ) → is_candidate (naming r) t paths q ≡ true → is_dir (t.look q) ≡ true → is_foreign (t.look q) ≡ false → reached (λ p. replaces (change_settled (naming r) t p)) q ≡ true → IsEmptiedAt (naming r) t q true
  taken q is dir whole gone = all_taken (naming r) t paths (named r good) formed quiet q (may q is dir whole) (candidate (naming r) t paths q is).unmade gone

  parent_is : (q : List ℕ) (o : Option (List ℕ)) → is_directory q o ≡ true → o ≡ Some q
  parent_is q (Some y) h = ap (λ (x : List ℕ). Some x) (sym (same_path-true q y h))
  parent_is q None h = cc

  -- the children say whether the directory is emptied
  pub children_say : (q : List ℕ) (names : List (List ℕ)) (replaced emptied : List Bool) → length replaced ≡ length paths → length emptied ≡ length paths
      → is_candidate (naming r) t paths q ≡ true → is_dir (t.look q) ≡ true → is_foreign (t.look q) ≡ false → reached (λ p. replaces (change_settled (naming r) t p)) q ≡ false
      → IsMarkOf (λ p. replaces (change_settled (naming r) t p)) paths replaced → ((c : List ℕ) → list_any (λ p. same_path p c) names ≡ is_child t q c)
      → ((k : ℕ) (p : List ℕ) → slice_get paths k ≡ Some p → is_below q p ≡ true → IsEmptiedAt (naming r) t p (get_or emptied k false))
      → IsEmptiedAt (naming r) t q (list_all (goes_by paths replaced emptied) names)
  children_say q names replaced emptied long wide is dir whole clear marks each known =
      by_children (naming r) t paths (named r good) formed quiet q names (goes_by paths replaced emptied) (may q is dir whole) (candidate (naming r) t paths q is).unmade clear each child
    where
      once : unrepeated paths ≡ true
      once = sorted_once paths table.order

      at : (c : List ℕ) → is_below q c ≡ true → (b : Bool) → listed paths c ≡ b → IsEmptiedAt (naming r) t c (marked_in paths emptied c)
      at c up true on = let x = place_of paths c on in subst (IsEmptiedAt (naming r) t c) (mark_at paths emptied x.at c wide once x.there) (known x.at c x.there up)
      at c up false off = subst (IsEmptiedAt (naming r) t c) (sym (unmarked paths emptied c off)) (bare_stays c off)

      child : (c : List ℕ) → is_child t q c ≡ true → Known (naming r) t paths (named r good) formed quiet (goes_by paths replaced emptied) c
      child c h =
          let up = child_below q c (parent_is q (parent c) (and_parts _ (is_directory q (parent c)) h).1) in
          record { mark = marked_in paths emptied c; is = ap (λ (b : Bool). b || marked_in paths emptied c) (mark_is (λ p. replaces (change_settled (naming r) t p)) paths replaced c long once marks); at = at c up (listed paths c) refl }

  -- marks that are right at each row are right at each path
  pub all_right : (emptied : List Bool) → length emptied ≡ length paths → ((k : ℕ) (p : List ℕ) → slice_get paths k ≡ Some p → IsEmptiedAt (naming r) t p (get_or emptied k false)) → IsEmptied (naming r) t (marked_in paths emptied)
  all_right emptied wide known = each_emptied (naming r) t (marked_in paths emptied) (λ q. at q (listed paths q) refl)
    where
      at : (q : List ℕ) (b : Bool) → listed paths q ≡ b → IsEmptiedAt (naming r) t q (marked_in paths emptied q)
      at q true on = let x = place_of paths q on in subst (IsEmptiedAt (naming r) t q) (mark_at paths emptied x.at q wide (sorted_once paths table.order) x.there) (known x.at q x.there)
      at q false off = subst (IsEmptiedAt (naming r) t q) (sym (unmarked paths emptied q off)) (bare_stays q off)
