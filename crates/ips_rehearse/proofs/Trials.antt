-- Runs of calls at and below a path, and what they leave.
use Rattle.std.proofs.Common.{◌≡◌, ⊎_elim, ℕ, Bool, true, false, cond, List, Option, Some, None, Result, Ok, Err, OnOk, refl, sym, ◌∙◌, ap, subst}
use Rattle.std.proofs.lemmas.Bool.{or_cases, and_parts, and_from, or_from, not-true, not_from_false, false_from_ne_true}
use Rattle.ips_text.specs.Ancestry.{same_path, covers, is_below, parent}
use Rattle.ips_text.proofs.Ancestry.{same_path-true, same_path-self, covers-self, covers_trans, covers-parent, parent_covers, uncovered}
use Rattle.ips_outside.specs.Image.{Entry, Dir, File, Link, Other, Image, IsImage, Agrees, is_dir, is_file, dir_or_none}
use Rattle.ips_outside.specs.Change.{with_entry_at, names}
use Rattle.ips_outside.specs.State.{State, nowhere, mode_set}
use Rattle.ips_outside.specs.Outside.{Outside, IsOutside}
use Rattle.ips_outside.proofs.Children.{child_below}
use Rattle.ips_outside.proofs.Moments.{placed_within}
use Rattle.ips_outside.proofs.Placed.{look_placed}
use Rattle.ips_folder.specs.Calls.{CanMake, IsSole, Writes, ChangesOnly}
use Rattle.ips_folder.proofs.Runs.{keeps_wider, one_write}
use Rattle.ips_steps.proofs.Lists.{clash}
use Rattle.ips_rehearse.specs.Tried.{IsGone, IsEmptyDir}

-- ---- paths below one another

-- what isn't at or below a path isn't at or below what is
pub off_under : (p at : List ℕ) → covers p at ≡ true → (q : List ℕ) → covers p q ≡ false → covers at q ≡ false
off_under p at c q off = false_from_ne_true _ (λ d. clash (covers p q) (covers_trans p at q c d) off)

parent_apart : (dir p q : List ℕ) → parent p ≡ Some dir → covers p q ≡ true → same_path dir q ≡ false
parent_apart dir p q is c = false_from_ne_true _ (λ s. clash (covers p dir) (ap (covers p) (same_path-true dir q s) ∙ c) (covers-parent p dir is))

-- what isn't below a directory isn't at or below its child
pub off_child : (dir p : List ℕ) → parent p ≡ Some dir → (q : List ℕ) → is_below dir q ≡ false → covers p q ≡ false
off_child dir p is q off = false_from_ne_true _ (λ c. clash (is_below dir q) (and_from _ _ (covers_trans dir p q (parent_covers p dir is) c) (not_from_false _ (parent_apart dir p q is c))) off)

pub not_below_self : (dir : List ℕ) → is_below dir dir ≡ false
not_below_self dir = rw (covers-self dir, same_path-self dir) refl

pub off_below : (dir q : List ℕ) → covers dir q ≡ false → is_below dir q ≡ false
off_below dir q off = rw off refl

-- ---- which names share a mode

pub dir_or_file : (e : Option Entry) → is_dir e ≡ true → is_file e ≡ true → ⊥
dir_or_file (Some (Dir m x)) d f = cc
dir_or_file (Some (File m b)) d f = cc
dir_or_file (Some (Link g)) d f = cc
dir_or_file (Some Other) d f = cc
dir_or_file None d f = cc

pub dir_names : (t : Image) → IsImage t → (p : List ℕ) → is_dir (t.look p) ≡ true → (q : List ℕ) → covers p q ≡ false → names t p q ≡ false
dir_names t formed p dir q off = or_from _ _ (uncovered p q off) (false_from_ne_true _ (λ s. dir_or_file (t.look p) dir (formed.files p q s).0))

-- a name of a file with one name is at its path
pub own_name : (t : Image) (p : List ℕ) → IsSole t p → (q : List ℕ) → names t p q ≡ true → covers p q ≡ true
own_name t p own q is = ap (covers p) (⊎_elim (λ same. sym (same_path-true p q same)) (λ shared. own.sole q shared) (or_cases (same_path p q) (t.same p q) is)) ∙ covers-self p

-- ---- runs

module _ {F : Type 0} (o : Outside F) (sane : IsOutside o) (free loose : List ℕ → Bool) where
  pub wrote_in : (at : List ℕ) → ((q : List ℕ) → free q ≡ false → covers at q ≡ false) → (old new : F) (to : State) {T E : Type 0} (result : Result T E) → o.tells old ≡ true → Writes o (covers at) nowhere to old new result → ChangesOnly o free loose old new
  wrote_in at off old new to result told w = keeps_wider o (covers at) nowhere free loose old new off (λ q n. refl) (one_write o sane old new (covers at) nowhere to result told w)

  pub moded_in : (p : List ℕ) (m : ℕ) (old new : F) → ((q : List ℕ) → loose q ≡ false → names (o.state old).held p q ≡ false) → {T E : Type 0} (result : Result T E) → o.tells old ≡ true
      → Writes o nowhere (names (o.state old).held p) (mode_set m p (o.state old)) old new result → ChangesOnly o free loose old new
  moded_in p m old new off result told w = keeps_wider o nowhere (names (o.state old).held p) free loose old new (λ q n. refl) off (one_write o sane old new nowhere (names (o.state old).held p) _ result told w)

-- ---- what stands

pub is_gone : (p : List ℕ) (t u : Image) → u ≡ with_entry_at p None t → IsGone p u
is_gone p t u made q c = ap (λ (w : Image). w.look q) made ∙ none (same_path p q) (covers p q) (t.look q) c
  where
    none : (s b : Bool) (x : Option Entry) → b ≡ true → cond s None (cond b None x) ≡ None
    none true b x c = refl
    none false true x c = refl
    none false false x c = cc

-- a directory that was made
pub made_dir : (p : List ℕ) (m : ℕ) (t u : Image) → u ≡ with_entry_at p (Some (Dir m false)) t → IsEmptyDir p u
made_dir p m t u made = record {
  stands = ap (λ (w : Image). is_dir (w.look p)) made ∙ ap is_dir (look_placed p (Some (Dir m false)) t);
  empty = λ q below. let parts = and_parts (covers p q) _ below in ap (λ (w : Image). w.look q) made ∙ rw (not-true _ parts.1, parts.0) refl;
}

-- nothing is in the way of a child of an empty directory
pub can_make : (dir p : List ℕ) (t : Image) → parent p ≡ Some dir → IsEmptyDir dir t → CanMake t p
can_make dir p t is e = record { absent = e.empty p (child_below dir p is); parent = ap (dir_or_none t) is ∙ e.stands }

-- an empty directory is empty again where a child of it is gone
pub empty_again : (dir p : List ℕ) (t u : Image) → parent p ≡ Some dir → IsEmptyDir dir t → Agrees (covers p) (covers p) t u → IsGone p u → IsEmptyDir dir u
empty_again dir p t u is e h gone = record {
  stands = ap is_dir (h.look dir (covers-parent p dir is) (covers-parent p dir is)) ∙ e.stands;
  empty = λ q below. at q below (covers p q) refl;
}
  where
    at : (q : List ℕ) → is_below dir q ≡ true → (b : Bool) → covers p q ≡ b → u.look q ≡ None
    at q below true c = gone q c
    at q below false off = h.look q off off ∙ e.empty q below

-- the same behind a child that stands beside it meanwhile
pub empty_beside : (dir p r : List ℕ) (t u v w : Image) → parent p ≡ Some dir → parent r ≡ Some dir → covers r p ≡ false → IsEmptyDir dir t
    → Agrees (covers r) (covers r) t u → Agrees (covers p) (covers p) u v → IsGone p v → w ≡ with_entry_at r None v → Agrees (covers r) (covers r) v w → IsEmptyDir dir w
empty_beside dir p r t u v w is ir apart e first mid gone made last = record {
  stands = ap is_dir (last.look dir (covers-parent r dir ir) (covers-parent r dir ir)) ∙ ap is_dir (mid.look dir (covers-parent p dir is) (covers-parent p dir is))
      ∙ ap is_dir (first.look dir (covers-parent r dir ir) (covers-parent r dir ir)) ∙ e.stands;
  empty = λ q below. at q below (covers r q) refl (covers p q) refl;
}
  where
    at : (q : List ℕ) → is_below dir q ≡ true → (b : Bool) → covers r q ≡ b → (d : Bool) → covers p q ≡ d → w.look q ≡ None
    at q below true c d e_2 = is_gone r v w made q c
    at q below false off true c = last.look q off off ∙ gone q c
    at q below false off false away = last.look q off off ∙ mid.look q away away ∙ first.look q off off ∙ e.empty q below

-- nothing is in the way of a second child
pub can_make_beside : (dir p r : List ℕ) (e : Option Entry) (t u : Image) → parent p ≡ Some dir → parent r ≡ Some dir → covers r p ≡ false → IsEmptyDir dir t → u ≡ with_entry_at r e t → CanMake u p
can_make_beside dir p r e t u is ir apart empty made =
    let h : Agrees (covers r) nowhere t u = subst (Agrees (covers r) nowhere t) (sym made) (placed_within r e t) in record {
      absent = h.look p apart refl ∙ empty.empty p (child_below dir p is);
      parent = ap (dir_or_none u) is ∙ ap is_dir (h.look dir (covers-parent r dir ir) refl) ∙ empty.stands;
    }

-- what holds whatever is answered
module _ {T E : Type 0} (P : Type 0) (h : P) where
  pub on_ok : (r : Result T E) → OnOk r P
  on_ok (Ok x) = h
  on_ok (Err e) = tt
