-- The acts of a step, done one after another, lay it.
use Rattle.std.proofs.Common.{◌≡◌, ℕ, zero, suc, ◌+◌, Bool, true, false, not, ◌&&◌, ◌||◌, List, [], ◌∷◌, take, take_all, slice_get, Some, None, refl, sym, ◌∙◌, ap, subst, arith}
use Rattle.std.proofs.lemmas.Bool.{and_parts, or_parts, not-true}
use Rattle.ips_text.specs.Ancestry.{same_path, covers}
use Rattle.ips_outside.specs.Image.{Dir, Link, Image, Agrees, is_file, has_parent}
use Rattle.ips_outside.specs.Change.{with_entry_at, joined, moded, names}
use Rattle.ips_outside.specs.State.{nowhere}
use Rattle.ips_folder.specs.Calls.{CanMake}
use Rattle.ips_steps.specs.Steps.{Step, Gone, Fresh, Mode, Put, Symlink, Hard, stage_path, after, feasible, frees, sets}
use Rattle.ips_steps.specs.View.{sort_of}
use Rattle.ips_kinds.specs.Acts.{acts}
use Rattle.ips_kinds.specs.declared.kind.Act.{Act}
use Rattle.ips_kinds.specs.declared.kind.Act.TheVariants as act
use Rattle.ips_kinds.proofs.Turns.{finished_last}
use Rattle.ips_outside.proofs.Agree.{joined_agrees, moded_agrees}
use Rattle.ips_outside.proofs.Images.{image_ext}
use Rattle.ips_outside.proofs.Moments.{agrees_less, placed_within}
use Rattle.ips_outside.proofs.Placed.{look_placed, placed_twice, parent_kept}
use Rattle.ips_apply.specs.Acting.{acted, all_acted, CanAct}
use Rattle.ips_apply.specs.Judging.{content_differs, has_other_mode}
use Rattle.ips_apply.proofs.Puts.{put_parts}

-- ---- a hard link made where something was cleared

-- what stands at and below its path doesn't matter
joined_alike : (p to : List ℕ) (t u : Image) → covers p to ≡ false → Agrees (covers p) nowhere t u → joined p to u ≡ joined p to t
joined_alike p to t u off h =
    let more = agrees_less (covers p) nowhere (λ q. covers p q || nowhere q) nowhere t u (λ q f. (or_parts (covers p q) false f).0) (λ q l. l) h in
    let both = joined_agrees p to nowhere nowhere t u off refl (λ f l. refl) more in
    image_ext _ _ (λ q. both.look q refl refl) (λ a b. both.same a b refl refl)

joined_cleared : (p to : List ℕ) (t : Image) → covers p to ≡ false → joined p to (with_entry_at p None t) ≡ joined p to t
joined_cleared p to t off = joined_alike p to t (with_entry_at p None t) off (placed_within p None t)

-- nor does it where the file gets another mode first
moded_cleared : (m : ℕ) (p to : List ℕ) (t : Image) → covers p to ≡ false → joined p to (moded m to (with_entry_at p None t)) ≡ joined p to (moded m to t)
moded_cleared m p to t off =
    let cleared = with_entry_at p None t in
    joined_alike p to (moded m to t) (moded m to cleared) off
    (moded_agrees m to (covers p) nowhere t cleared off (agrees_less (covers p) nowhere (covers p) (λ q. names t to q || nowhere q) t cleared (λ q f. f) (λ q l. refl) (placed_within p None t)))

-- ---- what all acts of a step make

-- what a hard link asks for
hard_parts : (p to : List ℕ) (t : Image) → feasible (Hard p to ∷ []) t ≡ true → (has_parent t p ≡ true) × (covers p to ≡ false) × (is_file (t.look to) ≡ true)
hard_parts p to t can =
    let parts = and_parts (has_parent t p) _ (and_parts (has_parent t p && (not (covers p to) && is_file (t.look to))) true can).0 in
    let more = and_parts (not (covers p to)) (is_file (t.look to)) parts.1 in
    (parts.0, not-true _ more.0, more.1)

all_make : (s : Step) (t : Image) → feasible (s ∷ []) t ≡ true → all_acted s (acts (sort_of s)) t ≡ after (s ∷ []) t
all_make (Gone p) t can = refl
all_make (Fresh m p) t can = placed_twice p (Some (Dir m false)) None t
all_make (Mode m p) t can = refl
all_make (Put n m p) t can = moded_cleared m p (stage_path n) t (put_parts n m p t can).1
all_make (Symlink p target) t can = placed_twice p (Some (Link target)) None t
all_make (Hard p to) t can = joined_cleared p to t (hard_parts p to t can).1

-- ---- each act but the last can be done at its turn, sets modes that the step sets, and finds the content's mode as it was

record AtTurn (s : Step) (start : Image) (a : Act) (t : Image) : Type 0 where
  can : CanAct s a t
  within : (q : List ℕ) → (frees s q || sets (s ∷ []) start q) ≡ false → sets (s ∷ []) t q ≡ false
  content : content_differs t s ≡ content_differs start s

abbrev Walk : Step → Image → List Act → Image → Type 0
Walk s start [] t = Unit {0}
Walk s start (a ∷ rest) t = ((a ≡ act.Finished → ⊥) → AtTurn s start a t) × Walk s start rest (acted s a t)

-- before anything is cleared
at_start : (s : Step) (t : Image) (a : Act) → CanAct s a t → AtTurn s t a t
at_start s t a can = record { can = can; within = λ q off. (or_parts (frees s q) _ off).1; content = refl }

cleared_makes : (p : List ℕ) (t : Image) → has_parent t p ≡ true → CanMake (with_entry_at p None t) p
cleared_makes p t here = record { absent = look_placed p None t; parent = parent_kept p None t here }

-- what isn't at or below a path stands when that is cleared
cleared_stands : (p q : List ℕ) (t : Image) → covers p q ≡ false → (with_entry_at p None t).look q ≡ t.look q
cleared_stands p q t off = (placed_within p None t).look q off refl

-- a put's content, when the put's path is cleared
at_name : (n m : ℕ) (p : List ℕ) (t : Image) → feasible (Put n m p ∷ []) t ≡ true → AtTurn (Put n m p) t act.MakeHard (with_entry_at p None t)
at_name n m p t can =
    let file = stage_path n in
    let parts = put_parts n m p t can in
    let stands = cleared_stands p file t parts.1 in
    record {
      can = (cleared_makes p t parts.0, ap is_file stands ∙ parts.2);
      within = λ q off.
          let both = or_parts (covers p q) _ off in
          ap (λ (x : Bool). (same_path file q || x) || false) ((placed_within p None t).same file q parts.1 both.0) ∙ both.1;
      content = ap (has_other_mode m) stands;
    }

walk : (s : Step) (t : Image) → feasible (s ∷ []) t ≡ true → Walk s t (acts (sort_of s)) t
walk (Gone p) t can = (λ other. at_start (Gone p) t act.Clear tt, (λ other. absurd (other refl), tt))
walk (Fresh m p) t can = (
  λ other. at_start (Fresh m p) t act.Clear tt,
  (
    λ other. record { can = cleared_makes p t (and_parts (has_parent t p) true can).0; within = λ q off. refl; content = refl },
    (λ other. absurd (other refl), tt),
  ),
)
walk (Mode m p) t can = (λ other. at_start (Mode m p) t act.SetMode tt, (λ other. absurd (other refl), tt))
walk (Put n m p) t can = (λ other. at_start (Put n m p) t act.Clear tt, (λ other. at_name n m p t can, (λ other. absurd (other refl), tt)))
walk (Symlink p target) t can = (
  λ other. at_start (Symlink p target) t act.Clear tt,
  (
    λ other. record { can = cleared_makes p t (and_parts (has_parent t p) true can).0; within = λ q off. refl; content = refl },
    (λ other. absurd (other refl), tt),
  ),
)
walk (Hard p to) t can =
    let parts = hard_parts p to t can in (
      λ other. at_start (Hard p to) t act.Clear tt,
      (
        λ other. record { can = (cleared_makes p t parts.0, ap is_file (cleared_stands p to t parts.1) ∙ parts.2); within = λ q off. refl; content = refl },
        (λ other. absurd (other refl), tt),
      ),
    )

at_turn : (s : Step) (start : Image) (list : List Act) (t : Image) (k : ℕ) (a : Act) → Walk s start list t → slice_get list k ≡ Some a → (a ≡ act.Finished → ⊥) → AtTurn s start a (all_acted s (take k list) t)
at_turn s start [] t k a w is other = cc
at_turn s start (x ∷ rest) t zero a w is other = let one : x ≡ a = cc in subst (λ (y : Act). (y ≡ act.Finished → ⊥) → AtTurn s start y t) one w.0 other
at_turn s start (x ∷ rest) t (suc k) a w is other = at_turn s start rest (acted s x t) k a w.1 is other

acted_suc : (s : Step) (list : List Act) (t : Image) (k : ℕ) (a : Act) → slice_get list k ≡ Some a → all_acted s (take (suc k) list) t ≡ acted s a (all_acted s (take k list) t)
acted_suc s [] t k a is = cc
acted_suc s (x ∷ rest) t zero a is = let one : x ≡ a = cc in ap (λ (y : Act). acted s y t) one
acted_suc s (x ∷ rest) t (suc k) a is = acted_suc s rest (acted s x t) k a is

-- the image before the act at a turn
abbrev pub until : Step → ℕ → Image → Image
until s k t = all_acted s (take k (acts (sort_of s))) t

module _ (s : Step) (t : Image) (k : ℕ) (a : Act) (is : slice_get (acts (sort_of s)) k ≡ Some a) where
  pub act_next : until s (k + 1) t ≡ acted s a (until s k t)
  act_next = let more : k + 1 ≡ suc k = omega arith in ap (λ (n : ℕ). until s n t) more ∙ acted_suc s (acts (sort_of s)) t k a is

  module _ (can : feasible (s ∷ []) t ≡ true) (other : a ≡ act.Finished → ⊥) where
    here : AtTurn s t a (until s k t)
    here = at_turn s t (acts (sort_of s)) t k a (walk s t can) is other

    pub act_can : CanAct s a (until s k t)
    act_can = here.can

    pub act_within : (q : List ℕ) → (frees s q || sets (s ∷ []) t q) ≡ false → sets (s ∷ []) (until s k t) q ≡ false
    act_within = here.within

    pub act_content : content_differs (until s k t) s ≡ content_differs t s
    act_content = here.content

-- where the acts are finished the step is laid
pub act_last : (s : Step) (t : Image) (k : ℕ) → feasible (s ∷ []) t ≡ true → slice_get (acts (sort_of s)) k ≡ Some act.Finished → until s k t ≡ after (s ∷ []) t
act_last s t k can is =
    let whole : take (k + 1) (acts (sort_of s)) ≡ acts (sort_of s) = take_all (k + 1) (acts (sort_of s)) (let last = finished_last (sort_of s) k is in omega (arith, last)) in
    sym (act_next s t k act.Finished is) ∙ ap (λ (list : List Act). all_acted s list t) whole ∙ all_make s t can
