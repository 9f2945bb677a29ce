-- The steps as they are laid on a folder that holds the contents: which paths they free and read, and their turns.
use Rattle.std.proofs.Common.{◌≡◌, ℕ, Bool, true, false, not, ◌&&◌, ◌||◌, List, [], ◌∷◌, ◌++◌, Option, Some, None, inl, inr, refl, sym, ◌∙◌, ap, subst}
use Rattle.std.proofs.lemmas.Bool.{and_parts, and_from, or_parts, or_left, or_right, or_cases, not-true, not_from_false, false_from_ne_true}
use Rattle.ips_text.specs.Ancestry.{covers, parent}
use Rattle.ips_outside.specs.Image.{Image, IsImage, Agrees, has_parent}
use Rattle.ips_outside.specs.Change.{moded, names}
use Rattle.ips_outside.specs.State.{nowhere}
use Rattle.ips_steps.specs.Steps.{Step, Gone, Fresh, Mode, Put, Symlink, Hard, stage_name, stage_path, frees, freed, at_parent, parent_freed, sound_before, sound, can_lay, clear_of, all_clear_of, linked, no_contents, after, feasible, sets}
use Rattle.ips_steps.specs.Private.{mark_front, begins, is_private, visible}
use Rattle.ips_steps.specs.Journal.{step_allowed, allowed, IsProper, AllProper}
use Rattle.ips_text.proofs.Ancestry.{covers_trans, parent_covers}
use Rattle.ips_outside.proofs.Formed.{joined_formed, moded_formed}
use Rattle.ips_outside.proofs.Images.{HasNodes}
use Rattle.ips_outside.proofs.Moments.{agrees_less}
use Rattle.ips_steps.proofs.Again.{again, again_but}
use Rattle.ips_steps.proofs.Apart.{all_fewer, list_alike}
use Rattle.ips_steps.proofs.Lists.{clash}
use Rattle.ips_steps.proofs.Numbered.{content_parent}
use Rattle.ips_steps.proofs.PrivateNames.{all_clear, content_kept, mark_private, visible_agrees}
use Rattle.ips_steps.proofs.Within.{laid_formed, laid_within, all_nodes}

-- ---- what they free

pub freed_linked : (steps : List Step) (q : List ℕ) → freed (linked steps) q ≡ freed steps q
freed_linked [] q = refl
freed_linked (Gone p ∷ rest) q = ap (λ (x : Bool). covers p q || x) (freed_linked rest q)
freed_linked (Fresh m p ∷ rest) q = ap (λ (x : Bool). covers p q || x) (freed_linked rest q)
freed_linked (Mode m p ∷ rest) q = freed_linked rest q
freed_linked (Put n m p ∷ rest) q = ap (λ (x : Bool). covers p q || x) (freed_linked rest q)
freed_linked (Symlink p target ∷ rest) q = ap (λ (x : Bool). covers p q || x) (freed_linked rest q)
freed_linked (Hard p to ∷ rest) q = ap (λ (x : Bool). covers p q || x) (freed_linked rest q)

pub not_freed_linked : (steps : List Step) (q : List ℕ) → freed steps q ≡ false → freed (linked steps) q ≡ false
not_freed_linked steps q off = freed_linked steps q ∙ off

parent_linked : (rest : List Step) (o : Option (List ℕ)) → at_parent (freed rest) o ≡ false → at_parent (freed (linked rest)) o ≡ false
parent_linked rest (Some q) off = not_freed_linked rest q off
parent_linked rest None off = refl

-- what frees a path frees all below it
step_down : (s : Step) (q r : List ℕ) → covers q r ≡ true → frees s q ≡ true → frees s r ≡ true
step_down (Gone p) q r c f = covers_trans p q r f c
step_down (Fresh m p) q r c f = covers_trans p q r f c
step_down (Mode m p) q r c f = cc
step_down (Put n m p) q r c f = covers_trans p q r f c
step_down (Symlink p target) q r c f = covers_trans p q r f c
step_down (Hard p to) q r c f = covers_trans p q r f c

freed_down : (steps : List Step) (q r : List ℕ) → covers q r ≡ true → freed steps q ≡ true → freed steps r ≡ true
freed_down [] q r c f = cc
freed_down (s ∷ rest) q r c f = elim (or_cases (frees s q) (freed rest q) f) [
  | inl now ↦ or_left (frees s r) (freed rest r) (step_down s q r c now)
  | inr later ↦ or_right (frees s r) (freed rest r) (freed_down rest q r c later)
]

-- so what isn't freed has a parent that isn't
parent_kept : (steps : List Step) (r : List ℕ) → freed steps r ≡ false → parent_freed steps r ≡ false
parent_kept steps r off = go (parent r) refl
  where
    go : (o : Option (List ℕ)) → parent r ≡ o → at_parent (freed steps) o ≡ false
    go (Some q) is = false_from_ne_true _ (λ f. clash (freed steps r) (freed_down steps q r (parent_covers r q is) f) off)
    go None is = refl

-- ---- they are sound

sound_parent : (rest : List Step) (p : List ℕ) → not (parent_freed rest p) ≡ true → not (parent_freed (linked rest) p) ≡ true
sound_parent rest p off = not_from_false _ (parent_linked rest (parent p) (not-true _ off))

sound_at : (rest : List Step) (p : List ℕ) → not (freed rest p) ≡ true → not (freed (linked rest) p) ≡ true
sound_at rest p off = not_from_false _ (not_freed_linked rest p (not-true _ off))

-- no later step frees a content
kept_content : (steps : List Step) (n : ℕ) → allowed steps ≡ true → not (freed (linked steps) (stage_path n)) ≡ true
kept_content steps n may = not_from_false _ (not_freed_linked steps (stage_path n) (content_kept steps n may))

kept_stage : (steps : List Step) (n : ℕ) → allowed steps ≡ true → not (parent_freed (linked steps) (stage_path n)) ≡ true
kept_stage steps n may = not_from_false _ (parent_linked steps (parent (stage_path n)) (parent_kept steps (stage_path n) (content_kept steps n may)))

pub sound_linked : (steps : List Step) → allowed steps ≡ true → sound steps ≡ true → sound (linked steps) ≡ true
sound_linked [] may so = refl
sound_linked (Gone p ∷ rest) may so = sound_linked rest (and_parts (step_allowed (Gone p)) (allowed rest) may).1 so
sound_linked (Fresh m p ∷ rest) may so =
    let sounds = and_parts (sound_before (Fresh m p) rest) (sound rest) so in
    and_from _ _ (sound_parent rest p sounds.0) (sound_linked rest (and_parts (step_allowed (Fresh m p)) (allowed rest) may).1 sounds.1)
sound_linked (Mode m p ∷ rest) may so =
    let sounds = and_parts (sound_before (Mode m p) rest) (sound rest) so in
    let own = and_parts _ _ sounds.0 in
    and_from _ _ (and_from _ _ (sound_parent rest p own.0) (sound_at rest p own.1)) (sound_linked rest (and_parts (step_allowed (Mode m p)) (allowed rest) may).1 sounds.1)
sound_linked (Put n m p ∷ rest) may so =
    let sounds = and_parts (sound_before (Put n m p) rest) (sound rest) so in
    let later = (and_parts (step_allowed (Put n m p)) (allowed rest) may).1 in
    and_from _ _ (and_from _ _ (kept_stage (Put n m p ∷ rest) n may) (kept_content (Put n m p ∷ rest) n may))
    (and_from _ _ (and_from _ _ (sound_parent rest p sounds.0) (kept_content rest n later)) (sound_linked rest later sounds.1))
sound_linked (Symlink p target ∷ rest) may so =
    let sounds = and_parts (sound_before (Symlink p target) rest) (sound rest) so in
    and_from _ _ (sound_parent rest p sounds.0) (sound_linked rest (and_parts (step_allowed (Symlink p target)) (allowed rest) may).1 sounds.1)
sound_linked (Hard p to ∷ rest) may so =
    let sounds = and_parts (sound_before (Hard p to) rest) (sound rest) so in
    let own = and_parts _ _ sounds.0 in
    and_from _ _ (and_from _ _ (sound_parent rest p own.0) (sound_at rest to own.1)) (sound_linked rest (and_parts (step_allowed (Hard p to)) (allowed rest) may).1 sounds.1)

-- ---- what they read

-- besides what the steps read, they read the contents and their folder
module _ (apart : List ℕ → Bool) (files : (n : ℕ) → apart (stage_path n) ≡ false) (dir : apart stage_name ≡ false) where
  pub clear_linked : (steps : List Step) → all_clear_of apart steps ≡ true → all_clear_of apart (linked steps) ≡ true
  clear_linked [] cl = refl
  clear_linked (Gone p ∷ rest) cl = clear_linked rest cl
  clear_linked (Fresh m p ∷ rest) cl = let cls = and_parts (clear_of apart (Fresh m p)) (all_clear_of apart rest) cl in and_from _ _ cls.0 (clear_linked rest cls.1)
  clear_linked (Mode m p ∷ rest) cl = let cls = and_parts (clear_of apart (Mode m p)) (all_clear_of apart rest) cl in and_from _ _ cls.0 (clear_linked rest cls.1)
  clear_linked (Put n m p ∷ rest) cl =
      let cls = and_parts (clear_of apart (Put n m p)) (all_clear_of apart rest) cl in
      let file = not_from_false _ (files n) in
      and_from _ _ (and_from _ _ (not_from_false _ (ap (at_parent apart) (content_parent n) ∙ dir)) file) (and_from _ _ (and_from _ _ cls.0 file) (clear_linked rest cls.1))
  clear_linked (Symlink p target ∷ rest) cl = let cls = and_parts (clear_of apart (Symlink p target)) (all_clear_of apart rest) cl in and_from _ _ cls.0 (clear_linked rest cls.1)
  clear_linked (Hard p to ∷ rest) cl = let cls = and_parts (clear_of apart (Hard p to)) (all_clear_of apart rest) cl in and_from _ _ cls.0 (clear_linked rest cls.1)

-- ---- turn by turn

pub after_turn : (s : Step) (rest : List Step) (t : Image) → after (s ∷ rest) t ≡ after rest (after (s ∷ []) t)
after_turn (Gone p) rest t = refl
after_turn (Fresh m p) rest t = refl
after_turn (Mode m p) rest t = refl
after_turn (Put n m p) rest t = refl
after_turn (Symlink p target) rest t = refl
after_turn (Hard p to) rest t = refl

one_test : (a b : Bool) → (a && b) ≡ ((a && true) && b)
one_test true b = refl
one_test false b = refl

two_tests : (a b c : Bool) → (a && (b && c)) ≡ ((a && (b && true)) && c)
two_tests true true c = refl
two_tests true false c = refl
two_tests false b c = refl

pub feasible_turn : (s : Step) (rest : List Step) (t : Image) → feasible (s ∷ rest) t ≡ (feasible (s ∷ []) t && feasible rest (after (s ∷ []) t))
feasible_turn (Gone p) rest t = refl
feasible_turn (Fresh m p) rest t = one_test (has_parent t p) (feasible rest (after (Fresh m p ∷ []) t))
feasible_turn (Mode m p) rest t = one_test (has_parent t p) (feasible rest (after (Mode m p ∷ []) t))
feasible_turn (Put n m p) rest t = two_tests (has_parent t (stage_path n)) (can_lay no_contents (Hard p (stage_path n)) (moded m (stage_path n) t)) (feasible rest (after (Put n m p ∷ []) t))
feasible_turn (Symlink p target) rest t = one_test (has_parent t p) (feasible rest (after (Symlink p target ∷ []) t))
feasible_turn (Hard p to) rest t = one_test (can_lay no_contents (Hard p to) t) (feasible rest (after (Hard p to ∷ []) t))

or_none : (a b : Bool) → (a || b) ≡ ((a || false) || b)
or_none true b = refl
or_none false b = refl

pub sets_turn : (s : Step) (rest : List Step) (t : Image) (q : List ℕ) → sets (s ∷ rest) t q ≡ (sets (s ∷ []) t q || sets rest (after (s ∷ []) t) q)
sets_turn (Gone p) rest t q = refl
sets_turn (Fresh m p) rest t q = refl
sets_turn (Mode m p) rest t q = or_none (names t p q) (sets rest (after (Mode m p ∷ []) t) q)
sets_turn (Put n m p) rest t q = or_none (names t (stage_path n) q) (sets rest (after (Put n m p ∷ []) t) q)
sets_turn (Symlink p target) rest t q = refl
sets_turn (Hard p to) rest t q = refl

pub feasible_parts : (s : Step) (rest : List Step) (t : Image) → feasible (s ∷ rest) t ≡ true → (feasible (s ∷ []) t ≡ true) × (feasible rest (after (s ∷ []) t) ≡ true)
feasible_parts s rest t can = and_parts (feasible (s ∷ []) t) (feasible rest (after (s ∷ []) t)) (sym (feasible_turn s rest t) ∙ can)

pub feasible_from : (s : Step) (rest : List Step) (t : Image) → feasible (s ∷ []) t ≡ true → feasible rest (after (s ∷ []) t) ≡ true → feasible (s ∷ rest) t ≡ true
feasible_from s rest t now later = feasible_turn s rest t ∙ and_from _ _ now later

pub sets_parts : (s : Step) (rest : List Step) (t : Image) (q : List ℕ) → sets (s ∷ rest) t q ≡ false → (sets (s ∷ []) t q ≡ false) × (sets rest (after (s ∷ []) t) q ≡ false)
sets_parts s rest t q none = or_parts (sets (s ∷ []) t q) (sets rest (after (s ∷ []) t) q) (sym (sets_turn s rest t q) ∙ none)

-- one list behind another
pub after_append : (x y : List Step) (t : Image) → after (x ++ y) t ≡ after y (after x t)
after_append [] y t = refl
after_append (s ∷ x) y t = after_turn s (x ++ y) t ∙ after_append x y (after (s ∷ []) t) ∙ ap (after y) (sym (after_turn s x t))

pub feasible_append : (x y : List Step) (t : Image) → feasible x t ≡ true → feasible y (after x t) ≡ true → feasible (x ++ y) t ≡ true
feasible_append [] y t cx cy = cy
feasible_append (s ∷ x) y t cx cy =
    let parts = feasible_parts s x t cx in
    feasible_from s (x ++ y) t parts.0 (feasible_append x y (after (s ∷ []) t) parts.1 (ap (feasible y) (sym (after_turn s x t)) ∙ cy))

pub sets_append : (x y : List Step) (t : Image) (q : List ℕ) → sets (x ++ y) t q ≡ (sets x t q || sets y (after x t) q)
sets_append [] y t q = refl
sets_append (s ∷ x) y t q =
    sets_turn s (x ++ y) t q
    ∙ ap (λ (b : Bool). sets (s ∷ []) t q || b) (sets_append x y (after (s ∷ []) t) q)
    ∙ grouped (sets (s ∷ []) t q) (sets x (after (s ∷ []) t) q) (sets y (after x (after (s ∷ []) t)) q)
    ∙ ap (λ (b : Bool). b || sets y (after x (after (s ∷ []) t)) q) (sym (sets_turn s x t q))
    ∙ ap (λ (u : Image). sets (s ∷ x) t q || sets y u q) (sym (after_turn s x t))
  where
    grouped : (a b c : Bool) → (a || (b || c)) ≡ ((a || b) || c)
    grouped true b c = refl
    grouped false b c = refl

-- ---- within their paths and modes, and well formed

pub after_within : (steps : List Step) (t : Image) → Agrees (freed steps) (sets steps t) t (after steps t)
after_within steps t = agrees_less _ _ _ _ t (after steps t) (not_freed_linked steps) (λ q l. l) (laid_within no_contents (linked steps) t)

pub after_nodes : (steps : List Step) (t : Image) → HasNodes t → HasNodes (after steps t)
after_nodes steps t n = all_nodes no_contents (linked steps) t n

step_formed : (s : Step) (t : Image) → IsImage t → IsProper s → feasible (s ∷ []) t ≡ true → IsImage (after (s ∷ []) t)
step_formed (Gone p) t formed proper can = laid_formed no_contents (Gone p) t formed proper refl
step_formed (Fresh m p) t formed proper can = laid_formed no_contents (Fresh m p) t formed proper (and_parts _ _ can).0
step_formed (Mode m p) t formed proper can = laid_formed no_contents (Mode m p) t formed proper (and_parts _ _ can).0
step_formed (Put n m p) t formed proper can =
    let cans = and_parts _ _ (and_parts _ _ can).1 in
    joined_formed p (stage_path n) _ (moded_formed m (stage_path n) t formed proper.1) (and_parts _ _ cans.0).0 proper.0
step_formed (Symlink p target) t formed proper can = laid_formed no_contents (Symlink p target) t formed proper (and_parts _ _ can).0
step_formed (Hard p to) t formed proper can = laid_formed no_contents (Hard p to) t formed proper (and_parts _ _ can).0

pub after_formed : (steps : List Step) (t : Image) → IsImage t → AllProper steps → feasible steps t ≡ true → IsImage (after steps t)
after_formed [] t formed proper can = formed
after_formed (s ∷ rest) t formed proper can =
    let cans = feasible_parts s rest t can in
    subst IsImage (sym (after_turn s rest t)) (after_formed rest (after (s ∷ []) t) (step_formed s t formed proper.0 cans.0) proper.1 cans.1)

-- ---- laid again, and on images that agree apart

agrees_linked : (apart : List ℕ → Bool) (loose : List ℕ → Bool) (steps : List Step) (t u : Image) → Agrees (λ q. freed steps q || apart q) loose t u → Agrees (λ q. freed (linked steps) q || apart q) loose t u
agrees_linked apart loose steps t u h = agrees_less _ loose _ loose t u (λ q f. ap (λ (b : Bool). b || apart q) (sym (freed_linked steps q)) ∙ f) (λ q l. l) h

-- laying again gives the same image
pub after_again : (steps : List Step) (t u : Image) → HasNodes t → allowed steps ≡ true → sound steps ≡ true → feasible steps t ≡ true
    → Agrees (freed steps) (sets steps t) t u → (feasible steps u ≡ true) × (after steps u ≡ after steps t)
after_again steps t u n may so po h = again no_contents (linked steps) t u n (sound_linked steps may so) po (agrees_less _ _ _ _ t u (λ q f. sym (freed_linked steps q) ∙ f) (λ q l. l) h)

-- at private names other than the contents and their folder
module _ (apart : List ℕ → Bool) (own : (q : List ℕ) → apart q ≡ true → is_private q ≡ true) (files : (n : ℕ) → apart (stage_path n) ≡ false) (dir : apart stage_name ≡ false) where
  own_off : (q : List ℕ) → is_private q ≡ false → apart q ≡ false
  own_off q seen = false_from_ne_true _ (λ a. clash (is_private q) (own q a) seen)

  reads_none : (steps : List Step) → allowed steps ≡ true → all_clear_of apart (linked steps) ≡ true
  reads_none steps may = clear_linked apart files dir steps (all_fewer apart is_private own_off steps (all_clear steps may))

  seen_alike : (t u : Image) → Agrees apart nowhere t u → visible u ≡ visible t
  seen_alike t u h = visible_agrees t u (agrees_less apart nowhere is_private nowhere t u own_off (λ q l. l) h)

  -- a list that a journal can have, on images that agree but at private names other than the contents
  pub own_alike : (steps : List Step) (t u : Image) → allowed steps ≡ true → Agrees apart nowhere t u
      → (feasible steps u ≡ feasible steps t) × Agrees apart nowhere (after steps t) (after steps u) × (visible (after steps u) ≡ visible (after steps t))
  own_alike steps t u may h =
      let both = list_alike apart no_contents (linked steps) t u (reads_none steps may) h in
      (both.0, both.1, seen_alike _ _ both.1)

  -- and where they differ also at its own paths, and in its modes
  pub own_again : (steps : List Step) (t u : Image) → HasNodes t → allowed steps ≡ true → sound steps ≡ true → feasible steps t ≡ true
      → Agrees (λ q. freed steps q || apart q) (sets steps t) t u → (feasible steps u ≡ true) × (visible (after steps u) ≡ visible (after steps t))
  own_again steps t u n may so po h =
      let both = again_but apart no_contents (linked steps) t u n (sound_linked steps may so) (reads_none steps may) po (agrees_linked apart _ steps t u h) in
      (both.0, seen_alike _ _ both.1)

front_content_off : (n : ℕ) → begins mark_front (stage_path n) ≡ false
unfolding mark_front stage_name
front_content_off n = refl

front_stage_off : begins mark_front stage_name ≡ false
unfolding mark_front stage_name
front_stage_off = refl

-- the same on images that agree but at names of marks
pub marks_alike : (steps : List Step) (t u : Image) → allowed steps ≡ true → Agrees (begins mark_front) nowhere t u
    → (feasible steps u ≡ feasible steps t) × Agrees (begins mark_front) nowhere (after steps t) (after steps u) × (visible (after steps u) ≡ visible (after steps t))
marks_alike steps t u may h = own_alike (begins mark_front) mark_private front_content_off front_stage_off steps t u may h
