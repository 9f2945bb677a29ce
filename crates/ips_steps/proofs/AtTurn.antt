-- A list of steps laid turn by turn.
use Rattle.std.proofs.Common.{◌≡◌, ℕ, zero, suc, ◌+◌, true, false, List, [], ◌∷◌, take, drop, slice_get, Some, refl, sym, ◌∙◌, ap, subst, arith}
use Rattle.std.proofs.lemmas.Bool.{or_parts, or_from}
use Rattle.ips_outside.specs.Image.{Image}
use Rattle.ips_steps.specs.Steps.{Step, frees, freed, after, feasible, sets}
use Rattle.ips_steps.proofs.Linked.{after_turn, feasible_parts, sets_turn, sets_parts}

pub can_at : (steps : List Step) (k : ℕ) (s : Step) (t : Image) → slice_get steps k ≡ Some s → feasible steps t ≡ true → feasible (s ∷ []) (after (take k steps) t) ≡ true
can_at [] k s t is can = cc
can_at (x ∷ rest) zero s t is can = let one : x ≡ s = cc in subst (λ (y : Step). feasible (y ∷ []) t ≡ true) one (feasible_parts x rest t can).0
can_at (x ∷ rest) (suc k) s t is can =
    ap (feasible (s ∷ [])) (after_turn x (take k rest) t) ∙ can_at rest k s (after (x ∷ []) t) is (feasible_parts x rest t can).1

after_suc : (steps : List Step) (k : ℕ) (s : Step) (t : Image) → slice_get steps k ≡ Some s → after (take (suc k) steps) t ≡ after (s ∷ []) (after (take k steps) t)
after_suc [] k s t is = cc
after_suc (x ∷ rest) zero s t is = let one : x ≡ s = cc in ap (λ (y : Step). after (y ∷ []) t) one
after_suc (x ∷ rest) (suc k) s t is =
    after_turn x (take (suc k) rest) t ∙ after_suc rest k s (after (x ∷ []) t) is ∙ ap (after (s ∷ [])) (sym (after_turn x (take k rest) t))

pub after_next : (steps : List Step) (k : ℕ) (s : Step) (t : Image) → slice_get steps k ≡ Some s → after (take (k + 1) steps) t ≡ after (s ∷ []) (after (take k steps) t)
after_next steps k s t is = let one_more : k + 1 ≡ suc k = omega arith in ap (λ (n : ℕ). after (take n steps) t) one_more ∙ after_suc steps k s t is

pub frees_at : (steps : List Step) (k : ℕ) (s : Step) (q : List ℕ) → slice_get steps k ≡ Some s → freed steps q ≡ false → frees s q ≡ false
frees_at [] k s q is none = cc
frees_at (x ∷ rest) zero s q is none = let one : x ≡ s = cc in subst (λ (y : Step). frees y q ≡ false) one (or_parts (frees x q) _ none).0
frees_at (x ∷ rest) (suc k) s q is none = frees_at rest k s q is (or_parts (frees x q) _ none).1

pub sets_at : (steps : List Step) (k : ℕ) (s : Step) (t : Image) (q : List ℕ) → slice_get steps k ≡ Some s → sets steps t q ≡ false → sets (s ∷ []) (after (take k steps) t) q ≡ false
sets_at [] k s t q is none = cc
sets_at (x ∷ rest) zero s t q is none = let one : x ≡ s = cc in subst (λ (y : Step). sets (y ∷ []) t q ≡ false) one (sets_parts x rest t q none).0
sets_at (x ∷ rest) (suc k) s t q is none =
    ap (λ (u : Image). sets (s ∷ []) u q) (after_turn x (take k rest) t) ∙ sets_at rest k s (after (x ∷ []) t) q is (sets_parts x rest t q none).1

-- the rest behind a front
pub rest_feasible : (steps : List Step) (n : ℕ) (t : Image) → feasible steps t ≡ true → feasible (drop n steps) (after (take n steps) t) ≡ true
rest_feasible steps zero t can = can
rest_feasible [] (suc n) t can = refl
rest_feasible (x ∷ rest) (suc n) t can =
    ap (feasible (drop n rest)) (after_turn x (take n rest) t) ∙ rest_feasible rest n (after (x ∷ []) t) (feasible_parts x rest t can).1

pub rest_after : (steps : List Step) (n : ℕ) (t : Image) → after (drop n steps) (after (take n steps) t) ≡ after steps t
rest_after steps zero t = refl
rest_after [] (suc n) t = refl
rest_after (x ∷ rest) (suc n) t =
    ap (after (drop n rest)) (after_turn x (take n rest) t) ∙ rest_after rest n (after (x ∷ []) t) ∙ sym (after_turn x rest t)

pub front_frees : (steps : List Step) (n : ℕ) (q : List ℕ) → freed steps q ≡ false → freed (take n steps) q ≡ false
front_frees steps zero q none = refl
front_frees [] (suc n) q none = refl
front_frees (x ∷ rest) (suc n) q none = let parts = or_parts (frees x q) (freed rest q) none in or_from (frees x q) _ parts.0 (front_frees rest n q parts.1)

pub front_sets : (steps : List Step) (n : ℕ) (t : Image) (q : List ℕ) → sets steps t q ≡ false → sets (take n steps) t q ≡ false
front_sets steps zero t q none = refl
front_sets [] (suc n) t q none = refl
front_sets (x ∷ rest) (suc n) t q none =
    let parts = sets_parts x rest t q none in
    sets_turn x (take n rest) t q ∙ or_from _ _ parts.0 (front_sets rest n (after (x ∷ []) t) q parts.1)
