-- A list of steps laid on two images that agree but at its own paths, and perhaps at paths that it doesn't read.
use Rattle.std.proofs.Common.{◌≡◌, ℕ, Bool, true, false, ◌||◌, List, [], ◌∷◌, Option, Some, None, refl, sym, ◌∙◌}
use Rattle.std.proofs.lemmas.Bool.{and_parts, and_from, or_parts, or_from, not-true}
use Rattle.ips_text.specs.Ancestry.{covers, parent}
use Rattle.ips_outside.specs.Image.{Image, Agrees}
use Rattle.ips_outside.specs.Change.{joined}
use Rattle.ips_outside.specs.State.{nowhere}
use Rattle.ips_steps.specs.Steps.{Step, Gone, Fresh, Mode, Put, Symlink, Hard, Stage, laid, all_laid, can_lay, possible, freed, at_parent, sound_before, sound, met, clear_of, all_clear_of}
use Rattle.ips_outside.proofs.Agree.{placed_agrees, moded_agrees, joined_agrees}
use Rattle.ips_outside.proofs.Images.{HasNodes, joined_new, image_ext}
use Rattle.ips_outside.proofs.Moments.{agrees_less}
use Rattle.ips_steps.proofs.Laying.{laid_nodes, met_twins, has_parent_agrees, has_parent_kept, can_hard}

module _ (apart : List ℕ → Bool) where
  abbrev pub open_to : List Step → List ℕ → Bool
  open_to rest q = freed rest q || apart q

  grouped : (p : List ℕ) (rest : List Step) (loose : List ℕ → Bool) (t u : Image) → Agrees (λ q. (covers p q || freed rest q) || apart q) loose t u → Agrees (λ q. covers p q || open_to rest q) loose t u
  grouped p rest loose t u h = agrees_less _ loose _ loose t u
      (λ q f. let x = or_parts (covers p q) (open_to rest q) f in let y = or_parts (freed rest q) (apart q) x.1 in or_from _ _ (or_from _ _ x.0 y.0) y.1) (λ q l. l) h

  parent_both : (rest : List Step) (o : Option (List ℕ)) → at_parent (freed rest) o ≡ false → at_parent apart o ≡ false → at_parent (open_to rest) o ≡ false
  parent_both rest (Some q) f a = or_from _ _ f a
  parent_both rest None f a = refl

  pub lay_but : (stage : Stage) (s : Step) (rest : List Step) (t u : Image) → HasNodes t → sound_before s rest ≡ true → clear_of apart s ≡ true → can_lay stage s t ≡ true
      → Agrees (open_to (s ∷ rest)) (met stage (s ∷ rest) t) t u → Agrees (open_to rest) (met stage rest (laid stage s t)) (laid stage s t) (laid stage s u)
  lay_but stage (Gone p) rest t u n sb cl can h = placed_agrees p None _ _ t u (grouped p rest _ t u h)
  lay_but stage (Fresh m p) rest t u n sb cl can h = placed_agrees p _ _ _ t u (grouped p rest _ t u h)
  lay_but stage (Mode m p) rest t u n sb cl can h = moded_agrees m p _ _ t u (or_from _ _ (not-true _ (and_parts _ _ sb).1) (not-true _ (and_parts _ _ cl).1)) h
  lay_but stage (Put k m p) rest t u n sb cl can h = placed_agrees p _ _ _ t u (grouped p rest _ t u h)
  lay_but stage (Symlink p target) rest t u n sb cl can h = placed_agrees p _ _ _ t u (grouped p rest _ t u h)
  lay_but stage (Hard p to) rest t u n sb cl can h =
      let target = and_parts _ _ (and_parts _ _ can).1 in
      let off = not-true _ target.0 in
      let free_to = not-true _ (and_parts _ _ sb).1 in
      joined_agrees p to _ _ t u off (or_from _ _ free_to (not-true _ (and_parts _ _ cl).1))
      (λ fp lp. sym (met_twins stage rest (joined p to t) p to (joined_new p to t n off target.1) (or_parts _ _ fp).0 free_to) ∙ lp) (grouped p rest _ t u h)

  pub can_but : (stage : Stage) (s : Step) (rest : List Step) (t u : Image) → sound_before s rest ≡ true → clear_of apart s ≡ true → can_lay stage s t ≡ true
      → Agrees (open_to (s ∷ rest)) (met stage (s ∷ rest) t) t u → can_lay stage s u ≡ true
  can_but stage (Gone p) rest t u sb cl can h = refl
  can_but stage (Fresh m p) rest t u sb cl can h = has_parent_agrees p _ _ t u (grouped p rest _ t u h) (parent_both rest (parent p) (not-true _ sb) (not-true _ cl)) can
  can_but stage (Mode m p) rest t u sb cl can h = has_parent_kept p _ _ t u h (parent_both rest (parent p) (not-true _ (and_parts _ _ sb).0) (not-true _ (and_parts _ _ cl).0)) can
  can_but stage (Put k m p) rest t u sb cl can h =
      let parts = and_parts _ _ can in
      and_from _ _ (has_parent_agrees p _ _ t u (grouped p rest _ t u h) (parent_both rest (parent p) (not-true _ sb) (not-true _ cl)) parts.0) parts.1
  can_but stage (Symlink p target) rest t u sb cl can h = has_parent_agrees p _ _ t u (grouped p rest _ t u h) (parent_both rest (parent p) (not-true _ sb) (not-true _ cl)) can
  can_but stage (Hard p to) rest t u sb cl can h =
      let parts = and_parts _ _ can in
      let sounds = and_parts _ _ sb in
      let clears = and_parts _ _ cl in
      and_from _ _ (has_parent_agrees p _ _ t u (grouped p rest _ t u h) (parent_both rest (parent p) (not-true _ sounds.0) (not-true _ clears.0)) parts.0)
      (can_hard p to _ _ t u (grouped p rest _ t u h) (or_from _ _ (not-true _ sounds.1) (not-true _ clears.1)) parts.1)

  pub again_but : (stage : Stage) (steps : List Step) (t u : Image) → HasNodes t → sound steps ≡ true → all_clear_of apart steps ≡ true → possible stage steps t ≡ true
      → Agrees (open_to steps) (met stage steps t) t u → (possible stage steps u ≡ true) × Agrees apart nowhere (all_laid stage steps t) (all_laid stage steps u)
  again_but stage [] t u n so cl po h = (refl, h)
  again_but stage (s ∷ rest) t u n so cl po h =
      let sounds = and_parts (sound_before s rest) (sound rest) so in
      let clears = and_parts (clear_of apart s) (all_clear_of apart rest) cl in
      let cans = and_parts (can_lay stage s t) (possible stage rest (laid stage s t)) po in
      let later = again_but stage rest (laid stage s t) (laid stage s u) (laid_nodes stage s t n) sounds.1 clears.1 cans.1 (lay_but stage s rest t u n sounds.0 clears.0 cans.0 h) in
      (and_from _ _ (can_but stage s rest t u sounds.0 clears.0 cans.0 h) later.0, later.1)

clear_nowhere : (o : Option (List ℕ)) → at_parent nowhere o ≡ false
clear_nowhere (Some q) = refl
clear_nowhere None = refl

step_clear : (s : Step) → clear_of nowhere s ≡ true
step_clear (Gone p) = refl
step_clear (Fresh m p) = rw (clear_nowhere (parent p)) refl
step_clear (Mode m p) = rw (clear_nowhere (parent p)) refl
step_clear (Put n m p) = rw (clear_nowhere (parent p)) refl
step_clear (Symlink p target) = rw (clear_nowhere (parent p)) refl
step_clear (Hard p to) = rw (clear_nowhere (parent p)) refl

all_clear : (steps : List Step) → all_clear_of nowhere steps ≡ true
all_clear [] = refl
all_clear (s ∷ rest) = and_from _ _ (step_clear s) (all_clear rest)

-- Laying again gives the same image.
pub again : (stage : Stage) (steps : List Step) (t u : Image) → HasNodes t → sound steps ≡ true → possible stage steps t ≡ true
    → Agrees (freed steps) (met stage steps t) t u → (possible stage steps u ≡ true) × (all_laid stage steps u ≡ all_laid stage steps t)
again stage steps t u n so po h =
    let both = again_but nowhere stage steps t u n so (all_clear steps) po (agrees_less _ _ _ _ t u (λ q f. (or_parts (freed steps q) false f).0) (λ q l. l) h) in
    (both.0, image_ext _ _ (λ q. both.1.look q refl refl) (λ a b. both.1.same a b refl refl))
