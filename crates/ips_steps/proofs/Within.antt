-- Where a list of steps changes an image, and that it leaves a well-formed image well formed.
use Rattle.std.proofs.Common.{◌≡◌, true, List, [], ◌∷◌, None, refl}
use Rattle.std.proofs.lemmas.Bool.{and_parts, or_parts, lt-ltb}
use Rattle.ips_outside.specs.Image.{Image, IsImage, Agrees, has_parent}
use Rattle.ips_steps.specs.Steps.{Step, Gone, Fresh, Mode, Put, Symlink, Hard, Stage, laid, all_laid, can_lay, possible, frees, freed, meets, met}
use Rattle.ips_steps.specs.Journal.{IsProper, AllProper}
use Rattle.ips_outside.proofs.Images.{HasNodes}
use Rattle.ips_outside.proofs.Formed.{placed_formed, joined_formed, moded_formed}
use Rattle.ips_outside.proofs.Moments.{agrees_self, agrees_on, agrees_less, placed_within, joined_within, moded_within}
use Rattle.ips_steps.proofs.Laying.{laid_nodes}

-- one step changes the paths that it frees and the modes that it meets
pub step_within : (stage : Stage) (s : Step) (t : Image) → Agrees (frees s) (meets s t) t (laid stage s t)
step_within stage (Gone p) t = placed_within p None t
step_within stage (Fresh m p) t = placed_within p _ t
step_within stage (Mode m p) t = moded_within m p t
step_within stage (Put n m p) t = placed_within p _ t
step_within stage (Symlink p target) t = placed_within p _ t
step_within stage (Hard p to) t = joined_within p to t

-- and so does a list
pub laid_within : (stage : Stage) (steps : List Step) (t : Image) → Agrees (freed steps) (met stage steps t) t (all_laid stage steps t)
laid_within stage [] t = agrees_self _ _ t
laid_within stage (s ∷ rest) t = agrees_on _ _ t (laid stage s t) (all_laid stage rest (laid stage s t))
    (agrees_less _ _ _ _ t (laid stage s t) (λ q f. (or_parts (frees s q) (freed rest q) f).0) (λ q l. (or_parts (meets s t q) (met stage rest (laid stage s t) q) l).0) (step_within stage s t))
    (agrees_less _ _ _ _ (laid stage s t) _ (λ q f. (or_parts (frees s q) (freed rest q) f).1) (λ q l. (or_parts (meets s t q) (met stage rest (laid stage s t) q) l).1) (laid_within stage rest (laid stage s t)))

pub all_nodes : (stage : Stage) (steps : List Step) (t : Image) → HasNodes t → HasNodes (all_laid stage steps t)
all_nodes stage [] t h = h
all_nodes stage (s ∷ rest) t h = all_nodes stage rest (laid stage s t) (laid_nodes stage s t h)

-- a step that a journal can list, where it can be laid, leaves a well-formed image well formed
pub laid_formed : (stage : Stage) (s : Step) (t : Image) → IsImage t → IsProper s → can_lay stage s t ≡ true → IsImage (laid stage s t)
laid_formed stage (Gone p) t formed proper can = placed_formed p None t formed (λ some. cc) (λ some. proper) refl
laid_formed stage (Fresh m p) t formed proper can = placed_formed p _ t formed (λ _. can) (λ _. proper.0) (lt-ltb m 4096 proper.1)
laid_formed stage (Mode m p) t formed proper can = moded_formed m p t formed proper.1
laid_formed stage (Put n m p) t formed proper can = placed_formed p _ t formed (λ _. (and_parts (has_parent t p) _ can).0) (λ _. proper.0) (lt-ltb m 4096 proper.1)
laid_formed stage (Symlink p target) t formed proper can = placed_formed p _ t formed (λ _. can) (λ _. proper.0) refl
laid_formed stage (Hard p to) t formed proper can = joined_formed p to t formed (and_parts (has_parent t p) _ can).0 proper.0

-- and so does a list of them
pub all_formed : (stage : Stage) (steps : List Step) (t : Image) → IsImage t → AllProper steps → possible stage steps t ≡ true → IsImage (all_laid stage steps t)
all_formed stage [] t formed proper can = formed
all_formed stage (s ∷ rest) t formed proper can =
    let cans = and_parts (can_lay stage s t) (possible stage rest (laid stage s t)) can in
    all_formed stage rest (laid stage s t) (laid_formed stage s t formed proper.0 cans.0) proper.1 cans.1
