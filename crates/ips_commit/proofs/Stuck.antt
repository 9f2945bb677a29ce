-- What is ready isn't stuck.
use Rattle.std.proofs.Common.{◌≡◌, ℕ, ◌*◌, true, List, [], ◌∷◌, ◌++◌, length, take, slice_get, Some, append_assoc, sym, ap, subst}
use Rattle.ips_outside.specs.Image.{Image}
use Rattle.ips_steps.specs.Steps.{Step, after, feasible}
use Rattle.ips_steps.specs.Owed.{steps_left, IsOpen}
use Rattle.ips_steps.proofs.AtTurn.{can_at}
use Rattle.ips_steps.proofs.Lists.{clash}
use Rattle.ips_journal.specs.Text.{journal_text}
use Rattle.ips_journal.specs.Reading.{IsAt, journal_of}
use Rattle.ips_journal.proofs.JournalLaws.{in_order}
use Rattle.ips_apply.specs.Applied.{IsImpossible}
use Rattle.ips_commit.proofs.Lays.{next_of, front_less}
use Rattle.ips_commit.proofs.Owing.{ready_text}

at_front : (laid left : List Step) (s : Step) → laid ++ s ∷ [] ≡ take (length (laid ++ s ∷ [])) left → slice_get left (length laid) ≡ Some s
at_front [] [] s is = cc
at_front [] (x ∷ left) s is = let same : s ≡ x = cc in ap Some (sym same)
at_front (y ∷ laid) [] s is = cc
at_front (y ∷ laid) (x ∷ left) s is = let rest : laid ++ s ∷ [] ≡ take (length (laid ++ s ∷ [])) left = cc in at_front laid left s rest

module _ (steps : List Step) (marks : ℕ) (a t : Image) (is_open : IsOpen journal_text steps marks a t) where
  abbrev left : List Step
  left = steps_left marks steps

  pub never_stuck : (laid : List Step) (line : ℕ) → IsImpossible (journal_of t) (take (1000 * marks) steps ++ laid) (after laid t) line → ⊥
  never_stuck laid line stuck =
      let front = take (1000 * marks) steps in
      let s = stuck.step in
      let text = ready_text steps marks a t is_open.ready in
      let begins : front ++ (laid ++ s ∷ []) ≡ take (length (front ++ (laid ++ s ∷ []))) steps =
      subst (λ (l : List Step). l ≡ take (length l) steps) (append_assoc front laid (s ∷ []))
      (in_order steps ((front ++ laid) ++ s ∷ []) stuck.stands.0 is_open.ready.lists (subst (λ (l : List ℕ). IsAt l ((front ++ laid) ++ s ∷ []) stuck.stands.0) text stuck.stands.1)).1 in
      let next = next_of steps (laid ++ s ∷ []) (1000 * marks) begins in
      let k = length laid in
      let is_front = front_less laid left s next in
      let can : feasible (s ∷ []) (after (take k left) t) ≡ true = can_at left k s t (at_front laid left s next) is_open.ready.can in
      clash (feasible (s ∷ []) (after laid t)) (subst (λ (l : List Step). feasible (s ∷ []) (after l t) ≡ true) (sym is_front) can) stuck.cannot
