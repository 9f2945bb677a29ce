-- What an object that runs programs means to proofs.
use Rattle.std.specs.Prelude.{◌≡◌, ℕ, Bool, IsTrue, List, [], ◌∷◌, ◌++◌, Result, IsErr, IfOk, OnErr}
use Rattle.ips_outside.specs.Outside.{HasCause}

-- A program that was run: its words, of which the first names it, and the status with which it ended.
pub record Run : Type 0 where
  pub words : List (List ℕ)
  pub status : ℕ

-- Memory tells what it ran; real programs aren't told.
pub record Running (S : Type 0) : Type 1 where
  -- whether it tells what it ran
  pub tells : S → Bool
  -- what it ran, the oldest first
  pub ran : S → List Run
  -- how often it failed
  pub faults : S → ℕ

-- A call with these words: at `Ok` they were run, with the status that is answered, and at `Err` nothing was.
pub record Runs {S E : Type 0} (r : Running S) (words : List (List ℕ)) (old new : S) (result : Result ℕ E) : Type 0 where
  pub same_kind : r.tells new ≡ r.tells old
  pub cause : HasCause (r.faults old) (r.faults new) (IsErr result)
  pub ran : IsTrue (r.tells old) → IfOk result (λ status. r.ran new ≡ r.ran old ++ record { words = words; status = status } ∷ [])
  pub kept : IsTrue (r.tells old) → OnErr result (r.ran new ≡ r.ran old)
