-- What a sink of bytes means to proofs.
use Rattle.std.specs.Prelude.{ℕ, ◌<◌, ◌≤◌, Bool, List, length}

-- Memory tells what it took; a terminal doesn't.
pub record Taking (S : Type 0) : Type 1 where
  -- whether it tells what it took
  pub tells : S → Bool
  -- the bytes that it took, the oldest first
  pub taken : S → List ℕ
  -- how often it failed
  pub faults : S → ℕ

-- A count of bytes taken: not more than were handed in, and at least one of them.
pub record TakesSome (bytes : List ℕ) (count : ℕ) : Type 0 where
  pub within : count ≤ length bytes
  pub some : 0 < length bytes → 0 < count
