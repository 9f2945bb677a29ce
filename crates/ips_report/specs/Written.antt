-- A text that is written piece by piece.
use Rattle.std.specs.Prelude.{ℕ, List}

-- All that was written, and how many bytes there is room for.
pub record Written : Type 0 where
  pub text : List ℕ
  pub room : ℕ
