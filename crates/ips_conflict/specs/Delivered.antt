-- How an action in its place is seen.
use Rattle.std.specs.Prelude.{ℕ, List}
use Rattle.ips_action.specs.Action.{Fields}

-- An action in its place: the stem of the package that delivers it, the number of its line in that package's manifest, and the action.
pub record Delivered : Type 0 where
  pub stem : List ℕ
  pub line : ℕ
  pub action : Fields
