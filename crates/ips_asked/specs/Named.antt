-- Lists that hold one thing under each name.
use Rattle.std.specs.Prelude.{◌≡◌, ℕ, if◌then◌else◌, List, [], ◌∷◌, ◌++◌, map, Option, Some, None}
use Rattle.std.specs.Option.{option_or}
use Rattle.std.specs.Str.{bytes_eq}
use Rattle.ips_state.specs.State.{Ascend}

-- the last thing of this name
abbrev pub latest : {A : Type 0} → (A → List ℕ) → List ℕ → List A → Option A
latest name_of name [] = None
latest name_of name (a ∷ items) = option_or (latest name_of name items) (if bytes_eq (name_of a) name then Some a else None)

-- The list has, by the bytes of their names, each thing that stands under its name when these things take the place of older ones.
pub record ArePutIn {A : Type 0} (name_of : A → List ℕ) (more old new : List A) : Type 0 where
  pub order : Ascend (map name_of new)
  pub each : (name : List ℕ) → latest name_of name new ≡ latest name_of name (old ++ more)
