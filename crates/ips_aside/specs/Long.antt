-- Names that are too long for a path.
use Rattle.std.specs.Prelude.{ℕ, Bool, true, false, ◌&&◌, IsTrue, IsFalse, List, Option, Some, None}
use Rattle.std.specs.List.{list_any}
use Rattle.ips_text.specs.Ancestry.{same_path}
use Rattle.ips_after.specs.Salvage.{is_long_path, lesser}
use Rattle.ips_aside.specs.declared.sides.side.Side.{Side}
use Rattle.ips_aside.specs.declared.sides.side.SideName.{SideName}
use Rattle.ips_aside.specs.declared.sides.side.SideName.TheVariants as name
use Rattle.ips_aside.specs.declared.lost.LostName.{LostName}

-- The path is the first by bytes at which the test holds; where there is none, it holds at no path.
abbrev pub IsFirstAt : (List ℕ → Bool) → Option (List ℕ) → Type 0
IsFirstAt test (Some p) = IsTrue (test p) × ((q : List ℕ) → IsTrue (lesser q p) → IsFalse (test q))
IsFirstAt test None = (q : List ℕ) → IsFalse (test q)

-- the name beside the path is too long
abbrev pub is_too_long_name : SideName → Bool
is_too_long_name (name.Free path) = false
is_too_long_name name.Lost = false
is_too_long_name name.TooLong = true

-- a name beside the path is too long
abbrev pub too_long_at : List Side → List ℕ → Bool
too_long_at sides q = list_any (λ s. same_path s.path.now.bytes q && is_too_long_name s.name) sides

-- a name in the salvage folder, of a file that is put beside the path, is too long
abbrev pub long_name_at : List LostName → List ℕ → Bool
long_name_at names q = list_any (λ x. same_path x.path.now.bytes q && is_long_path x.name.items) names
