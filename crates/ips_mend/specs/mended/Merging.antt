-- Findings that are taken one by one, along the wanted paths.
use Rattle.std.specs.Prelude.{ℕ, cond, List, [], ◌∷◌, Option, Some, None}
use Rattle.ips_text.specs.Ancestry.{same_path}
use Rattle.ips_after.specs.Findings.{Damage, Finding}

-- The damage of the first finding, where it is at the path.
abbrev pub damage_next : List ℕ → List Finding → Option Damage
damage_next p [] = None
damage_next p (x ∷ rest) = cond (same_path x.path p) (Some x.damage) None

-- The findings without the first one, where it is at the path.
abbrev pub left_next : List ℕ → List Finding → List Finding
left_next p [] = []
left_next p (x ∷ rest) = cond (same_path x.path p) rest (x ∷ rest)
