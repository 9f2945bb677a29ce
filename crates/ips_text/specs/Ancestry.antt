-- How paths stand to one another. A path is its bytes; its parts stand between bytes 47.
use Rattle.std.specs.Prelude.{ℕ, Bool, true, false, cond, not, ◌&&◌, ◌==◌, List, [], ◌∷◌, Option, Some, None}

-- the two are one path
abbrev pub same_path : List ℕ → List ℕ → Bool
same_path [] [] = true
same_path [] (b ∷ q) = false
same_path (a ∷ p) [] = false
same_path (a ∷ p) (b ∷ q) = (a == b) && same_path p q

-- the second path is the first, or stands below it
abbrev pub covers : List ℕ → List ℕ → Bool
covers [] [] = true
covers [] (b ∷ q) = b == 47
covers (a ∷ p) [] = false
covers (a ∷ p) (b ∷ q) = (a == b) && covers p q

-- the second path stands below the first
abbrev pub is_below : List ℕ → List ℕ → Bool
is_below p q = covers p q && not (same_path p q)

-- the parent of a path with one more byte in front, from the parent without it
abbrev pub behind : ℕ → Option (List ℕ) → Option (List ℕ)
behind a (Some q) = Some (a ∷ q)
behind a None = cond (a == 47) (Some []) None

-- the path of the directory that holds this one: all before the last `/`; a path of one part has none
abbrev pub parent : List ℕ → Option (List ℕ)
parent [] = None
parent (a ∷ p) = behind a (parent p)
