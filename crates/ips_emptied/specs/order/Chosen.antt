-- Places of a list that are marked.
use Rattle.std.specs.Prelude.{ℕ, ◌+◌, Bool, cond, List, [], ◌∷◌, ◌++◌, get_or}

-- The places that are marked, of which the first has this number.
abbrev pub chosen : ℕ → List Bool → List ℕ
chosen i [] = []
chosen i (b ∷ marks) = cond b (i ∷ chosen (i + 1) marks) (chosen (i + 1) marks)

-- The places from the last on.
abbrev pub turned_places : List ℕ → List ℕ
turned_places [] = []
turned_places (i ∷ places) = turned_places places ++ i ∷ []

-- The path at a place.
abbrev pub path_in : List (List ℕ) → ℕ → List ℕ
path_in paths i = get_or paths i []
