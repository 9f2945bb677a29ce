-- Where the target of a hardlink leads. A directory is the bytes of its path, of which the root has none.
use Rattle.std.specs.Prelude.{◌≡◌, ℕ, Bool, true, false, ◌&&◌, ◌==◌, if◌then◌else◌, List, [], ◌∷◌, ◌++◌, Option, Some, None, option_and_then, unwrap_or}
use Rattle.ips_text.specs.Path.{IsPath, parts, begins_at_root}
use Rattle.ips_text.specs.Ancestry.{parent}

-- the part names the directory that it stands in: it is empty or `.`
abbrev pub is_here : List ℕ → Bool
is_here [] = true
is_here (b ∷ []) = b == 46
is_here (b ∷ c ∷ bytes) = false

-- the part names the directory above: it is `..`
abbrev pub is_above : List ℕ → Bool
is_above [] = false
is_above (b ∷ []) = false
is_above (b ∷ c ∷ []) = (b == 46) && (c == 46)
is_above (b ∷ c ∷ d ∷ bytes) = false

-- the directory that holds this path: the root where the path has one part
abbrev pub holder : List ℕ → List ℕ
holder path = unwrap_or (parent path) []

-- the directory above this one; the root has none
abbrev pub above : List ℕ → Option (List ℕ)
above [] = None
above (b ∷ at) = Some (holder (b ∷ at))

-- the path of a part in a directory
abbrev pub below : List ℕ → List ℕ → List ℕ
below [] part = part
below (b ∷ at) part = (b ∷ at) ++ 47 ∷ part

-- where one part leads from a directory
abbrev pub step : List ℕ → List ℕ → Option (List ℕ)
step at part = if is_here part then Some at else (if is_above part then above at else Some (below at part))

-- where parts lead, one after the other: nowhere where a step goes above the root
abbrev pub walk : List (List ℕ) → List ℕ → Option (List ℕ)
walk [] at = Some at
walk (part ∷ rest) at = option_and_then (walk rest) (step at part)

-- where a target is followed from: the root where it begins with `/`, else the directory that holds the hardlink
abbrev pub start : List ℕ → List ℕ → List ℕ
start path target = if begins_at_root target then [] else holder path

-- the target of a hardlink at this path leads to the path found, which is one inside the image
pub record LeadsTo (path target found : List ℕ) : Type 0 where
  pub walked : walk (parts target) (start path target) ≡ Some found
  pub inside : IsPath found
