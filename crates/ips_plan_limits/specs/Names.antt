-- How many names one file gets by a plan.
use Rattle.std.specs.Prelude.{ℕ, ◌+◌, Bool, false, cond, max, List, [], ◌∷◌, Option, Some, None}
use Rattle.ips_text.specs.Ancestry.{same_path}
use Rattle.ips_steps.specs.Steps.{Step, Gone, Fresh, Mode, Put, Symlink, Hard}

-- The targets of the hard links among the steps, in their order.
abbrev pub targets_of : List Step → List (List ℕ)
targets_of [] = []
targets_of (Hard p to ∷ later) = to ∷ targets_of later
targets_of (Gone p ∷ later) = targets_of later
targets_of (Fresh m p ∷ later) = targets_of later
targets_of (Mode m p ∷ later) = targets_of later
targets_of (Put n m p ∷ later) = targets_of later
targets_of (Symlink p target ∷ later) = targets_of later

-- How often a path stands among these.
abbrev pub times : List ℕ → List (List ℕ) → ℕ
times path [] = 0
times path (other ∷ later) = cond (same_path path other) 1 0 + times path later

-- How often the path stands that stands most often.
abbrev pub most_times : List (List ℕ) → ℕ
most_times [] = 0
most_times (path ∷ later) = max (times path later + 1) (most_times later)

-- The most names that one file gets by the steps: its own, and the hard links to it.
abbrev pub most_names : List Step → ℕ
most_names steps = most_times (targets_of steps) + 1

-- The next path, where there is one, is the same.
abbrev pub is_next : List ℕ → Option (List ℕ) → Bool
is_next path None = false
is_next path (Some next) = same_path path next
