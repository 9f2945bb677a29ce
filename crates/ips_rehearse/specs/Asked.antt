-- What steps ask of a file system.
use Rattle.std.specs.Prelude.{ℕ, ◌+◌, ◌/◌, ◌%◌, ◌≤◌, Bool, false, true, not, ◌||◌, ◌&&◌, ◌==◌, nat_lt, IsTrue, List, [], ◌∷◌, length, drop, Option, Some, None}
use Rattle.std.specs.List.{All, list_any}
use Rattle.ips_text.specs.Ancestry.{is_below, same_path, parent}
use Rattle.ips_outside.specs.Children.{is_directory}
use Rattle.ips_steps.specs.Steps.{Step, Gone, Fresh, Mode, Put, Symlink, Hard, at_parent}

-- Of the texts of these things none is longer than this one. It is one of them, or empty.
pub record IsLongest {A : Type 0} (text : A → List ℕ) (all : List A) (one : List ℕ) : Type 0 where
  pub among : IsTrue (same_path one [] || list_any (λ x. same_path one (text x)) all)
  pub longest : All (λ x. length (text x) ≤ length one) all

-- what a symbolic link says; other steps say nothing
abbrev pub target_of : Step → List ℕ
target_of (Gone p) = []
target_of (Fresh m p) = []
target_of (Mode m p) = []
target_of (Put n m p) = []
target_of (Symlink p target) = target
target_of (Hard p to) = []

-- the name behind a directory's path; a path of one part is its own name
abbrev pub name_behind : List ℕ → Option (List ℕ) → List ℕ
name_behind p (Some dir) = drop (length dir + 1) p
name_behind p None = p

-- the last part of a path
abbrev pub last_part : List ℕ → List ℕ
last_part p = name_behind p (parent p)

-- the step makes one more name of a file: it puts or hard-links one
abbrev pub makes_name : Step → Bool
makes_name (Gone p) = false
makes_name (Fresh m p) = false
makes_name (Mode m p) = false
makes_name (Put n m p) = true
makes_name (Symlink p target) = false
makes_name (Hard p to) = true

-- the step makes or takes away something directly in the directory
abbrev pub works_in : List ℕ → Step → Bool
works_in dir (Gone p) = is_directory dir (parent p)
works_in dir (Fresh m p) = is_directory dir (parent p)
works_in dir (Mode m p) = false
works_in dir (Put n m p) = is_directory dir (parent p)
works_in dir (Symlink p target) = is_directory dir (parent p)
works_in dir (Hard p to) = is_directory dir (parent p)

-- the step makes the directory, or sets its mode
abbrev pub gives_mode : List ℕ → Step → Bool
gives_mode q (Gone p) = false
gives_mode q (Fresh m p) = same_path p q
gives_mode q (Mode m p) = same_path p q
gives_mode q (Put n m p) = false
gives_mode q (Symlink p target) = false
gives_mode q (Hard p to) = false

-- A step works in the directory before any gives it a mode, so with the mode that stands. Behind the first that gives it one, whoever
-- lays the steps again gives it that one first.
abbrev pub works_first : List ℕ → List Step → Bool
works_first q [] = false
works_first q (s ∷ rest) = works_in q s || (not (gives_mode q s) && works_first q rest)

-- something may stand where the step takes it away: it is no mode, and its parent isn't made
abbrev pub may_take : (List ℕ → Bool) → Step → Bool
may_take made (Gone p) = not (at_parent made (parent p))
may_take made (Fresh m p) = not (at_parent made (parent p))
may_take made (Mode m p) = false
may_take made (Put n m p) = not (at_parent made (parent p))
may_take made (Symlink p target) = not (at_parent made (parent p))
may_take made (Hard p to) = not (at_parent made (parent p))

-- the step makes a directory at the path
abbrev pub makes_dir : List ℕ → Step → Bool
makes_dir q (Gone p) = false
makes_dir q (Fresh m p) = same_path p q
makes_dir q (Mode m p) = false
makes_dir q (Put n m p) = false
makes_dir q (Symlink p target) = false
makes_dir q (Hard p to) = false

-- who owns a directory of the mode may not read it
abbrev pub is_unreadable : ℕ → Bool
is_unreadable m = nat_lt (m % 512) 256

-- who owns a directory of the mode may not go through it
abbrev pub is_closed : ℕ → Bool
is_closed m = m / 64 % 2 == 0

-- the step goes through the directory: to its path, and to the file of which a hard link is a name
abbrev pub goes_through : List ℕ → Step → Bool
goes_through q (Gone p) = is_below q p
goes_through q (Fresh m p) = is_below q p
goes_through q (Mode m p) = is_below q p
goes_through q (Put n m p) = is_below q p
goes_through q (Symlink p target) = is_below q p
goes_through q (Hard p to) = is_below q p || is_below q to

-- The step gives this mode to a directory in which something is made or taken away, or one that can't be gone through to one where a
-- step goes through, or makes one that can't be read, so that even an empty one couldn't be taken away again.
abbrev pub gives_worked : (List ℕ → Bool) → (List ℕ → Bool) → ℕ → Step → Bool
gives_worked worked passed m (Gone p) = false
gives_worked worked passed m (Fresh k p) = (worked p || (is_closed k && passed p) || is_unreadable k) && (k == m)
gives_worked worked passed m (Mode k p) = (worked p || (is_closed k && passed p)) && (k == m)
gives_worked worked passed m (Put n k p) = false
gives_worked worked passed m (Symlink p target) = false
gives_worked worked passed m (Hard p to) = false

-- the mode has a bit above 0777
abbrev pub is_beyond : ℕ → Bool
is_beyond m = nat_lt 511 m

-- the step may give a directory this mode, which has a bit above 0777
abbrev pub gives_dir : ℕ → Step → Bool
gives_dir m (Gone p) = false
gives_dir m (Fresh k p) = is_beyond k && (k == m)
gives_dir m (Mode k p) = is_beyond k && (k == m)
gives_dir m (Put n k p) = false
gives_dir m (Symlink p target) = false
gives_dir m (Hard p to) = false

-- the step may give a file this mode, which has a bit above 0777
abbrev pub gives_file : ℕ → Step → Bool
gives_file m (Gone p) = false
gives_file m (Fresh k p) = false
gives_file m (Mode k p) = is_beyond k && (k == m)
gives_file m (Put n k p) = is_beyond k && (k == m)
gives_file m (Symlink p target) = false
gives_file m (Hard p to) = false
