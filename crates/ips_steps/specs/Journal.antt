-- Which steps a journal can list.
use Rattle.std.specs.Prelude.{ℕ, ◌+◌, ◌^◌, ◌<◌, Bool, true, not, ◌&&◌, ◌==◌, IsTrue, List, [], ◌∷◌, length}
use Rattle.ips_text.specs.Ancestry.{covers}
use Rattle.ips_text.specs.Path.{IsPath}
use Rattle.ips_text.specs.Quote.{AreBytes}
use Rattle.ips_steps.specs.Targets.{IsTarget}
use Rattle.ips_steps.specs.Steps.{Step, Gone, Fresh, Mode, Put, Symlink, Hard}
use Rattle.ips_steps.specs.Private.{records_name, is_private}

-- the path is neither private, nor the folder of the records, nor above that
abbrev pub may_name : List ℕ → Bool
may_name p = not (is_private p) && not (covers p records_name)

-- a step may name its path, and a hard link its target; a mode may also name the folder of the records and what is above
abbrev pub step_allowed : Step → Bool
step_allowed (Gone p) = may_name p
step_allowed (Fresh m p) = may_name p
step_allowed (Mode m p) = not (is_private p)
step_allowed (Put n m p) = may_name p
step_allowed (Symlink p target) = may_name p
step_allowed (Hard p to) = may_name p && may_name to

-- each step of the list may name its paths
abbrev pub allowed : List Step → Bool
allowed [] = true
allowed (s ∷ rest) = step_allowed s && allowed rest

-- the step has proper parts: its paths are paths, its mode is one of permission bits, and what a symbolic link says is a target of bytes
abbrev pub IsProper : Step → Type 0
IsProper (Gone p) = IsPath p
IsProper (Fresh m p) = IsPath p × (m < 4096)
IsProper (Mode m p) = IsPath p × (m < 4096)
IsProper (Put n m p) = IsPath p × (m < 4096)
IsProper (Symlink p target) = IsPath p × IsTarget target × AreBytes target
IsProper (Hard p to) = IsPath p × IsPath to

-- each step of the list has proper parts
abbrev pub AllProper : List Step → Type 0
AllProper [] = Unit {0}
AllProper (s ∷ rest) = IsProper s × AllProper rest

-- the contents are numbered one after another, from this number on
abbrev pub numbered : ℕ → List Step → Bool
numbered n [] = true
numbered n (Gone p ∷ rest) = numbered n rest
numbered n (Fresh m p ∷ rest) = numbered n rest
numbered n (Mode m p ∷ rest) = numbered n rest
numbered n (Put k m p ∷ rest) = (k == n) && numbered (n + 1) rest
numbered n (Symlink p target ∷ rest) = numbered n rest
numbered n (Hard p to ∷ rest) = numbered n rest

-- A journal can list these steps: there are fewer than 2^64, each has proper parts and may name its paths, and the
-- contents are numbered from 0.
pub record IsJournal (steps : List Step) : Type 0 where
  pub count : length steps < 2 ^ 64
  pub proper : AllProper steps
  pub names : IsTrue (allowed steps)
  pub numbers : IsTrue (numbered 0 steps)
