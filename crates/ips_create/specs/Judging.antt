-- Why a repository can't be made.
use Rattle.std.specs.Prelude.{ℕ, IsTrue, IsFalse, List}
use Rattle.ips_outside.specs.Image.{Image}
use Rattle.ips_repo.specs.Mark.{is_repository}
use Rattle.ips_ways.specs.Ways.{IsFirstInTheWay}
use Rattle.ips_create.specs.declared.fault.CreateFault.{CreateFault}
use Rattle.ips_create.specs.declared.fault.CreateFault.TheVariants.{Exists, Blocked, FolderFault}

-- a repository is there; or there is none, and this is the first of the directories in whose way something is
abbrev pub SaysOfChecking : Image → List (List ℕ) → CreateFault → Type 0
SaysOfChecking t dirs Exists = IsTrue (is_repository t)
SaysOfChecking t dirs (Blocked path) = IsFalse (is_repository t) × IsFirstInTheWay t dirs path.bytes
SaysOfChecking t dirs (FolderFault unfinished) = Unit {0}
