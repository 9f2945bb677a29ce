-- What becomes of a path with the directories that are made for what is below them.
use Rattle.std.specs.Prelude.{ℕ, Bool, false, cond, ◌||◌, List, Option, Some, None, is_some}
use Rattle.ips_outside.specs.Image.{Dir, Image}
use Rattle.ips_after.specs.After.{is_top, stated}
use Rattle.ips_after.specs.Change.{Change, Laid}
use Rattle.ips_after.specs.Request.{Request, WantDir, WantFile, WantHard, WantLink, Wanted}

-- a directory with a stated mode goes there, or account files and records speak of the path
abbrev pub begins_taken : Request → Image → List ℕ → Bool
begins_taken r t q = is_top r t q || is_some (r.over.at q)

-- what becomes of a path, where this does without and where a directory is made for what is below or not
abbrev pub supported_by : Option Wanted → Change → Bool → Change
supported_by (Some (WantDir m)) own support = cond support (Laid (Dir (stated m) false)) own
supported_by (Some (WantFile payload m preserve)) own support = own
supported_by (Some (WantLink target)) own support = own
supported_by (Some (WantHard to)) own support = own
supported_by None own support = cond support (Laid (Dir 493 false)) own
