-- What becomes of a path, as what is wanted there says.
use Rattle.std.specs.Prelude.{◌≡◌, ℕ, List, Option, Some, None}
use Rattle.ips_digest.specs.Name.{spelling}
use Rattle.ips_after.specs.After.{stated}
use Rattle.ips_after.specs.Request.{WantDir, WantFile, WantHard, WantLink, Wanted}
use Rattle.ips_change.specs.declared.change.Change.{Change}
use Rattle.ips_change.specs.declared.change.Change.TheVariants as told

-- The mode that a wanted directory is made with.
abbrev pub made_mode : Option Wanted → Option ℕ
made_mode (Some (WantDir m)) = Some (stated m)
made_mode (Some (WantFile payload m preserve)) = None
made_mode (Some (WantLink target)) = None
made_mode (Some (WantHard to)) = None
made_mode None = None

-- The mode that is stated for a wanted directory or file.
abbrev pub stated_mode : Option Wanted → Option ℕ
stated_mode (Some (WantDir m)) = m
stated_mode (Some (WantFile payload m preserve)) = Some m
stated_mode (Some (WantLink target)) = None
stated_mode (Some (WantHard to)) = None
stated_mode None = None

-- The payload and the mode of a wanted file.
abbrev pub laid_file : Option Wanted → Option (List ℕ × ℕ)
laid_file (Some (WantDir m)) = None
laid_file (Some (WantFile payload m preserve)) = Some (payload, m)
laid_file (Some (WantLink target)) = None
laid_file (Some (WantHard to)) = None
laid_file None = None

-- What becomes of the path is what its wanted entry says: what is made has the entry's payload, mode, target or path, a mode that is given is
-- the stated one, and what goes is no longer wanted.
abbrev pub Fits : Option Wanted → Change → Type 0
Fits new told.Kept = Unit {0}
Fits new told.Removed = new ≡ None
Fits new (told.Dir mode) = made_mode new ≡ Some mode
Fits new (told.File payload mode) = laid_file new ≡ Some (spelling payload.now, mode)
Fits new (told.Link target) = new ≡ Some (WantLink target.now)
Fits new (told.Hard to) = new ≡ Some (WantHard to.now.bytes)
Fits new (told.Mode mode) = stated_mode new ≡ Some mode
