-- What holds of all that is wanted: each entry has proper parts, and the entries hang together.
use Rattle.std.specs.Prelude.{◌≡◌, ℕ, ◌<◌, Bool, true, false, List, Option, Some, None}
use Rattle.std.specs.List.{All, Contains}
use Rattle.ips_text.specs.Path.{IsPath}
use Rattle.ips_text.specs.Ancestry.{parent}
use Rattle.ips_action.specs.Check.{IsLinkTarget}
use Rattle.ips_digest.specs.declared.name.PayloadName.{PayloadName}
use Rattle.ips_action.specs.declared.action.Preserve.{Preserve}
use Rattle.ips_action.specs.declared.action.Preserve.TheVariants as preserve
use Rattle.ips_meaning.specs.declared.entry.Entry.{Entry}
use Rattle.ips_meaning.specs.declared.entry.Entry.TheVariants.{Dir, File, Link, Hard}

-- A mode of permission bits, where there is one.
abbrev pub IsSmall : Option ℕ → Type 0
IsSmall (Some mode) = mode < 4096
IsSmall None = Unit {0}

-- Modes are permission bits, a symbolic link says what one can say, and a hard link leads to a path.
abbrev pub HasProperParts : Entry → Type 0
HasProperParts (Dir mode) = IsSmall mode
HasProperParts (File payload mode preserve) = mode < 4096
HasProperParts (Link target) = IsLinkTarget target
HasProperParts (Hard to) = IsPath to.bytes

-- Each path is one, and each entry has proper parts.
abbrev pub AreProper : List (List ℕ × Entry) → Type 0
AreProper entries = All (λ e. IsPath e.0 × HasProperParts e.1) entries

-- A directory is wanted at the path, where there is one.
abbrev pub IsDirWanted : List (List ℕ × Entry) → Option (List ℕ) → Type 0
IsDirWanted entries (Some path) = (mode : Option ℕ) × Contains entries (path, Dir mode)
IsDirWanted entries None = Unit {0}

-- A file that is kept so is never missing where its package is installed.
abbrev pub is_sure : Preserve → Bool
is_sure preserve.None = true
is_sure preserve.True = true
is_sure preserve.RenameOld = true
is_sure preserve.RenameNew = true
is_sure preserve.Legacy = false
is_sure preserve.Abandon = false
is_sure preserve.InstallOnly = false

-- A file that is never missing is wanted at the path.
abbrev pub IsFileWanted : List (List ℕ × Entry) → List ℕ → Type 0
IsFileWanted entries path = (payload : PayloadName) × (mode : ℕ) × (preserve : Preserve) × Contains entries (path, File payload mode preserve) × (is_sure preserve ≡ true)

-- A hard link leads to such a file.
abbrev pub LeadsToWanted : List (List ℕ × Entry) → Entry → Type 0
LeadsToWanted entries (Dir mode) = Unit {0}
LeadsToWanted entries (File payload mode preserve) = Unit {0}
LeadsToWanted entries (Link target) = Unit {0}
LeadsToWanted entries (Hard to) = IsFileWanted entries to.bytes

-- What is wanted hangs together: what holds a wanted path is wanted as a directory, and a hard link leads to a wanted file that is never missing.
pub record HangTogether (entries : List (List ℕ × Entry)) : Type 0 where
  pub held : (path : List ℕ) (entry : Entry) → Contains entries (path, entry) → IsDirWanted entries (parent path)
  pub led : All (λ e. LeadsToWanted entries e.1) entries
