-- The base of an account file: what stands there behind a request in which nothing is said.
use Rattle.std.specs.Prelude.{◌≡◌, ◌⊎◌, ℕ, Bool, IsTrue, List, Option, Some, None}
use Rattle.ips_outside.specs.Image.{Dir, Entry, File, Image, Link, Other}
use Rattle.ips_outside.specs.Outside.{readable}
use Rattle.ips_digest.specs.declared.name.PayloadName.{PayloadName}
use Rattle.ips_digest.specs.Name.{spelling}
use Rattle.ips_files.specs.Files.{file_at}
use Rattle.ips_repo.specs.Payload.{IsPayload}
use Rattle.ips_change.specs.declared.survey.row.Row.{Row}
use Rattle.ips_emptied.specs.declared.settled.Settled.{Settled}
use Rattle.ips_account_files.specs.declared.ledger.left.Left.{Left}
use Rattle.ips_account_files.specs.declared.ledger.left.Left.TheVariants.{Nothing, Standing, Laid}
use Rattle.ips_account_files.specs.declared.ledger.fault.LedgerFault.{LedgerFault}
use Rattle.ips_account_files.specs.declared.ledger.fault.LedgerFault.TheVariants.{FolderFault}
use Rattle.ips_account_files.specs.ledger.Left.{IsLeft}
use Rattle.ips_account_files.specs.ledger.Texts.{IsTextLeft, IsTextUnread}

-- The mode of a file, or this one where none stands.
abbrev pub mode_or : ℕ → Option Entry → ℕ
mode_or mode (Some (Dir m f)) = mode
mode_or mode (Some (File m b)) = m
mode_or mode (Some (Link g)) = mode
mode_or mode (Some Other) = mode
mode_or mode None = mode

-- The mode of what is left, or this one where nothing is.
abbrev pub mode_left : ℕ → Left → ℕ
mode_left mode Nothing = mode
mode_left mode (Standing m) = m
mode_left mode (Laid payload m) = m

-- Where the repository tells what it holds, the bytes of each payload are those that it has there.
abbrev pub ArePayloads : Bool → List ℕ → Image → (List ℕ → List ℕ) → Type 0
ArePayloads tells publisher repository bytes = IsTrue tells → (name : PayloadName) (b : List ℕ) → IsPayload tells publisher repository name b → bytes (spelling name) ≡ b

-- The text and the mode are those of what the requests of these rows leave at the path, or none and this mode where they leave nothing.
pub record IsBase (told : Bool) (t : Image) (rows : List Row) (s : Settled) (replaced : List Bool) (path : List ℕ) (default : ℕ) (tells : Bool) (publisher : List ℕ) (repository : Image) (text : List ℕ) (mode : ℕ) : Type 0 where
  pub left : Left
  pub leaves : IsTrue told → IsLeft t rows s replaced path left
  pub reads : IsTextLeft told (t.look path) tells publisher repository left text
  pub gives : mode ≡ mode_left default left

-- Why the base of an account file isn't given: the folder failed, or the text of what is left at the path isn't read.
abbrev pub IsBaseUnread : Bool → Image → List Row → Settled → List Bool → List ℕ → Bool → List ℕ → Image → LedgerFault → Type 0
IsBaseUnread told t rows s replaced path tells publisher repository why = (why ≡ FolderFault) ⊎ ((left : Left) × (IsTrue told → IsLeft t rows s replaced path left) × IsTextUnread told (file_at t path) tells publisher repository left why)

-- The text and the mode are those of this file, or none and this mode where there is none.
abbrev pub IsFileRead : ℕ → Option Entry → List ℕ → ℕ → Type 0
IsFileRead default file text mode = (text ≡ readable file) × (mode ≡ mode_or default file)
