-- The text of an account file, by what is left there, and why it isn't read.
use Rattle.std.specs.Prelude.{◌≡◌, ◌≢◌, ◌⊎◌, ℕ, ◌<◌, ◌≤◌, Bool, IsTrue, List, [], length, Option, Some, Err}
use Rattle.ips_outside.specs.Image.{Entry, Image}
use Rattle.ips_outside.specs.Outside.{readable}
use Rattle.ips_digest.specs.declared.name.PayloadName.{PayloadName}
use Rattle.ips_files.specs.Files.{file_at, HasSize}
use Rattle.ips_repo.specs.declared.fault.RepoFault.{RepoFault}
use Rattle.ips_repo.specs.declared.fault.RepoFault.TheVariants as faults
use Rattle.ips_repo.specs.Payload.{IsDamage, IsOpenFault, IsPayload, digest_by, payload_limit, payload_opening}
use Rattle.ips_repo.specs.Places.{payload_place}
use Rattle.ips_account_files.specs.declared.ledger.fault.LedgerFault.{LedgerFault}
use Rattle.ips_account_files.specs.declared.ledger.fault.LedgerFault.TheVariants as fault
use Rattle.ips_account_files.specs.declared.ledger.left.Left.{Left}
use Rattle.ips_account_files.specs.declared.ledger.left.Left.TheVariants.{Nothing, Standing, Laid}

-- The most bytes that an account file may have: 16 MiB.
abbrev pub account_limit : ℕ
account_limit = 16777216

-- The payload can't be opened for this fault: it is missing, or it has more bytes than a payload may have.
pub record IsUnopened (tells : Bool) (publisher : List ℕ) (t : Image) (name : PayloadName) (why : RepoFault) : Type 0 where
  pub fault : IsOpenFault why
  pub no_call : why ≢ faults.SourceFault
  pub held : IsTrue tells → payload_opening publisher name t ≡ Err why

-- The payload has bytes, no more than a payload may have, that are damaged.
pub record IsDamaged (tells : Bool) (publisher : List ℕ) (t : Image) (name : PayloadName) (why : RepoFault) : Type 0 where
  pub bytes : List ℕ
  pub within : length bytes ≤ payload_limit
  pub damage : IsDamage name bytes why
  pub held : IsTrue tells → file_at t (payload_place publisher name) ≡ Some bytes

-- The payload has this fault, and so has its file, where the repository tells what it holds.
abbrev pub IsPayloadFault : Bool → List ℕ → Image → PayloadName → RepoFault → Type 0
IsPayloadFault tells publisher t name why = IsUnopened tells publisher t name why ⊎ IsDamaged tells publisher t name why

-- Why a payload of these bytes, which are so many, isn't taken: they are damaged, or intact and more than an account file may have.
abbrev pub IsRefused : PayloadName → List ℕ → ℕ → LedgerFault → Type 0
IsRefused name bytes count (fault.Payload other why) = (other ≡ name) × IsDamage name bytes why
IsRefused name bytes count (fault.TooLarge n) = (n ≡ count) × (account_limit < count) × (digest_by name bytes ≡ name)
IsRefused name bytes count (fault.Account why) = ⊥
IsRefused name bytes count fault.SourceFault = ⊥
IsRefused name bytes count fault.FolderFault = ⊥

-- Why a payload that is laid at an account file isn't read: it has a fault, or is intact with more bytes than an account file may have.
abbrev pub IsUnread : Bool → List ℕ → Image → PayloadName → LedgerFault → Type 0
IsUnread tells publisher t name (fault.Payload other why) = (other ≡ name) × IsPayloadFault tells publisher t name why
IsUnread tells publisher t name (fault.TooLarge count) = (account_limit < count) × (count ≤ payload_limit) × ((bytes : List ℕ) × (length bytes ≡ count) × IsPayload tells publisher t name bytes)
IsUnread tells publisher t name (fault.Account why) = ⊥
IsUnread tells publisher t name fault.SourceFault = Unit {0}
IsUnread tells publisher t name fault.FolderFault = ⊥

-- The text is that of the file that is left: none, that of the file that stands, where the folder tells it, or the payload's.
abbrev pub IsTextLeft : Bool → Option Entry → Bool → List ℕ → Image → Left → List ℕ → Type 0
IsTextLeft told e tells publisher repository Nothing text = text ≡ []
IsTextLeft told e tells publisher repository (Standing mode) text = IsTrue told → text ≡ readable e
IsTextLeft told e tells publisher repository (Laid payload mode) text = IsPayload tells publisher repository payload text

-- Why the file that stands isn't read: it has more bytes than an account file may have, or the folder failed.
abbrev pub IsStandingUnread : Bool → Option (List ℕ) → LedgerFault → Type 0
IsStandingUnread told file (fault.Payload other why) = ⊥
IsStandingUnread told file (fault.TooLarge count) = (account_limit < count) × (IsTrue told → HasSize file count)
IsStandingUnread told file (fault.Account why) = ⊥
IsStandingUnread told file fault.SourceFault = ⊥
IsStandingUnread told file fault.FolderFault = Unit {0}

-- Why the text of the file that is left isn't read.
abbrev pub IsTextUnread : Bool → Option (List ℕ) → Bool → List ℕ → Image → Left → LedgerFault → Type 0
IsTextUnread told file tells publisher repository Nothing why = ⊥
IsTextUnread told file tells publisher repository (Standing mode) why = IsStandingUnread told file why
IsTextUnread told file tells publisher repository (Laid payload mode) why = IsUnread tells publisher repository payload why
