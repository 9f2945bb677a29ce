-- What is found of one account file before it is edited.
use Rattle.std.specs.Prelude.{◌≡◌, ◌⊎◌, ℕ, Bool, false, ◌||◌, IsTrue, List, Option, Some, None}
use Rattle.ips_after.specs.Request.{Request}
use Rattle.ips_account_files.specs.declared.ledger.base.BaseFile.{BaseFile}
use Rattle.ips_account_files.specs.declared.ledger.fault.LedgerFault.{LedgerFault}
use Rattle.ips_account_files.specs.declared.ledger.fault.LedgerFault.TheVariants as fault
use Rattle.ips_account_files.specs.ledger.Blocking.{is_blocked, wants_other_than_file}
use Rattle.ips_account_files.specs.Around.{Around}
use Rattle.ips_account_files.specs.Bases.{IsBaseOf, IsUnreadOf}

-- The file can be edited: nothing is in the way there or elsewhere, and nothing else is wanted.
pub record IsFree (a : Around) (r : Request) (path : List ℕ) (elsewhere : Bool) : Type 0 where
  pub free : elsewhere ≡ false
  pub wanted : wants_other_than_file (r.new.at path) ≡ false
  pub seen : IsTrue a.told → is_blocked r a.image path ≡ false

-- Nothing is found where the file can't be edited, as far as the folder tells; else what the request leaves.
abbrev pub IsFound : Around → Request → List ℕ → ℕ → Bool → Option BaseFile → Type 0
IsFound a r path default elsewhere None = IsTrue a.told → IsTrue (elsewhere || is_blocked r a.image path)
IsFound a r path default elsewhere (Some base) = IsFree a r path elsewhere × IsBaseOf a r path default base.text.items base.mode

-- Why nothing is answered of the file: the folder failed, or it can be edited, but what the request leaves isn't read.
abbrev pub IsLost : Around → Request → List ℕ → Bool → LedgerFault → Type 0
IsLost a r path elsewhere why = (why ≡ fault.FolderFault) ⊎ (IsFree a r path elsewhere × IsUnreadOf a r path why)

-- The text of what was found, or this one.
abbrev pub text_found : Option BaseFile → List ℕ → List ℕ
text_found None text = text
text_found (Some base) text = base.text.items

-- The mode of what was found, or this one.
abbrev pub mode_found : Option BaseFile → ℕ → ℕ
mode_found None mode = mode
mode_found (Some base) mode = base.mode
