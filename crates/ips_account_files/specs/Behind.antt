-- The account files behind a request.
use Rattle.std.specs.Prelude.{◌≡◌, ◌≢◌, Bool, true, false, List, [], map, Result, Ok, Err}
use Rattle.ips_action.specs.Action.{Fields}
use Rattle.ips_books.specs.declared.fault.AccountFault.{AccountFault}
use Rattle.ips_books.specs.Reading.{Texts}
use Rattle.ips_books.specs.Seen.{texts}
use Rattle.ips_after.specs.Request.{Request}
use Rattle.ips_due.specs.Due.{DueFile}
use Rattle.ips_due.specs.outstanding.Parts.{due_file}
use Rattle.ips_account_files.specs.declared.ledger.blocked.Blocked.{Blocked}
use Rattle.ips_account_files.specs.declared.ledger.fault.LedgerFault.{LedgerFault}
use Rattle.ips_account_files.specs.declared.ledger.fault.LedgerFault.TheVariants as fault
use Rattle.ips_account_files.specs.declared.ledger.outdated.Modes.{Modes}
use Rattle.ips_account_files.specs.ledger.Editing.{due_books, edited_where}
use Rattle.ips_account_files.specs.declared.files.AccountFiles.{AccountFiles}
use Rattle.ips_account_files.specs.Around.{Around, has_accounts}
use Rattle.ips_account_files.specs.Bases.{AreBases, IsFirstUnread, no_texts}

-- The texts of the account files behind a request, and those files that are due.
pub record Files : Type 0 where
  pub books : Texts
  pub due : List DueFile

-- No text, and nothing is due.
abbrev pub no_files : Files
no_files = record { books = no_texts; due = [] }

-- They are what an edit from the old users and groups to the new ones makes of the files that the request leaves; due are those whose text this changes, each
-- with the mode that is left there.
pub record AreEdited (a : Around) (r : Request) (old new : List Fields) (files : Files) : Type 0 where
  pub blocked : Blocked
  pub base : Texts
  pub modes : Modes
  pub bases : AreBases a r blocked base modes
  pub edit : edited_where blocked base old new ≡ Ok files.books
  pub due : files.due ≡ due_books modes base files.books

-- The files that the request leaves can't be edited, for this fault.
pub record IsUnedited (a : Around) (r : Request) (old new : List Fields) (why : AccountFault) : Type 0 where
  pub blocked : Blocked
  pub base : Texts
  pub modes : Modes
  pub bases : AreBases a r blocked base modes
  pub edit : edited_where blocked base old new ≡ Err why

-- Why the account files aren't given: the folder failed, the first text that isn't read isn't for this, or the files can't be edited.
abbrev pub IsRefused : Around → Request → List Fields → List Fields → LedgerFault → Type 0
IsRefused a r old new fault.FolderFault = Unit {0}
IsRefused a r old new (fault.Account why) = IsUnedited a r old new why
IsRefused a r old new (fault.Payload name why) = IsFirstUnread a r (fault.Payload name why)
IsRefused a r old new (fault.TooLarge count) = IsFirstUnread a r (fault.TooLarge count)
IsRefused a r old new fault.SourceFault = IsFirstUnread a r fault.SourceFault

-- What is answered where users or groups are admitted, and where none is: then nothing is read, and nothing is due.
abbrev pub BehindWhere : Bool → Around → Request → List Fields → List Fields → Result Files LedgerFault → Type 0
BehindWhere true a r old new (Ok files) = AreEdited a r old new files
BehindWhere true a r old new (Err why) = IsRefused a r old new why
BehindWhere false a r old new (Ok files) = files ≡ no_files
BehindWhere false a r old new (Err why) = ⊥

-- What is answered of the account files behind a request, from the old admitted actions to the new ones.
abbrev pub Behind : Around → Request → List Fields → List Fields → Result Files LedgerFault → Type 0
Behind a r old new answer = BehindWhere (has_accounts old new) a r old new answer

-- The same, as the program holds it.
abbrev pub files_seen : AccountFiles → Files
files_seen files = record { books = texts files.books; due = map due_file files.due.items }

-- The edit is refused for this fault.
abbrev pub IsEditRefused : Blocked → Texts → List Fields → List Fields → LedgerFault → Type 0
IsEditRefused blocked base old new (fault.Account why) = edited_where blocked base old new ≡ Err why
IsEditRefused blocked base old new (fault.Payload name why) = ⊥
IsEditRefused blocked base old new (fault.TooLarge count) = ⊥
IsEditRefused blocked base old new fault.SourceFault = ⊥
IsEditRefused blocked base old new fault.FolderFault = ⊥

-- No call has failed.
abbrev pub IsTold : Result Files LedgerFault → Type 0
IsTold answer = (answer ≢ Err fault.FolderFault) × (answer ≢ Err fault.SourceFault)
