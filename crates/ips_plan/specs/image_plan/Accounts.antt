-- The account files behind a request from one state of an image to another.
use Rattle.std.specs.Prelude.{◌≡◌, ℕ, Bool, true, false, IsTrue, List, [], None, Ok, Result, filter, map}
use Rattle.ips_outside.specs.Image.{Image}
use Rattle.ips_action.specs.Action.{Fields}
use Rattle.ips_conflict.specs.declared.placed.Placed.{Placed}
use Rattle.ips_meaning.specs.declared.entry.Entry.{Entry}
use Rattle.ips_meaning.specs.Taken.{AreAdmitted}
use Rattle.ips_state.specs.declared.state.State.{State}
use Rattle.ips_after.specs.After.{IsEmptied}
use Rattle.ips_after.specs.Findings.{is_account_path}
use Rattle.ips_after.specs.Request.{Over, Request}
use Rattle.ips_change.specs.wanted.Named.{is_payload_of}
use Rattle.ips_due.specs.Asked.{request_between}
use Rattle.ips_account_files.specs.declared.ledger.fault.LedgerFault.{LedgerFault}
use Rattle.ips_account_files.specs.Around.{Around, has_accounts, is_account}
use Rattle.ips_account_files.specs.Behind.{Behind, Files, no_files}

-- What is given to a plan: the image, and the repository of the packages' publisher, and whether folder and source tell what they hold.
pub record Given : Type 0 where
  pub told : Bool
  pub image : Image
  pub tells : Bool
  pub publisher : List ℕ
  pub repository : Image

-- Account files and records say nothing of any path.
abbrev pub nothing_said : Over
nothing_said = record { at = λ q. None; is_account = is_account_path; keys = [] }

-- The request from what was wanted to what is, with the bytes of each payload, where nothing is said of any path.
abbrev pub silent_request : List (List ℕ × Entry) → List (List ℕ × Entry) → (List ℕ → List ℕ) → Request
silent_request was is bytes = request_between was is bytes is_payload_of nothing_said

-- What is around that request, with these directories emptied.
abbrev pub around_given : Given → (List ℕ → Bool) → Around
around_given g emptied = record { told = g.told; image = g.image; emptied = emptied; tells = g.tells; publisher = g.publisher; repository = g.repository }

-- The actions are the users and groups that the packages of the state deliver.
pub record AreAccounts (s : State) (actions : List Fields) : Type 0 where
  pub admitted : List Placed
  pub are_admitted : AreAdmitted s.settings s.installed.items admitted
  pub are : actions ≡ filter is_account (map (λ (p : Placed). p.action) admitted)

-- This is answered over the directories that the request empties, from these users and groups to those.
pub record IsAnswered (g : Given) (was is : List (List ℕ × Entry)) (bytes : List ℕ → List ℕ) (before after : List Fields) (answer : Result Files LedgerFault) : Type 0 where
  pub emptied : List ℕ → Bool
  pub is_emptied : IsTrue g.told → IsEmptied (silent_request was is bytes) g.image emptied
  pub behind : Behind (around_given g emptied) (silent_request was is bytes) before after answer

-- The same where there is a user or a group, and where there is none: then nothing is due.
abbrev pub AnsweredWhere : Bool → Given → List (List ℕ × Entry) → List (List ℕ × Entry) → (List ℕ → List ℕ) → List Fields → List Fields → Result Files LedgerFault → Type 0
AnsweredWhere true g was is bytes before after answer = IsAnswered g was is bytes before after answer
AnsweredWhere false g was is bytes before after answer = answer ≡ Ok no_files

-- This is answered of the account files behind a request from the old state to the new one, which mean these entries, with the bytes of each payload.
pub record IsLedger (g : Given) (old new : State) (was is : List (List ℕ × Entry)) (bytes : List ℕ → List ℕ) (answer : Result Files LedgerFault) : Type 0 where
  pub before : List Fields
  pub were_accounts : AreAccounts old before
  pub after : List Fields
  pub are_accounts : AreAccounts new after
  pub answered : AnsweredWhere (has_accounts before after) g was is bytes before after answer
