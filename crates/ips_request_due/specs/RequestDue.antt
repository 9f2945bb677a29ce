-- What a request makes due, from the states before and behind it.
use Rattle.std.specs.Prelude.{◌≡◌, ℕ, ◌<◌, Bool, List, Some, IsTrue, is_some}
use Rattle.ips_outside.specs.Image.{File, Image}
use Rattle.ips_books.specs.Accounts.{Accounts}
use Rattle.ips_state.specs.declared.state.State.{State}
use Rattle.ips_state.specs.State.{recorded}
use Rattle.ips_after.specs.Findings.{is_account_path}
use Rattle.ips_after.specs.Request.{Over}
use Rattle.ips_due.specs.Apart.{LeavesSalvage}
use Rattle.ips_due.specs.Due.{Due, DueFile, IsOverOf, MeansSame, account_at}
use Rattle.ips_due.specs.Delivered.{Delivered, request_due}
use Rattle.ips_delivered.specs.delivered.Delivering.{PackagesDeliver}
use Rattle.ips_delivered.specs.withdrawn.Withdrawn.{IsDeliveredBy}

-- The files are due at the paths of account files, and their modes are permission bits.
pub record AreAccountFiles (files : List DueFile) : Type 0 where
  pub paths : (q : List ℕ) → IsTrue (is_some (account_at files q)) → IsTrue (is_account_path q)
  pub modes : (q : List ℕ) (m : ℕ) (b : List ℕ) → account_at files q ≡ Some (File m b) → m < 4096

-- This means what a request from the old state to the new one makes due, with these account files, where owners have the numbers of these accounts.
pub record IsRequestDue (files : List DueFile) (books : Accounts) (old new : State) (due : Due) : Type 0 where
  pub was : Delivered
  pub is : Delivered
  pub was_delivered : IsDeliveredBy old was
  pub is_delivered : PackagesDeliver books new.settings new.installed.items is
  pub means : MeansSame due (request_due files (recorded old) (recorded new) was is)

-- Whatever account files and records say of an image where this is due, they leave alone what is salvaged.
abbrev pub LeavesAlone : Due → Type 0
LeavesAlone due = (bytes : List ℕ → List ℕ) (holds : List ℕ → List ℕ → Bool) (t : Image) (o : Over) → IsOverOf bytes holds due t o → LeavesSalvage o
