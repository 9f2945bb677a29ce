-- What is around a request whose account files are asked for.
use Rattle.std.specs.Prelude.{ℕ, Bool, ◌||◌, IsTrue, List, Option}
use Rattle.std.specs.List.{list_any}
use Rattle.std.specs.Prelude.{codes}
use Rattle.ips_outside.specs.Image.{Image}
use Rattle.ips_outside.specs.Outside.{Outside}
use Rattle.ips_action.specs.Action.{Fields}
use Rattle.ips_turnover.specs.Turnover.{is_a}
use Rattle.ips_after.specs.Request.{IsRequest, Request}
use Rattle.ips_change.specs.declared.survey.row.Row.{Row}
use Rattle.ips_change.specs.declared.survey.said.Said.{Said}
use Rattle.ips_change.specs.survey.Tables.{IsTable}
use Rattle.ips_emptied.specs.declared.settled.Settled.{Settled}
use Rattle.ips_emptied.specs.Joining.{SettlesRows}
use Rattle.ips_account_files.specs.ledger.Left.{AreReplaced, IsSilent, emptied_by}

-- The action is a user or a group.
abbrev pub is_account : Fields → Bool
is_account a = is_a (codes "user") a || is_a (codes "group") a

-- A user or a group is among the old actions or the new ones.
abbrev pub has_accounts : List Fields → List Fields → Bool
has_accounts old new = list_any is_account old || list_any is_account new

-- The image over which a request is, with the directories that are emptied, and the repository of the publisher; whether the folder tells the one, and the
-- source the other.
pub record Around : Type 0 where
  pub told : Bool
  pub image : Image
  pub emptied : List ℕ → Bool
  pub tells : Bool
  pub publisher : List ℕ
  pub repository : Image

-- The same of a folder and a source, with the directories that these rows empty.
abbrev pub around : {F S : Type 0} → Outside F → Outside S → F → S → List ℕ → List Row → Settled → Around
around o p folder source publisher rows s = record {
  told = o.tells folder;
  image = (o.state folder).held;
  emptied = emptied_by rows s;
  tells = p.tells source;
  publisher = publisher;
  repository = (p.state source).held;
}

-- The request is that of these rows, nothing is said in it of any path, and what becomes of each row is settled so, where the folder tells what it holds.
pub record IsSilentOver (a : Around) (rows : List Row) (s : Settled) (r : Request) : Type 0 where
  pub said : List (Option Said)
  pub good : IsRequest r
  pub table : IsTable r rows said
  pub silent : IsSilent r
  pub settles : IsTrue a.told → SettlesRows r a.image rows s

-- The marks are those of the rows at which what stands goes or is replaced, in each such request.
abbrev pub AreMarks : List Row → Settled → List Bool → Type 0
AreMarks rows s marks = (r : Request) (t : Image) (said : List (Option Said)) → IsRequest r → IsTable r rows said → IsSilent r → SettlesRows r t rows s → AreReplaced r t rows s marks
