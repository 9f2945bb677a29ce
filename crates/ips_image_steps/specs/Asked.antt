-- What is asked of a request, so that its steps can be told.
use Rattle.std.specs.Prelude.{◌≡◌, ◌⊎◌, ℕ, IsFalse, IsTrue, List, Option, Some, None, is_some}
use Rattle.ips_text.specs.Ancestry.{is_below}
use Rattle.ips_outside.specs.Image.{Image, is_dir}
use Rattle.ips_steps.specs.Private.{records_name}
use Rattle.ips_after.specs.Findings.{is_account_path}
use Rattle.ips_after.specs.Planned.{IsProperRequest}
use Rattle.ips_after.specs.Request.{IsRequest, Request, WantDir, is_dir_wanted}
use Rattle.ips_after.specs.Salvage.{salvaged, side_at}
use Rattle.ips_change.specs.Told.{naming}
use Rattle.ips_change.specs.declared.survey.row.Row.{Row}
use Rattle.ips_change.specs.declared.survey.said.Said.{Said}
use Rattle.ips_change.specs.survey.Tables.{IsTable}
use Rattle.ips_laying.specs.Laying.{Laid, LaysFor}
use Rattle.ips_due.specs.Apart.{LeavesSalvage}
use Rattle.ips_due.specs.Due.{is_own}

-- The table is that of some proper request.
pub record HasRequest (rows : List Row) (said : List (Option Said)) : Type 0 where
  pub request : Request
  pub proper : IsProperRequest request
  pub table : IsTable request rows said

-- The table is that of this proper request, whose account files and records lay what is told.
pub record IsAsked (laid : List ℕ → Option Laid) (rows : List Row) (said : List (Option Said)) (r : Request) : Type 0 where
  pub good : IsRequest r
  pub proper : IsProperRequest r
  pub table : IsTable r rows said
  pub lays : LaysFor r.bytes laid r.over
  pub accounts : (q : List ℕ) → r.over.is_account q ≡ is_account_path q

-- The request saves nothing of the image: nothing is salvaged, and nothing is put beside a path.
pub record SavesNothing (r : Request) (t : Image) : Type 0 where
  pub unsalvaged : (q : List ℕ) → IsFalse (salvaged r t q)
  pub unsided : (q : List ℕ) → side_at r t q ≡ None

-- The request wants what was wanted: directories without stated modes alone, as where no package was or is installed; and account files and records speak only of
-- what is below the folder of the records.
pub record WantsTheSame (r : Request) : Type 0 where
  pub was : (q : List ℕ) → r.old.at q ≡ r.new.at q
  pub plain : (q : List ℕ) → IsTrue (is_some (r.new.at q)) → r.new.at q ≡ Some (WantDir None)
  pub inside : (q : List ℕ) → IsTrue (is_some (r.over.at q)) → IsTrue (is_below records_name q)

-- The folder of the records stands and is wanted, no one wants what is the image's own, and account files and records leave alone what is salvaged, or
-- nothing is saved.
pub record HasOwnFolder (r : Request) (t : Image) : Type 0 where
  pub stands : IsTrue (is_dir (t.look records_name))
  pub wanted : IsTrue (is_dir_wanted (r.new.at records_name))
  pub none_old : (q : List ℕ) → IsTrue (is_own q) → r.old.at q ≡ None
  pub none_new : (q : List ℕ) → IsTrue (is_own q) → r.new.at q ≡ None
  pub leaves : LeavesSalvage r.over ⊎ SavesNothing (naming r) t
