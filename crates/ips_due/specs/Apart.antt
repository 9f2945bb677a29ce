-- What account files and records leave to what is salvaged.
use Rattle.std.specs.Prelude.{◌⊎◌, ℕ, List, IsTrue, IsFalse, codes, is_some}
use Rattle.ips_text.specs.Ancestry.{covers}
use Rattle.ips_after.specs.Findings.{is_account_path}
use Rattle.ips_after.specs.Lists.{listed}
use Rattle.ips_after.specs.Request.{Over}
use Rattle.ips_due.specs.Due.{is_own}

-- The folder of all salvage folders.
abbrev pub lost_path : List ℕ
lost_path = codes "var/pkg/lost+found"

-- They speak of account files, and of what is the image's own outside the folder of all salvage folders; they name these paths and those above.
pub record LeavesSalvage (o : Over) : Type 0 where
  pub at : (q : List ℕ) → IsTrue (is_some (o.at q)) → IsTrue (is_account_path q) ⊎ (IsTrue (is_own q) × IsFalse (covers lost_path q))
  pub only : (p : List ℕ) → IsTrue (listed o.keys p) → (q : List ℕ) × IsTrue (covers p q) × IsTrue (is_some (o.at q))
