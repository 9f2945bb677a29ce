-- Where account files aren't given, there is no plan.
use Rattle.std.proofs.Common.{◌≡◌, ◌⊎◌, ℕ, Bool, List, Err, inl, inr, subst}
use Rattle.ips_account_files.specs.declared.ledger.fault.LedgerFault.{LedgerFault}
use Rattle.ips_account_files.specs.declared.ledger.fault.LedgerFault.TheVariants as ledger
use Rattle.ips_plan.specs.image_plan.Accounts.{Given, IsLedger}
use Rattle.ips_plan.specs.image_plan.Between.{AreMeant}
use Rattle.ips_plan.specs.declared.image_plan.between.Between.{Between}
use Rattle.ips_plan.specs.request_plan.Causes.{IsUngiven}
use Rattle.ips_plan.specs.request_plan.Plans.{ComesBetween, NoFiles}
use Rattle.ips_plan.specs.declared.request_plan.fault.PlanFault.{PlanFault}
use Rattle.ips_plan.specs.declared.request_plan.fault.PlanFault.TheVariants as fault

pub ungiven_comes : (g : Given) (moment : List ℕ) (b : Between) (accept : Bool) (f : LedgerFault) → AreMeant b
    → (f ≡ ledger.FolderFault) ⊎ ((bytes : List ℕ → List ℕ) → IsLedger g b.old.now b.new.now b.was.now b.is.now bytes (Err f))
    → (why : PlanFault) → IsUngiven f why → (why ≡ fault.FolderFault) ⊎ ComesBetween g moment b accept why
ungiven_comes g moment b accept f meant (inl failed) why told = inl (subst (λ (x : LedgerFault). IsUngiven x why) failed told)
ungiven_comes g moment b accept f meant (inr is) why told = inr (NoFiles f meant is told)
