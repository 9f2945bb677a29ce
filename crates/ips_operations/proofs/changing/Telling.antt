-- A change that is decided on tells its steps.
use Rattle.std.proofs.Common.{◌≡◌, Option, Some, None, Ok, refl, subst}
use Rattle.std.specs.Prelude.{IfOk}
use Rattle.ips_text.specs.declared.refusal.Or.TheVariants.{Bad}
use Rattle.ips_digest.specs.declared.name.PayloadName.{PayloadName}
use Rattle.ips_repo.specs.declared.fault.RepoFault.{RepoFault}
use Rattle.ips_repo.specs.declared.fault.RepoFault.TheVariants as repo
use Rattle.ips_load.specs.declared.fault.StateFault.{StateFault}
use Rattle.ips_load.specs.declared.fault.StateFault.TheVariants as state
use Rattle.ips_next.specs.declared.fault.NextFault.{NextFault}
use Rattle.ips_next.specs.declared.fault.NextFault.TheVariants as next
use Rattle.ips_plan.specs.declared.request_plan.fault.PlanFault.{PlanFault}
use Rattle.ips_plan.specs.declared.request_plan.fault.PlanFault.TheVariants as plan
use Rattle.ips_report.specs.declared.outcome.Outcome.{Outcome}
use Rattle.ips_tell.specs.refusals.Told.{Answer, unread_told}
use Rattle.ips_run.specs.declared.operation.Decision.{Decision}
use Rattle.ips_tell.specs.told.Laying.{TellsItsSteps}
use Rattle.ips_operations.specs.changing.Refusals.{unled_told, unplanned_told}
use Rattle.ips_operations.specs.changing.Decides.{Asked, Decides, Unread, Unled, Unplanned, Changed}

-- What is decided is no change.
abbrev Refuses : Answer → Type 0
Refuses r = IfOk r TellsItsSteps

decided : (r : Answer) (d : Decision Outcome) → Refuses r → r ≡ Ok d → TellsItsSteps d
decided r d refuses is = subst Refuses is refuses

unread : (why : StateFault) → Refuses (unread_told (Bad why))
unread state.FolderFault = tt
unread other = tt

unled : (why : NextFault) → Refuses (unled_told (Bad why))
unled next.NothingToDo = tt
unled other = tt

-- the same of what is told where something is
abbrev AreRefused : Option Answer → Type 0
AreRefused None = Unit {0}
AreRefused (Some r) = Refuses r

decided_where : (o : Option Answer) (d : Decision Outcome) → AreRefused o → o ≡ Some (Ok d) → TellsItsSteps d
decided_where o d refuses is = subst AreRefused is refuses

payload : (name : PayloadName) (fault : RepoFault) → AreRefused (unplanned_told (Bad (plan.Payload name fault)))
payload name repo.PayloadMissing = tt
payload name other = tt

unplanned : (why : PlanFault) → AreRefused (unplanned_told (Bad why))
unplanned (plan.Payload name fault) = payload name fault
unplanned other = tt

pub change_tells : (a : Asked) (d : Decision Outcome) → Decides a d → TellsItsSteps d
change_tells a d (Unread why is told) = decided (unread_told (Bad why)) d (unread why) told
change_tells a d (Unled why is told) = decided (unled_told (Bad why)) d (unled why) told
change_tells a d (Unplanned why is told) = decided_where (unplanned_told (Bad why)) d (unplanned why) told
change_tells a d (Changed led p planned) = (p.counts, p.planned.licenses, refl)
