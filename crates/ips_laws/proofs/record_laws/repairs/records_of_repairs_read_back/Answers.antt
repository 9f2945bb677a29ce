use Rattle.ips_state.specs.State.{recorded}
use Rattle.ips_laws.proofs.record_laws.Repaired.{repaired_holds}
use Rattle.ips_laws.proofs.record_laws.Whole.{holds_just}
use Rattle.ips_laws.proofs.record_laws.repairs.records_of_repairs_read_back.Goals as goal

pub returns : goal.returns
returns c = λ moment old new repository t after h.
    holds_just after (recorded new) (repaired_holds c.repairs_are_lawful.ensures.repair c.repairs_are_lawful.ensures.own_new c.repairs_are_lawful.ensures.own_old c.repairs_hang_together.ensures.salvage moment old new repository t after h.image h.formed h.held h.lawful h.noted h.within)
