use Rattle.ips_state.specs.State.{recorded}
use Rattle.ips_laws.proofs.record_laws.Made.{made_holds}
use Rattle.ips_laws.proofs.record_laws.Whole.{holds_just}
use Rattle.ips_laws.proofs.record_laws.creations.records_of_creations_read_back.Goals as goal

pub returns : goal.returns
returns c = λ new t after h. holds_just after (recorded new) (made_holds c.manifests_read_back.ensures.again new t after h.is h.blank h.lawful h.within)
