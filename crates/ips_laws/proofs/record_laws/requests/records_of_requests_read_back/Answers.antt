use Rattle.ips_state.specs.State.{recorded}
use Rattle.ips_entries.specs.Standing.{recounted}
use Rattle.ips_laws.proofs.record_laws.Meant.{after_holds}
use Rattle.ips_laws.proofs.record_laws.Whole.{holds_just}
use Rattle.ips_laws.proofs.record_laws.requests.records_of_requests_read_back.Goals as goal

pub returns : goal.returns
returns c = λ moment old new repository t after h.
    holds_just after (recounted (recorded new)) (after_holds c.due_files_fit.ensures c.due_files_are_proper.ensures.paths c.manifests_read_back.ensures.again c.manifests_read_back.ensures.stand moment old new repository t after h.meant h.formed h.held h.lawful h.within h.index)
