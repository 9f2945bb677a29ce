use Rattle.ips_records.proofs.First.{none_ended}
use Rattle.ips_records.proofs.list.next_item.Goals as goal

pub returns-in_default-clause-none : goal.returns-in_default-clause-none
returns-in_default-clause-none g c = λ item others fits may e. none_ended c.args.rest.now (g.L.Listing.line item) others c.in_default.ensures.none e
