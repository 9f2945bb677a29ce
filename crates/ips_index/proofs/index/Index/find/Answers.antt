use Rattle.ips_index.proofs.Facts.{are_named}
use Rattle.ips_index.proofs.index.Index.find.Goals as goal

pub find-requires : goal.find-requires
find-requires c = are_named c.self.inside.rows.keys c.self.invariant.lawful
