use Rattle.std.proofs.Common.{sym, subst}
use Rattle.ips_text.specs.Path.{IsPath}
use Rattle.ips_outside.proofs.Rooms.{path_fits}
use Rattle.ips_outside.proofs.tree.Tree.children.Goals as goal

pub children-requires-clause-fits : goal.children-requires-clause-fits
children-requires-clause-fits c = path_fits c.bytes.result.now (subst IsPath (sym c.bytes.ensures.value) c.bytes.ensures.path)
