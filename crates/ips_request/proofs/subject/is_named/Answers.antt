use Rattle.std.proofs.Common.{◌∙◌, sym}
use Rattle.ips_request.proofs.Lookups.{named_at}
use Rattle.ips_request.proofs.subject.is_named.Goals as goal

pub returns-then-names : goal.returns-then-names
returns-then-names c = named_at c.args.stem.now c.args.named.now c.loop-naming.naming-index c.naming-item.result c.loop-naming-test.true c.naming-item.is (sym c.names.ensures ∙ c.if-names.true)
