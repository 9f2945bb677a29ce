use Rattle.ips_search.proofs.Keeping.{kept_from}
use Rattle.ips_search.proofs.pruning.prune.Goals as goal

pub returns-then-ends_empty : goal.returns-then-ends_empty
returns-then-ends_empty c = kept_from c.in_ok-kept.field-0 c.deref-2.result.now c.args.nogoods.items c.in-Some.kept c.deref-4.result.now c.ends_empty.result c.in-Some.is c.in_ok-kept.ensures c.deref-2.ensures.value c.deref-4.ensures.value c.ends_empty.ensures c.if-ends_empty.true
