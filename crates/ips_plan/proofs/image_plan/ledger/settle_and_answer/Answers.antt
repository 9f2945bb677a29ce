use Rattle.std.proofs.Common.{subst}
use Rattle.std.specs.Prelude.{IsTrue}
use Rattle.ips_plan.proofs.image_plan.ledger.settle_and_answer.Goals as goal

pub edit-requires-clause-settled : goal.edit-requires-clause-settled
edit-requires-clause-settled g c = λ told bytes. rw c.in-Ok.ensures.reads.kept (c.in-Ok.ensures.found (subst IsTrue c.in-Ok.ensures.reads.call.same_kind told) _ (c.requires.good bytes) (c.requires.silent bytes))
