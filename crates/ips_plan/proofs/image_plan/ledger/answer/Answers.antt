use Rattle.std.proofs.Common.{refl}
use Rattle.std.specs.List.Sorted.{IsStrictlySortedBy}
use Rattle.ips_plan.proofs.image_plan.Silent.{silent_good, silent_spoken}
use Rattle.ips_plan.proofs.image_plan.ledger.answer.Goals as goal

pub merge-requires-clause-spoken : goal.merge-requires-clause-spoken
unfolding IsStrictlySortedBy
merge-requires-clause-spoken g c = tt

pub settle_and_answer-requires-clause-good : goal.settle_and_answer-requires-clause-good
settle_and_answer-requires-clause-good g c = λ bytes. silent_good c.args.between c.requires.meant bytes

pub settle_and_answer-requires-clause-silent : goal.settle_and_answer-requires-clause-silent
settle_and_answer-requires-clause-silent g c = λ bytes. c.in-Ok.ensures.table _ (c.surveyed_rows_are_of_the_request.ensures _ _ _ _ refl refl c.requires.rows) silent_spoken

pub settle_and_answer-requires-clause-looked : goal.settle_and_answer-requires-clause-looked
settle_and_answer-requires-clause-looked g c = λ told. c.in-Ok.ensures.looked ((g.F.Source.outside.state c.args.folder.now).held) (c.requires.looked told)
