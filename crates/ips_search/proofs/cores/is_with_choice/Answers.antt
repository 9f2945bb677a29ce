use Rattle.std.proofs.Common.{ap, ◌∙◌, ◌∷◌, ◌++◌, []}
use Rattle.ips_search.proofs.Shrinking.{equal_pair}
use Rattle.ips_search.proofs.cores.is_with_choice.Goals as goal

pub returns-then-eq : goal.returns-then-eq
returns-then-eq c = λ t. (c.in-Some.rest.now, c.in-Some.ensures.cases.0 ∙ ap (λ q. c.in-Some.rest.now ++ q ∷ []) (equal_pair c.eq.result c.in-Some.last.now c.args.more c.eq.ensures c.if-eq.true), c.are_chosen.ensures t)
