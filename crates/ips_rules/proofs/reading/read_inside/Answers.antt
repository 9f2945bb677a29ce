use Rattle.ips_rules.proofs.One.{inside_asks}
use Rattle.ips_rules.proofs.Left.{no_done}
use Rattle.ips_rules.proofs.reading.read_inside.Goals as goal

pub returns-in_default-clause-none : goal.returns-in_default-clause-none
returns-in_default-clause-none c = λ rule is h.
    let none = rw c.in_default.is at c.in_ok-selectors.ensures.none in
    none rule.selectors h.1 (inside_asks rule c.args.text.now is.selectors h)

pub returns-in-None-clause-none : goal.returns-in-None-clause-none
returns-in-None-clause-none c =
    no_done c.in-Some.selectors.items c.args.text.now c.in-Some.rest.now (rw c.in-Some.is at c.in_ok-selectors.ensures.some) (rw c.in-None.is at c.in_ok-operation.ensures.none)
