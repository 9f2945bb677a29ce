use Rattle.ips_rule.specs.Rules.{operation_words}
use Rattle.ips_rules.proofs.Left.{no_operation}
use Rattle.ips_rules.proofs.reading.operation.Goals as goal

pub returns-in-Some-clause-none : goal.returns-in-Some-clause-none
returns-in-Some-clause-none c = no_operation c.read_operation.result c.in-Some.words.items c.deref.result.now c.args.text.now (rw c.in-Some.is at c.in_ok-words.ensures.some) c.deref.ensures.value c.read_operation.ensures.none

pub returns-in-None-clause-none : goal.returns-in-None-clause-none
returns-in-None-clause-none c = λ o is h.
    let none = rw c.in-None.is at c.in_ok-words.ensures.none in
    none (operation_words o) h
