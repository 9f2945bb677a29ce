use Rattle.std.proofs.Common.{sym, ◌∙◌, arith}
use Rattle.std.specs.Fmt.{decimal}
use Rattle.std.proofs.lemmas.Bool.{eqb-false}
use Rattle.std.proofs.lemmas.Fmt.{decimal_injective}
use Rattle.ips_journal.proofs.StepLines.{end_same}
use Rattle.ips_journal.proofs.reading.tells_end.Goals as goal

pub returns-in-Some-decimal-clause-none : goal.returns-in-Some-decimal-clause-none
returns-in-Some-decimal-clause-none c = λ off e.
    eqb-false c.in-Some-decimal.count c.args.steps off
    (decimal_injective c.in-Some-decimal.count c.args.steps (omega arith) (omega arith) (sym c.in-Some-decimal.ensures.found ∙ end_same c.in-Some.digits.now (decimal c.args.steps) c.args.line.now c.in-Some.ensures.some e))
