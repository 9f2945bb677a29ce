use Rattle.std.proofs.Common.{arith}
use Rattle.ips_journal.specs.Holding.{step_by}
use Rattle.ips_journal.proofs.StepLines.{line_by}
use Rattle.ips_journal.proofs.Journals.{told_allowed, told_next}
use Rattle.ips_journal.proofs.reading.read_step.Goals as goal

pub returns-then-not-are_allowed-clause-none : goal.returns-then-not-are_allowed-clause-none
returns-then-not-are_allowed-clause-none c = λ s is.
    let found = c.read.ensures.found c.if-not-read.false in
    told_allowed s (step_by c.in_ok-sort.sort c.read.new.self) c.args.puts c.args.line.now c.are_allowed.result (omega arith) found.0 (c.read.ensures.small c.if-not-read.false)
    (line_by c.in_ok-sort.sort c.read.new.self c.in_ok-sort.fields.now c.args.line.now c.in_ok-sort.ensures.found found.1) c.are_allowed.ensures c.if-not-are_allowed.true is

pub returns-then-not-are_next-clause-none : goal.returns-then-not-are_next-clause-none
returns-then-not-are_next-clause-none c = λ s is.
    let found = c.read.ensures.found c.if-not-read.false in
    told_next s (step_by c.in_ok-sort.sort c.read.new.self) c.args.puts c.args.line.now c.are_next.result (omega arith) found.0 (c.read.ensures.small c.if-not-read.false)
    (line_by c.in_ok-sort.sort c.read.new.self c.in_ok-sort.fields.now c.args.line.now c.in_ok-sort.ensures.found found.1) c.are_next.ensures c.if-not-are_next.true is
