use Rattle.ips_text.specs.Quote.{shown}
use Rattle.ips_journal.proofs.PartForms.{by_path}
use Rattle.ips_journal.proofs.parts.Parts.read_hard.Goals as goal

pub returns-then-not-read_path-clause-none : goal.returns-then-not-read_path-clause-none
returns-then-not-read_path-clause-none c = λ off p to h ht e.
    c.read_path.ensures.none c.if-not-read_path.true p h (by_path c.args.fields.now c.in-Some.first.now c.in-Some.second.now c.in-Some.ensures.some p (shown to) h e).0

pub returns-clause-none : goal.returns-clause-none
returns-clause-none c = λ off p to h ht e.
    c.read_path-2.ensures.none off to ht (by_path c.args.fields.now c.in-Some.first.now c.in-Some.second.now c.in-Some.ensures.some p (shown to) h e).1
