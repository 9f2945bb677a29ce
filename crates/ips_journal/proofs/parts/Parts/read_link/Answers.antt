use Rattle.ips_text.specs.Quote.{quoted}
use Rattle.ips_journal.proofs.PartForms.{by_path}
use Rattle.ips_journal.proofs.parts.Parts.read_link.Goals as goal

pub returns-then-not-read_path-clause-none : goal.returns-then-not-read_path-clause-none
returns-then-not-read_path-clause-none c = λ off p t h ht hb e.
    c.read_path.ensures.none c.if-not-read_path.true p h (by_path c.args.fields.now c.in-Some.first.now c.in-Some.second.now c.in-Some.ensures.some p (quoted t) h e).0

pub returns-clause-none : goal.returns-clause-none
returns-clause-none c = λ off p t h ht hb e.
    c.read_target.ensures.none off t ht hb (by_path c.args.fields.now c.in-Some.first.now c.in-Some.second.now c.in-Some.ensures.some p (quoted t) h e).1
