use Rattle.ips_text.specs.Quote.{shown}
use Rattle.ips_journal.proofs.PartForms.{by_mode}
use Rattle.ips_journal.proofs.parts.Parts.read_moded.Goals as goal

pub returns-in_default-mode_of-clause-none : goal.returns-in_default-mode_of-clause-none
returns-in_default-mode_of-clause-none c = λ off m p lt h e.
    c.in_default-mode_of.ensures.none m lt (by_mode c.args.fields.now c.in-Some.first.now c.in-Some.second.now c.in-Some.ensures.some m (shown p) e).0

pub returns-clause-none : goal.returns-clause-none
returns-clause-none c = λ off m p lt h e.
    c.read_path.ensures.none off p h (by_mode c.args.fields.now c.in-Some.first.now c.in-Some.second.now c.in-Some.ensures.some m (shown p) e).1
