use Rattle.std.proofs.Common.{◌∷◌, ◌++◌}
use Rattle.ips_text.specs.Quote.{shown}
use Rattle.ips_journal.specs.Text.{mode_text}
use Rattle.ips_journal.proofs.PartForms.{by_number}
use Rattle.ips_journal.proofs.parts.Parts.read_put.Goals as goal

pub returns-in_default-decimal-clause-none : goal.returns-in_default-decimal-clause-none
returns-in_default-decimal-clause-none c = λ off n m p ln lm h e.
    c.in_default-decimal.ensures.none n ln (by_number c.args.fields.now c.in-Some.first.now c.in-Some.second.now c.in-Some.ensures.some n (mode_text m ++ 32 ∷ shown p) ln e).0

pub returns-clause-none : goal.returns-clause-none
returns-clause-none c = λ off n m p ln lm h e.
    c.read_moded.ensures.none off m p lm h (by_number c.args.fields.now c.in-Some.first.now c.in-Some.second.now c.in-Some.ensures.some n (mode_text m ++ 32 ∷ shown p) ln e).1
