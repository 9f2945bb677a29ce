use Rattle.std.proofs.Common.{◌++◌, ℕ, List, length, ◌∙◌, ap, arith}
use Rattle.ips_text.specs.Quote.{quoted}
use Rattle.ips_journal.proofs.Escapes.{escaped_quoted}
use Rattle.ips_journal.proofs.StepLines.{target_short}
use Rattle.ips_journal.proofs.writing.put_target.Goals as goal

pub put_escaped-requires : goal.put_escaped-requires
put_escaped-requires c = let few = target_short c.args.target.now.bytes c.bytes.ensures.target in omega (arith, few, ap length c.bytes.ensures.value)

pub returns-clause-written : goal.returns-clause-written
returns-clause-written c = c.put_escaped.ensures.written ∙ ap (λ (l : List ℕ). c.args.text.now.items ++ l) (escaped_quoted c.bytes.result.now ∙ ap quoted c.bytes.ensures.value)

pub returns-clause-long : goal.returns-clause-long
returns-clause-long c = let few = target_short c.args.target.now.bytes c.bytes.ensures.target in omega (arith, few, ap length c.bytes.ensures.value, c.put_escaped.ensures.long)
