use Rattle.std.proofs.Common.{◌++◌, ℕ, List, length, ◌∙◌, ap, arith}
use Rattle.ips_text.specs.Quote.{shown}
use Rattle.ips_journal.proofs.Escapes.{escaped_shown}
use Rattle.ips_journal.proofs.writing.put_path.Goals as goal
use Rattle.ips_outside.proofs.Rooms.{path_fits}

pub put_escaped-requires : goal.put_escaped-requires
put_escaped-requires c = let few = path_fits c.args.path.now.bytes c.bytes.ensures.path in omega (arith, few, ap length c.bytes.ensures.value)

pub returns-clause-written : goal.returns-clause-written
returns-clause-written c = c.put_escaped.ensures.written ∙ ap (λ (l : List ℕ). c.args.text.now.items ++ l) (escaped_shown c.bytes.result.now ∙ ap shown c.bytes.ensures.value)

pub returns-clause-long : goal.returns-clause-long
returns-clause-long c = let few = path_fits c.args.path.now.bytes c.bytes.ensures.path in omega (arith, few, ap length c.bytes.ensures.value, c.put_escaped.ensures.long)
