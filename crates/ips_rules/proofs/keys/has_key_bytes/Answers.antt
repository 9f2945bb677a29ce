use Rattle.std.proofs.Common.{sym, ◌∙◌}
use Rattle.ips_line.proofs.Runs.{key_test}
use Rattle.ips_rules.proofs.keys.has_key_bytes.Goals as goal

pub returns-then-not-is_empty : goal.returns-then-not-is_empty
returns-then-not-is_empty c = c.is_empty-then-not-is_empty.ensures ∙ key_test c.args.word.now c.run.result.0.now c.run.result.1.now c.run.ensures (sym c.is_empty.ensures ∙ c.if-not-is_empty.true)
