use Rattle.std.proofs.Common.{arith}
use Rattle.std.proofs.lemmas.Str.Pattern.{strip_prefix_char}
use Rattle.ips_rules.proofs.keys.behind_equals.Goals as goal

pub returns : goal.returns
returns c = strip_prefix_char 61 c.args.text.now c.strip_prefix.result c.strip_prefix.ensures.cases (omega arith)
