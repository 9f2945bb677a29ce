use Rattle.ips_rules.proofs.Equals.{key_iff}
use Rattle.ips_rules.proofs.keys.is_key.Goals as goal

pub returns : goal.returns
returns c = key_iff c.args.word.now c.has_key_bytes.result c.has_key_bytes.ensures
