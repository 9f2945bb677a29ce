use Rattle.std.proofs.Common.{◌≡◌, false, rules}
use Rattle.ips_text.specs.Path.{begins_at_root}
use Rattle.ips_action.proofs.Slashes.{bare_already}
use Rattle.ips_action.proofs.holding.bare.Goals as goal

pub returns-then-not-begins_at_root : goal.returns-then-not-begins_at_root
returns-then-not-begins_at_root c = let e : begins_at_root c.args.path ≡ false = search rules in bare_already c.args.path e
