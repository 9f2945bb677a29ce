use Rattle.std.proofs.Common.{◌∙◌}
use Rattle.ips_action.proofs.Slashes.{no_slash_before}
use Rattle.ips_action.proofs.holding.without_slashes.Goals as goal

pub returns : goal.returns
returns c = no_slash_before c.loop-more.rest.now c.in_default.ensures ∙ c.loop-more.invariant.1
