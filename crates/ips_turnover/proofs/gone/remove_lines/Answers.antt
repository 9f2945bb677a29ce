use Rattle.std.proofs.Common.{rules}
use Rattle.std.proofs.lemmas.Fn.{filter_same}
use Rattle.ips_turnover.specs.Seen.{has_gone}
use Rattle.ips_turnover.specs.Turnover.{stays}
use Rattle.ips_turnover.proofs.gone.remove_lines.Goals as goal

pub returns : goal.returns
returns c = filter_same _ (stays (has_gone c.args.gone.now)) _ (λ x b f k. search rules) _ _ c.retain.ensures.filtered
