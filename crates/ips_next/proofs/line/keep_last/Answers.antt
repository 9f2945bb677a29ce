use Rattle.std.proofs.Common.{◌∙◌, take, ap, rules}
use Rattle.ips_next.proofs.Fronts.{last_kept}
use Rattle.ips_next.proofs.line.keep_last.Goals as goal

pub returns : goal.returns
returns c =
    c.truncate.ensures.items ∙ ap (take 1000) c.rotate_left.ensures.items
    ∙ last_kept c.args.history.now.items 1000 c.saturating_sub-excess.result (search rules)
