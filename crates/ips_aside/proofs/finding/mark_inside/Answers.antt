use Rattle.std.proofs.Common.{◌∙◌}
use Rattle.ips_aside.proofs.FirstFree.{marked_more}
use Rattle.ips_aside.proofs.finding.mark_inside.Goals as goal

pub returns : goal.returns
returns c = λ names marked. marked_more c.args.taken.now c.mark.new.keys names _ c.deref.result.now (c.deref.ensures.value ∙ c.in_ok-name.ensures) c.in_ok-mark.ensures marked
