use Rattle.ips_action.proofs.Judged.{decides_tags}
use Rattle.ips_action.proofs.judging.judge_facets.Goals as goal

pub loop-attr-init : goal.loop-attr-init
loop-attr-init c = rw c.list-left.ensures.value (decides_tags _ c.args.attrs.now c.args.attrs.now)
