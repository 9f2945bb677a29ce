use Rattle.ips_conflict.proofs.Found.{lost_is}
use Rattle.ips_conflict.proofs.earliest.is_lost.Goals as goal

pub returns : goal.returns
returns c =
    let l = lost_is c.args.placed.now c.args.action.now _ c.bytes.result.now c.has_sure_file-sure.result c.in_ok-end.ensures c.bytes.ensures.value c.has_sure_file-sure.ensures.0 c.has_sure_file-sure.ensures.1 in
    (λ h. (c.is_hardlink.ensures.0 c.if-not-is_hardlink.false, l.0 h), λ w. l.1 w.1)
