use Rattle.std.proofs.Common.{sym, ap, subst, ◌∙◌, List}
use Rattle.ips_outside.specs.Image.{Image}
use Rattle.ips_folder.specs.History.{Moment, begun, replay, CanAll}
use Rattle.ips_folder.proofs.log.CallLog.zeroed.Goals as goal

pub repeat_zeroing-requires-clause-can : goal.repeat_zeroing-requires-clause-can
repeat_zeroing-requires-clause-can c = subst (CanAll c.since_sync.result.now) (sym c.in_ok-tree.ensures) c.since_sync.ensures.could

pub returns : goal.returns
returns c = c.in_ok-repeat_zeroing.ensures ∙ ap (λ (t : Image). (replay c.since_sync.result.now (begun t)).zeroed) c.in_ok-tree.ensures ∙ ap (λ (m : Moment). m.zeroed) c.since_sync.ensures.now
