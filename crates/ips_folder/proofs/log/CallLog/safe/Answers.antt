use Rattle.std.proofs.Common.{sym, ap, subst, ◌∙◌, List}
use Rattle.ips_outside.specs.Image.{Image}
use Rattle.ips_folder.specs.declared.call.Call.{Call}
use Rattle.ips_folder.specs.History.{begun, replay, CanAll}
use Rattle.ips_folder.proofs.log.CallLog.safe.Goals as goal

pub repeat-requires : goal.repeat-requires
repeat-requires c = subst (CanAll c.until_sync.result.now) (sym c.in_ok-tree.ensures) c.until_sync.ensures.could

pub returns : goal.returns
returns c = c.in_ok-repeat.ensures ∙ ap (λ (t : Image). (replay c.until_sync.result.now (begun t)).state.held) c.in_ok-tree.ensures ∙ c.until_sync.ensures.safe
