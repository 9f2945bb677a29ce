use Rattle.ips_outside.specs.Tree.{tree_image}
use Rattle.ips_folder.specs.declared.call.Call.TheVariants as call
use Rattle.ips_folder.proofs.Replays.{left_after, settled_after, could_after, sync_left}
use Rattle.ips_folder.proofs.log.CallLog.settle.Goals as goal

pub invariant_of-self : goal.invariant_of-self
invariant_of-self c =
    let f = c.args.self.now in
    let e = c.push.ensures in
    let first = tree_image f.first in
    record {
      left = sync_left c.push.result first (tree_image f.tree) f.calls.items c.push.new.calls.items f.left e.recorded e.not_recorded;
      safe = settled_after c.push.result first f.calls.items c.push.new.calls.items f.synced c.push.new.synced f.safe e.recorded e.counted e.not_recorded e.not_counted;
      could = could_after c.push.result first (tree_image f.tree) f.calls.items c.push.new.calls.items call.Sync f.left f.could tt e.recorded e.not_recorded;
    }
