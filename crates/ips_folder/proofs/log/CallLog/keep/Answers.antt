use Rattle.ips_outside.specs.Tree.{tree_image}
use Rattle.ips_folder.proofs.Replays.{left_after, synced_after, could_after}
use Rattle.ips_folder.proofs.log.CallLog.keep.Goals as goal

pub invariant_of-self : goal.invariant_of-self
invariant_of-self c =
    let f = c.args.self.now in
    let e = c.extend.ensures in
    let first = tree_image f.first in
    record {
      left = left_after c.extend.result first (tree_image f.tree) (tree_image c.extend.new.tree) f.calls.items c.extend.new.calls.items c.args.call f.left e.change e.recorded e.no_change e.not_recorded;
      safe = synced_after c.extend.result first f.calls.items c.extend.new.calls.items f.synced c.args.call c.requires.change f.safe e.recorded e.not_recorded;
      could = could_after c.extend.result first (tree_image f.tree) f.calls.items c.extend.new.calls.items c.args.call f.left f.could c.requires.can e.recorded e.not_recorded;
    }
