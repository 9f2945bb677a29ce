use Rattle.std.proofs.Common.{◌∙◌}
use Rattle.ips_outside.specs.Tree.{tree_image}
use Rattle.ips_outside.specs.Tearing.{in_set}
use Rattle.ips_folder.specs.Crash.{is_name}
use Rattle.ips_folder.specs.Memory.{moment_of}
use Rattle.ips_folder.proofs.Crashes.{names_since, torn_as}
use Rattle.ips_folder.proofs.log.CallLog.torn.Goals as goal

pub returns : goal.returns
returns c =
    let m = moment_of c.args.self.now in
    let e = c.since_sync.ensures in
    torn_as (in_set c.in_ok-touched.touched) (is_name m) (tree_image c.in_ok-tree.tree) m.zeroed (tree_image c.tear.new.self) c.in_ok-tree.ensures
    (λ q. c.in_ok-touched.ensures.names q ∙ names_since c.since_sync.result.now m.safe m e.changes e.now q) c.in_ok-tear.ensures.torn
