use Rattle.std.proofs.Common.{subst}
use Rattle.ips_outside.specs.Image.{Image}
use Rattle.ips_outside.specs.State.{MayLeave}
use Rattle.ips_outside.specs.Tree.{tree_formed}
use Rattle.std.proofs.Common.{sym}
use Rattle.ips_outside.specs.Image.{IsImage}
use Rattle.ips_folder.specs.Memory.{mem_folder}
use Rattle.ips_folder.proofs.Leavings.{held_may_stay}
use Rattle.ips_folder.proofs.memory.MemFolder.tree.Goals as goal

pub returns-clause-may_stay : goal.returns-clause-may_stay
returns-clause-may_stay c =
    let s = mem_folder.state c.args.self.now in
    let held = c.tree.ensures.held in
    subst (MayLeave s) (sym held) (held_may_stay s (subst IsImage held (tree_formed c.tree.result.now)))
