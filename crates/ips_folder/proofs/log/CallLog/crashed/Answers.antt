use Rattle.std.proofs.Common.{◌≡◌, ◌∙◌, Result, Ok, Err, IfOk, sym, subst}
use Rattle.ips_outside.specs.Image.{IsImage}
use Rattle.ips_outside.specs.State.{MayLeave}
use Rattle.ips_outside.specs.declared.tree.Tree.{Tree}
use Rattle.ips_outside.specs.Tree.{tree_image, tree_formed}
use Rattle.ips_folder.specs.declared.log.CallLog.{CallLog}
use Rattle.ips_folder.specs.declared.stop.Choice.{Choice}
use Rattle.ips_folder.specs.declared.stop.Choice.TheVariants as choice
use Rattle.ips_folder.specs.Crash.{IsLeftBy}
use Rattle.ips_folder.specs.Memory.{moment_of}
use Rattle.ips_folder.proofs.Leavings.{may_leave}
use Rattle.ips_folder.proofs.log.CallLog.crashed.Goals as goal

may_be : {E : Type 0} (f : CallLog) (c : Choice) (r : Result Tree E) → IfOk r (λ tree. IsLeftBy c (moment_of f) (tree_image tree)) → IfOk r (λ tree. MayLeave (moment_of f).state (tree_image tree))
may_be f c (Ok tree) is = may_leave (tree_image f.first) f.calls.items (tree_image tree) c (subst IsImage (sym f.left.held) (tree_formed f.tree)) (tree_formed tree) is
may_be f c (Err e) is = tt

as_held : {E : Type 0} (f : CallLog) (r : Result Tree E) → IfOk r (λ copy. tree_image copy ≡ tree_image f.tree) → IfOk r (λ copy. tree_image copy ≡ (moment_of f).state.held)
as_held f (Ok tree) is = is ∙ sym f.left.held
as_held f (Err e) is = tt

pub returns-in-Before-clause-may_be : goal.returns-in-Before-clause-may_be
returns-in-Before-clause-may_be c = may_be c.args.self.now choice.Before c.safe.result c.safe.ensures

pub returns-in-After-clause-may_be : goal.returns-in-After-clause-may_be
returns-in-After-clause-may_be c = may_be c.args.self.now choice.After c.copy.result (as_held c.args.self.now c.copy.result c.copy.ensures)

pub returns-in-Gone-clause-may_be : goal.returns-in-Gone-clause-may_be
returns-in-Gone-clause-may_be c = may_be c.args.self.now choice.Gone c.gone.result c.gone.ensures

pub returns-in-Junk-clause-may_be : goal.returns-in-Junk-clause-may_be
returns-in-Junk-clause-may_be c = may_be c.args.self.now choice.Junk c.junked.result c.junked.ensures

pub returns-in-Torn-clause-may_be : goal.returns-in-Torn-clause-may_be
returns-in-Torn-clause-may_be c = may_be c.args.self.now choice.Torn c.torn.result c.torn.ensures
