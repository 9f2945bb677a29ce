use Rattle.std.proofs.Common.{ℕ, ◌≡◌, List, take, sym, ap, subst}
use Rattle.ips_outside.specs.Tree.{tree_image}
use Rattle.ips_folder.specs.declared.call.Call.{Call}
use Rattle.ips_folder.specs.History.{Moment, begun, replay, CanAll}
use Rattle.ips_folder.specs.Memory.{moment_of}
use Rattle.ips_folder.proofs.Crashes.{can_until, safe_until}
use Rattle.ips_folder.proofs.log.CallLog.until_sync.Goals as goal

pub returns-clause-could : goal.returns-clause-could
returns-clause-could c =
    let f = c.args.self.now in
    subst (λ (l : List Call). CanAll (take f.synced l) (tree_image f.first)) (sym c.deref.ensures.value) (can_until (tree_image f.first) f.calls.items f.synced f.safe f.could)

pub returns-clause-safe : goal.returns-clause-safe
returns-clause-safe c =
    let f = c.args.self.now in
    subst (λ (l : List Call). (replay (take f.synced l) (begun (tree_image f.first))).state.held ≡ (moment_of f).safe) (sym c.deref.ensures.value) (safe_until (tree_image f.first) f.calls.items f.synced f.safe f.could)
