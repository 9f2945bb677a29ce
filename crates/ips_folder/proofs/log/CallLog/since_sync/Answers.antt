use Rattle.std.proofs.Common.{ℕ, ◌≡◌, ◌-◌, true, List, length, take, drop, sym, ap, subst, ◌∙◌}
use Rattle.std.specs.List.{list_all}
use Rattle.ips_outside.specs.Tree.{tree_image}
use Rattle.ips_folder.specs.declared.call.Call.{Call}
use Rattle.ips_folder.specs.History.{begun, replay, is_change, CanAll}
use Rattle.ips_folder.specs.Memory.{moment_of}
use Rattle.ips_folder.proofs.Crashes.{can_since, since_now, all_behind}
use Rattle.ips_folder.proofs.log.CallLog.since_sync.Goals as goal

pub returns-clause-could : goal.returns-clause-could
returns-clause-could c =
    let f = c.args.self.now in
    let all : take (length c.deref.result.now - f.synced) (drop f.synced c.deref.result.now) ≡ drop f.synced f.calls.items = all_behind f.synced c.deref.result.now ∙ ap (drop f.synced) c.deref.ensures.value in
    subst (λ (l : List Call). CanAll l (moment_of f).safe) (sym all) (can_since (tree_image f.first) f.calls.items f.synced f.safe f.could)

pub returns-clause-changes : goal.returns-clause-changes
returns-clause-changes c =
    let f = c.args.self.now in
    let all : take (length c.deref.result.now - f.synced) (drop f.synced c.deref.result.now) ≡ drop f.synced f.calls.items = all_behind f.synced c.deref.result.now ∙ ap (drop f.synced) c.deref.ensures.value in
    ap (list_all is_change) all ∙ f.safe.since

pub returns-clause-now : goal.returns-clause-now
returns-clause-now c =
    let f = c.args.self.now in
    let all : take (length c.deref.result.now - f.synced) (drop f.synced c.deref.result.now) ≡ drop f.synced f.calls.items = all_behind f.synced c.deref.result.now ∙ ap (drop f.synced) c.deref.ensures.value in
    ap (λ (l : List Call). replay l (begun (moment_of f).safe)) all ∙ since_now (tree_image f.first) f.calls.items f.synced f.safe f.could
