use Rattle.std.proofs.Common.{◌≡◌, ℕ, List, take, refl, sym, ap, ◌∙◌}
use Rattle.ips_outside.specs.Image.{Image}
use Rattle.ips_outside.specs.Tree.{tree_image}
use Rattle.ips_folder.specs.declared.call.Call.{Call}
use Rattle.ips_folder.specs.History.{name_of}
use Rattle.ips_folder.specs.Crash.{without, touch, touches}
use Rattle.ips_folder.proofs.Crashes.{touches_next, without_more, without_same, all_taken}
use Rattle.ips_folder.proofs.log.crash.remove_names.Goals as goal

pub loop-call-init : goal.loop-call-init
loop-call-init c = refl

pub loop-call-preserved : goal.loop-call-preserved
loop-call-preserved c =
    let calls = c.args.calls.now in
    let t = tree_image c.args.tree.now in
    let i = c.loop-call.call-index in
    let call = c.call-item.result in
    c.remove_name.ensures ∙ ap (without (touch (name_of call))) c.loop-call.invariant ∙ without_more (touches (take i calls)) (touch (name_of call)) t
    ∙ sym (without_same _ _ t (touches_next calls t i call c.loop-call-test.true c.call-item.is))

pub returns : goal.returns
returns c = c.loop-call.invariant ∙ ap (λ (l : List Call). without (touches l) (tree_image c.args.tree.now)) (all_taken c.args.calls.now c.loop-call.call-index c.loop-call-test.false)
