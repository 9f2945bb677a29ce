use Rattle.std.proofs.Common.{◌≡◌, refl, sym, ◌∙◌, ap, subst}
use Rattle.ips_outside.specs.Image.{Image}
use Rattle.ips_outside.specs.Tree.{tree_image}
use Rattle.ips_folder.specs.History.{Moment, change_of, CanDo}
use Rattle.ips_folder.proofs.Replays.{effect_held}
use Rattle.ips_folder.proofs.Crashes.{at_call, at_next, at_end, can_item}
use Rattle.ips_folder.proofs.log.crash.repeat.Goals as goal

pub loop-call-init : goal.loop-call-init
loop-call-init c = refl

pub carry_out-requires : goal.carry_out-requires
carry_out-requires c =
    subst (CanDo c.call-item.result) (sym c.loop-call.invariant) (can_item c.args.calls.now (tree_image c.args.tree.now) c.loop-call.call-index c.call-item.result c.loop-call-test.true c.call-item.is c.requires)

pub loop-call-preserved : goal.loop-call-preserved
loop-call-preserved c =
    let calls = c.args.calls.now in
    let t = tree_image c.args.tree.now in
    let i = c.loop-call.call-index in
    let call = c.call-item.result in
    c.in_ok-carry_out.ensures.done ∙ ap (change_of call) c.loop-call.invariant ∙ sym (effect_held call (at_call calls t i))
    ∙ sym (ap (λ (m : Moment). m.state.held) (at_next calls t i call c.loop-call-test.true c.call-item.is))

pub returns : goal.returns
returns c = c.loop-call.invariant ∙ ap (λ (m : Moment). m.state.held) (at_end c.args.calls.now (tree_image c.args.tree.now) c.loop-call.call-index c.loop-call-test.false)
