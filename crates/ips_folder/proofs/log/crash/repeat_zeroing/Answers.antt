use Rattle.std.proofs.Common.{◌≡◌, refl, sym, ◌∙◌, ap, subst}
use Rattle.ips_outside.specs.Tree.{tree_image}
use Rattle.ips_folder.specs.History.{Moment, change_of, zeroing, CanDo}
use Rattle.ips_folder.proofs.Crashes.{at_call, at_kept, at_next, at_end, can_item, is_item, can_zeroing, zeroed_next}
use Rattle.ips_folder.proofs.log.crash.repeat_zeroing.Goals as goal

pub loop-call-init : goal.loop-call-init
loop-call-init c = refl

pub carry_out_zeroing-requires : goal.carry_out_zeroing-requires
carry_out_zeroing-requires c =
    let calls = c.args.calls.now in
    let t = tree_image c.args.tree.now in
    let i = c.loop-call.call-index in
    let call = c.call-item.result in
    let m = at_call calls t i in
    subst (CanDo (zeroing call)) (sym c.loop-call.invariant) (can_zeroing m.state.held m.zeroed (at_kept calls t i).alike call (can_item calls t i call c.loop-call-test.true c.call-item.is c.requires.can))

pub loop-call-preserved : goal.loop-call-preserved
loop-call-preserved c =
    let calls = c.args.calls.now in
    let t = tree_image c.args.tree.now in
    let i = c.loop-call.call-index in
    let call = c.call-item.result in
    c.in_ok-carry_out_zeroing.ensures.done ∙ ap (change_of (zeroing call)) c.loop-call.invariant
    ∙ zeroed_next call (at_call calls t i) (is_item calls t i call c.loop-call-test.true c.call-item.is c.requires.changes)
    ∙ sym (ap (λ (m : Moment). m.zeroed) (at_next calls t i call c.loop-call-test.true c.call-item.is))

pub returns : goal.returns
returns c = c.loop-call.invariant ∙ ap (λ (m : Moment). m.zeroed) (at_end c.args.calls.now (tree_image c.args.tree.now) c.loop-call.call-index c.loop-call-test.false)
