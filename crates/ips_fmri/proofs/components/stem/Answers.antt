use Rattle.std.proofs.lemmas.Result.{err_from_is_err_and}
use Rattle.ips_fmri.proofs.Stems.{so_far_begin, so_far_on, so_far_stop, so_far_end, so_far_room, so_far_shorter}
use Rattle.ips_fmri.proofs.components.stem.Goals as goal

pub loop-after-init : goal.loop-after-init
loop-after-init c = so_far_begin c.args.wild c.args.bytes.now

pub returns-in_err-after : goal.returns-in_err-after
returns-in_err-after c =
    let p = err_from_is_err_and c.from_residual.result c.from_residual.ensures.1 in
    rw (p.1, p.2) (so_far_stop c.args.wild c.args.bytes.now c.loop-after.rest.now c.in_err-after.field-0.0 c.loop-after.invariant c.in_err-after.ensures)

pub overflow_sub-bytes : goal.overflow_sub-bytes
overflow_sub-bytes c = so_far_room c.args.wild c.args.bytes.now c.loop-after.rest.now c.in_ok-after.field-0-0.now c.in_ok-after.after.now c.loop-after.invariant c.in_ok-after.ensures

pub returns-in_default : goal.returns-in_default
returns-in_default c =
    rw (c.split_at.ensures.front, c.split_at.ensures.back)
    (so_far_end c.args.wild c.args.bytes.now c.loop-after.rest.now c.in_ok-after.field-0-0.now c.in_ok-after.after.now c.loop-after.invariant c.in_ok-after.ensures c.in_default.ensures.none)

pub loop-after-smaller : goal.loop-after-smaller
loop-after-smaller c = so_far_shorter c.args.wild c.loop-after.rest.now c.in_ok-after.field-0-0.now c.in_ok-after.after.now c.in-Some.more.now c.in_ok-after.ensures c.in-Some.ensures.some

pub loop-after-preserved : goal.loop-after-preserved
loop-after-preserved c = so_far_on c.args.wild c.args.bytes.now c.loop-after.rest.now c.in_ok-after.field-0-0.now c.in_ok-after.after.now c.in-Some.more.now c.loop-after.invariant c.in_ok-after.ensures c.in-Some.ensures.some
