use Rattle.std.proofs.Common.{sym, ◌∙◌, ap}
use Rattle.ips_conflict.specs.Index.{has_path}
use Rattle.ips_aside.proofs.FirstFree.{tried_free, tried_more, tried_none}
use Rattle.ips_aside.proofs.free.grow.Goals as goal

pub loop-time-init : goal.loop-time-init
loop-time-init c = tried_none (has_path c.args.taken.now) c.args.ending.now c.args.name.now.items

pub loop-time-preserved : goal.loop-time-preserved
loop-time-preserved c =
    let taken = has_path c.args.taken.now in
    tried_more taken c.args.ending.now c.args.name.now.items c.loop-time.name.items c.extend_from_slice.new.self.items c.loop-time.invariant c.in_ok-extend_from_slice.ensures.items
    (ap taken (sym c.as_slice.ensures.value) ∙ sym c.is_marked.ensures ∙ c.if-not-is_marked.false)

pub returns-then-not-is_marked : goal.returns-then-not-is_marked
returns-then-not-is_marked c =
    let taken = has_path c.args.taken.now in
    tried_free taken c.args.ending.now c.args.name.now.items c.loop-time.name.items c.loop-time.invariant (ap taken (sym c.as_slice.ensures.value) ∙ sym c.is_marked.ensures ∙ c.if-not-is_marked.true)
