use Rattle.std.proofs.Common.{List, get_or, take_all, sym, ap, subst, arith}
use Rattle.ips_found.specs.Found.{thing_paths}
use Rattle.ips_found.specs.declared.found.Thing.{Thing}
use Rattle.ips_aside.specs.Lost.{folder_paths}
use Rattle.ips_aside.specs.Ways.{IsMarkedAbove}
use Rattle.ips_aside.proofs.Above.{holds_above}
use Rattle.ips_aside.proofs.FirstFree.{one_thing}
use Rattle.ips_aside.proofs.ways.mark_things.Goals as goal

pub mark_inside-requires : goal.mark_inside-requires
mark_inside-requires c = holds_above c.loop-i.above _ c.loop-i.invariant.marked

pub loop-i-preserved : goal.loop-i-preserved
loop-i-preserved c = record {
  marked = subst (IsMarkedAbove c.mark_inside.new.above) (sym (one_thing c.args.root.now.bytes c.args.things.now c.loop-i.i (get_or c.args.things.now c.loop-i.i c.index-things-i.result) c.loop-i-test.true (ap (λ (d : Thing). get_or c.args.things.now c.loop-i.i d) c.index-things-i.is)))
      (c.in_ok-mark_inside.ensures _ c.loop-i.invariant.marked);
}

pub returns : goal.returns
returns c = subst (λ (l : List Thing). IsMarkedAbove c.loop-i.above (folder_paths c.args.root.now.bytes (thing_paths l))) (take_all c.loop-i.i c.args.things.now (omega (arith, c.loop-i-test.false))) c.loop-i.invariant.marked
