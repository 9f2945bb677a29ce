use Rattle.std.proofs.Common.{◌++◌, ◌∷◌, [], List, ℕ, take, take_all, sym, ◌∙◌, ap, subst, arith}
use Rattle.ips_text.proofs.Lists.{map_item}
use Rattle.ips_found.specs.Found.{thing_paths}
use Rattle.ips_aside.specs.declared.lost.LostName.{LostName}
use Rattle.ips_aside.specs.Lost.{folder_paths, names_of}
use Rattle.ips_aside.specs.Ways.{IsMarkedAbove}
use Rattle.ips_aside.proofs.Above.{above_more, holds_above}
use Rattle.ips_aside.proofs.FirstFree.{assoc}
use Rattle.ips_aside.proofs.ways.mark_names.Goals as goal

pub mark_above-requires : goal.mark_above-requires
mark_above-requires c = holds_above c.loop-i.above _ c.loop-i.invariant.marked

pub loop-i-preserved : goal.loop-i-preserved
loop-i-preserved c =
    let before = folder_paths c.args.root.now.bytes (thing_paths c.args.things.now) in
    let names = c.args.names.now in
    let i = c.loop-i.i in
    let x = c.index-names-i.result in
    record {
      marked = subst (IsMarkedAbove c.mark_above.new.keys) (assoc before (names_of (take i names)) (x.name.items ∷ []) ∙ ap (λ (l : List (List ℕ)). before ++ l) (sym (map_item (λ (y : LostName). y.name.items) names i x c.loop-i-test.true c.index-names-i.is)))
          (above_more c.loop-i.above c.mark_above.new.keys (before ++ names_of (take i names)) x.name.items c.deref.result.now (c.deref.ensures.value ∙ ap (λ (y : LostName). y.name.items) (sym c.index-names-i.is)) c.in_ok-mark_above.ensures c.loop-i.invariant.marked);
    }

pub returns : goal.returns
returns c =
    let before = folder_paths c.args.root.now.bytes (thing_paths c.args.things.now) in
    subst (λ (l : List LostName). IsMarkedAbove c.loop-i.above (before ++ names_of l)) (take_all c.loop-i.i c.args.names.now (omega (arith, c.loop-i-test.false))) c.loop-i.invariant.marked
