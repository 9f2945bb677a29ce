use Rattle.std.proofs.Common.{◌≡◌, subst, sym, List, [], ◌∷◌, ◌++◌, map, Bor}
use Rattle.std.specs.Map.Iter.{deref}
use Rattle.std.proofs.lemmas.List.{map-append}
use Rattle.std.proofs.lemmas.Map.Iter.{iter_end}
use Rattle.ips_index.specs.Rows.{IndexedValue}
use Rattle.ips_index.proofs.Growing.{Grown, grown_none, grown_more, grown_whole}
use Rattle.ips_index.proofs.InSets.{same_rows}
use Rattle.ips_index.proofs.sets.copied_set.Goals as goal

pub loop-row-init : goal.loop-row-init
loop-row-init c = (subst (λ (keys : List IndexedValue). Grown keys [] c.new-copies.result) c.new-copies.ensures.empty (grown_none c.new-copies.result), c.new-copies.ensures.ordered)

pub loop-row-preserved : goal.loop-row-preserved
loop-row-preserved c = (
  subst (λ (front : List IndexedValue). Grown [] front c.insert.new.self) (sym (map-append (λ (b : Bor IndexedValue). b.now) c.loop-row.yielded (c.in-Some.row ∷ [])))
      (subst (λ (row : IndexedValue). Grown [] (map (λ (b : Bor IndexedValue). b.now) c.loop-row.yielded ++ row ∷ []) c.insert.new.self) c.in_ok-share.ensures
      (grown_more [] (map (λ (b : Bor IndexedValue). b.now) c.loop-row.yielded) c.in_ok-share.field-0 c.loop-row.copies c.insert.new.self c.loop-row.invariant.0 c.in_ok-insert.ensures.updates)),
  c.in_ok-insert.ensures.ordered,
)

pub returns : goal.returns
returns c =
    let all : map (λ (b : Bor IndexedValue). b.now) c.loop-row.yielded ≡ c.args.rows.now.keys = (iter_end deref _ _ _ _ _ _ c.into_iter-row-iterator.ensures.into_iter_gives.0 c.loop-row.yielded_by c.in-None.is c.next.ensures.steps).0 in
    same_rows c.loop-row.copies c.args.rows.now c.loop-row.invariant.1 c.into_iter-row-iterator.ensures.into_iter_gives.4 (grown_whole (map (λ (b : Bor IndexedValue). b.now) c.loop-row.yielded) c.args.rows.now.keys c.loop-row.copies all c.loop-row.invariant.0)
