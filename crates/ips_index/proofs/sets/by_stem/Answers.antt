use Rattle.std.proofs.Common.{◌≡◌, subst, sym, List, [], ◌∷◌, ◌++◌, map, Bor}
use Rattle.std.specs.Map.Iter.{deref}
use Rattle.std.proofs.lemmas.List.{map-append}
use Rattle.std.proofs.lemmas.Map.Iter.{iter_end}
use Rattle.ips_index.specs.Rows.{IndexedValue}
use Rattle.ips_index.proofs.Listed.{AreListed, listed_none, listed_next, listed_whole}
use Rattle.ips_index.proofs.sets.by_stem.Goals as goal

pub loop-row-init : goal.loop-row-init
loop-row-init c = listed_none c.new-stems.result c.new-stems.ensures.empty

pub loop-row-preserved : goal.loop-row-preserved
loop-row-preserved c =
    let seen : List IndexedValue = map (λ (b : Bor IndexedValue). b.now) c.loop-row.yielded in
    subst (λ (front : List IndexedValue). AreListed front c.add.new.stems) (sym (map-append (λ (b : Bor IndexedValue). b.now) c.loop-row.yielded (c.in-Some.row ∷ [])))
    (subst (λ (row : IndexedValue). AreListed (seen ++ row ∷ []) c.add.new.stems) c.in_ok-share.ensures (listed_next seen c.in_ok-share.field-0 c.loop-row.stems c.add.new.stems c.loop-row.invariant c.in_ok-add.ensures))

pub returns : goal.returns
returns c =
    let all : map (λ (b : Bor IndexedValue). b.now) c.loop-row.yielded ≡ c.args.rows.now.keys = (iter_end deref _ _ _ _ _ _ c.into_iter-row-iterator.ensures.into_iter_gives.0 c.loop-row.yielded_by c.in-None.is c.next.ensures.steps).0 in
    listed_whole (map (λ (b : Bor IndexedValue). b.now) c.loop-row.yielded) c.args.rows.now.keys c.loop-row.stems all c.loop-row.invariant
