use Rattle.std.proofs.Common.{◌≡◌, ◌∙◌, map, ap}
use Rattle.std.specs.Map.Iter.{deref}
use Rattle.std.proofs.lemmas.Map.Iter.{iter_end}
use Rattle.ips_delivered.specs.new_licenses.New.{shown_license}
use Rattle.ips_delivered.specs.new_licenses.Kept.{told}
use Rattle.ips_delivered.proofs.new_licenses.Pairs.{pairs_order, seen_pairs}
use Rattle.ips_delivered.proofs.new_licenses.newly.written.Goals as goal

pub returns-clause-order : goal.returns-clause-order
returns-clause-order c = pairs_order c.args.names.now.keys c.iter-name-items.ensures.ordered

pub returns-clause-texts : goal.returns-clause-texts
returns-clause-texts c =
    let all : map deref c.loop-name.yielded ≡ c.args.names.now.keys = (iter_end deref _ _ _ _ _ _ (c.into_iter-name-iterator.ensures.into_iter_gives ∙ c.iter-name-items.ensures.rest) c.loop-name.yielded_by c.in-None.is c.next.ensures.steps).0 in
    c.loop-name.invariant ∙ ap (map shown_license) (seen_pairs c.loop-name.yielded ∙ ap (map told) all)
