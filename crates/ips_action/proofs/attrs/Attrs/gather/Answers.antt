use Rattle.std.proofs.Common.{rules}
use Rattle.std.proofs.lemmas.List.Sorted.{answers_always}
use Rattle.ips_action.proofs.Gathered.{before_pair, before_pair_order, ascend_sorted, grouped_attrs, gathered_stable}
use Rattle.ips_action.proofs.attrs.Attrs.gather.Goals as goal

pub held-requires : goal.held-requires
held-requires c = ascend_sorted c.sort_by.new.self.items (c.in_ok-sort_by.ensures.sorted before_pair before_pair_order (answers_always _ _ _ (λ f a r q k. search rules)))

pub returns-clause-attrs : goal.returns-clause-attrs
returns-clause-attrs c =
    let sorted = c.in_ok-sort_by.ensures.sorted before_pair before_pair_order (answers_always _ _ _ (λ f a r q k. search rules)) in
    rw c.in_ok-attrs.ensures (grouped_attrs c.sort_by.new.self.items (ascend_sorted c.sort_by.new.self.items sorted))

pub returns-clause-gathers : goal.returns-clause-gathers
returns-clause-gathers c =
    let sorted = c.in_ok-sort_by.ensures.sorted before_pair before_pair_order (answers_always _ _ _ (λ f a r q k. search rules)) in
    let stable = c.in_ok-sort_by.ensures.stable before_pair before_pair_order (answers_always _ _ _ (λ f a r q k. search rules)) in
    rw c.in_ok-attrs.ensures (gathered_stable c.args.pairs.items c.sort_by.new.self.items (ascend_sorted c.sort_by.new.self.items sorted) stable)
