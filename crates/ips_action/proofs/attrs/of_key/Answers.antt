use Rattle.std.proofs.Common.{[], rules}
use Rattle.std.proofs.lemmas.Fn.{always_returns_same}
use Rattle.ips_action.specs.Held.{IsPlaced}
use Rattle.ips_action.proofs.Found.{is_before, is_up_to, parts_before, parts_up_to, parts_in_order, values_between}
use Rattle.ips_action.proofs.Places.{all_range}
use Rattle.ips_action.proofs.attrs.of_key.Goals as goal

pub part-requires-clause-order : goal.part-requires-clause-order
part-requires-clause-order c =
    let text = c.args.text.now in
    let slots = c.args.slots.now in
    let name = c.args.name.now in
    let first = c.partition_point-first.ensures.partitioned (is_before name) (always_returns_same _ _ _ (λ a r q k. search rules)) (parts_before text slots name c.requires.ascend) in
    let behind = c.partition_point-behind.ensures.partitioned (is_up_to name) (always_returns_same _ _ _ (λ a r q k. search rules)) (parts_up_to text slots name c.requires.ascend) in
    parts_in_order slots name c.partition_point-first.result c.partition_point-behind.result (record { key = []; start = 0; end = 0 }) c.partition_point-first.ensures.bound first behind

pub new-requires : goal.new-requires
new-requires c = rw c.part.ensures (all_range (IsPlaced c.args.text.now) c.args.slots.now c.partition_point-first.result c.partition_point-behind.result c.requires.placed)

pub returns : goal.returns
returns c =
    let text = c.args.text.now in
    let slots = c.args.slots.now in
    let name = c.args.name.now in
    let first = c.partition_point-first.ensures.partitioned (is_before name) (always_returns_same _ _ _ (λ a r q k. search rules)) (parts_before text slots name c.requires.ascend) in
    let behind = c.partition_point-behind.ensures.partitioned (is_up_to name) (always_returns_same _ _ _ (λ a r q k. search rules)) (parts_up_to text slots name c.requires.ascend) in
    let le = parts_in_order slots name c.partition_point-first.result c.partition_point-behind.result (record { key = []; start = 0; end = 0 }) c.partition_point-first.ensures.bound first behind in
    rw (c.new.ensures, c.part.ensures) (values_between text slots name c.partition_point-first.result c.partition_point-behind.result c.requires le c.partition_point-behind.ensures.bound first behind)
