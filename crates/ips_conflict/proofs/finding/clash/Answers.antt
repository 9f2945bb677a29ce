use Rattle.std.proofs.Common.{◌∙◌, String, Global, string_bytes, Some, None, sym}
use Rattle.std.specs.Map.Iter.{deref_pair}
use Rattle.std.specs.Cmp.Lexicographic.{on_texts}
use Rattle.std.proofs.lemmas.Map.Iter.{btree_map_turn}
use Rattle.ips_conflict.proofs.FirstOver.{all_left, of_text, group_of, left_more, first_left}
use Rattle.ips_conflict.proofs.finding.clash.Goals as goal

pub loop-text-init : goal.loop-text-init
loop-text-init c = all_left c.args.placed.now c.in_ok-index.index.groups c.into_iter-text-iterator.result (sym (c.into_iter-text-iterator.ensures.into_iter_gives ∙ c.iter-text-items.ensures.rest)) c.in_ok-index.ensures.groups c.iter-text-items.ensures.ordered

pub first_of_text-requires-clause-group : goal.first_of_text-requires-clause-group
first_of_text-requires-clause-group c =
    let groups = c.in_ok-index.index.groups in
    let start = c.into_iter-text-iterator.ensures.into_iter_gives ∙ c.iter-text-items.ensures.rest in
    let turn = btree_map_turn deref_pair c.loop-text.yielded c.into_iter-text-iterator.result c.loop-text.text-iterator c.next.new.self c.next.result (c.in-Some.text, c.in-Some.members) c.loop-text.yielded_by c.in-Some.is c.next.ensures.steps (on_texts (λ (s : String Global). string_bytes s)) groups start c.iter-text-items.ensures.ordered in
    group_of c.args.placed.now groups c.in-Some.text.now c.in-Some.members.now c.as_str.result.now c.deref.result.now c.in_ok-index.ensures.groups turn.1 c.as_str.ensures.value c.deref.ensures.value

pub returns-in-Some-2 : goal.returns-in-Some-2
returns-in-Some-2 c =
    let found = of_text c.args.placed.now c.as_str.result.now (string_bytes c.in-Some.text.now) c.in_ok-clash.field-0 (Some c.in-Some-2.clash) c.as_str.ensures.value c.in-Some-2.is c.in_ok-clash.ensures in
    first_left c.args.placed.now c.in-Some.text.now c.in-Some.members.now c.next.new.self c.loop-text.text-iterator c.in-Some.ensures.steps c.loop-text.invariant c.in-Some-2.clash found

pub loop-text-preserved : goal.loop-text-preserved
loop-text-preserved c =
    let none = of_text c.args.placed.now c.as_str.result.now (string_bytes c.in-Some.text.now) c.in_ok-clash.field-0 None c.as_str.ensures.value c.in_default.is c.in_ok-clash.ensures in
    left_more c.args.placed.now c.in-Some.text.now c.in-Some.members.now c.next.new.self c.loop-text.text-iterator c.in-Some.ensures.steps c.loop-text.invariant none
