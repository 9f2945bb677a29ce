use Rattle.std.proofs.Common.{◌≡◌, ◌∙◌, List, ℕ, Vec, Global, map, subst}
use Rattle.std.specs.Map.Iter.{deref_pair}
use Rattle.std.specs.Ordering.{nat_cmp}
use Rattle.std.specs.Cmp.{IsTotalOrder, on_total}
use Rattle.std.specs.Cmp.Lexicographic.{lists_total, slice_cmp}
use Rattle.std.proofs.lemmas.Cmp.{nat_cmp_total}
use Rattle.std.proofs.lemmas.Map.Iter.{btree_map_turn, iter_end}
use Rattle.ips_meaning.specs.Want.{IsWanted}
use Rattle.ips_meaning.proofs.Wants.{made_more, made_all, made_whole, made_proper, made_sorted, key_found, key_wanted, key_proper, key_leading, seen_paths}
use Rattle.ips_meaning.proofs.wanted.entries.Goals as goal

vec_total : IsTotalOrder (λ (a b : Vec ℕ Global). slice_cmp nat_cmp a.items b.items)
vec_total = on_total (λ (v : Vec ℕ Global). v.items) (lists_total nat_cmp_total)

pub wanted_at-requires-clause-place : goal.wanted_at-requires-clause-place
wanted_at-requires-clause-place c =
    key_leading c.args.kept.now c.in_ok-paths.paths c.in-Some.path.now.items c.deref.result.now c.in-Some.place.now c.in_ok-paths.ensures.leading
    (key_found c.in_ok-paths.paths c.in-Some.path.now c.in-Some.place.now
    (btree_map_turn deref_pair c.loop-path.yielded c.into_iter-path-iterator.result c.loop-path.path-iterator c.next.new.self c.next.result (c.in-Some.path, c.in-Some.place) c.loop-path.yielded_by c.in-Some.is c.next.ensures.steps vec_total c.in_ok-paths.paths (c.into_iter-path-iterator.ensures.into_iter_gives ∙ c.iter-path-items.ensures.rest) c.iter-path-items.ensures.ordered).1)
    c.deref.ensures.value

pub wanted_at-requires-clause-wanted : goal.wanted_at-requires-clause-wanted
wanted_at-requires-clause-wanted c =
    key_wanted c.args.kept.now c.in_ok-paths.paths c.in-Some.path.now.items c.deref.result.now c.in-Some.place.now c.in_ok-paths.ensures.wanted
    (key_found c.in_ok-paths.paths c.in-Some.path.now c.in-Some.place.now
    (btree_map_turn deref_pair c.loop-path.yielded c.into_iter-path-iterator.result c.loop-path.path-iterator c.next.new.self c.next.result (c.in-Some.path, c.in-Some.place) c.loop-path.yielded_by c.in-Some.is c.next.ensures.steps vec_total c.in_ok-paths.paths (c.into_iter-path-iterator.ensures.into_iter_gives ∙ c.iter-path-items.ensures.rest) c.iter-path-items.ensures.ordered).1)
    c.deref.ensures.value

pub wanted_at-requires-clause-proper : goal.wanted_at-requires-clause-proper
wanted_at-requires-clause-proper c =
    key_proper c.args.kept.now c.in_ok-paths.paths c.in-Some.path.now.items c.deref.result.now c.in-Some.place.now c.in_ok-paths.ensures.wanted
    (key_found c.in_ok-paths.paths c.in-Some.path.now c.in-Some.place.now
    (btree_map_turn deref_pair c.loop-path.yielded c.into_iter-path-iterator.result c.loop-path.path-iterator c.next.new.self c.next.result (c.in-Some.path, c.in-Some.place) c.loop-path.yielded_by c.in-Some.is c.next.ensures.steps vec_total c.in_ok-paths.paths (c.into_iter-path-iterator.ensures.into_iter_gives ∙ c.iter-path-items.ensures.rest) c.iter-path-items.ensures.ordered).1)
    c.deref.ensures.value

pub loop-path-preserved : goal.loop-path-preserved
loop-path-preserved c =
    made_more c.args.kept.now c.loop-path.yielded c.loop-path.entries.items c.push.new.self.items (c.in-Some.path, c.in-Some.place) c.in_ok-wanted_at.field-0 c.loop-path.invariant c.in_ok-push.ensures.items (c.in_ok-wanted_at.ensures.path ∙ c.deref.ensures.value)
    (subst (λ (p : List ℕ). IsWanted c.args.kept.now p c.in_ok-wanted_at.field-0.entry) c.deref.ensures.value c.in_ok-wanted_at.ensures.entry) c.in_ok-wanted_at.ensures.proper

pub returns-clause-want : goal.returns-clause-want
returns-clause-want c =
    let all : map deref_pair c.loop-path.yielded ≡ c.in_ok-paths.paths.entries = (iter_end deref_pair _ _ _ _ _ _ (c.into_iter-path-iterator.ensures.into_iter_gives ∙ c.iter-path-items.ensures.rest) c.loop-path.yielded_by c.in-None.is c.next.ensures.steps).0 in
    made_all c.args.kept.now c.in_ok-paths.paths c.loop-path.yielded c.loop-path.entries.items all c.loop-path.invariant c.iter-path-items.ensures.ordered c.in_ok-paths.ensures.wanted

pub returns-clause-in_order : goal.returns-clause-in_order
returns-clause-in_order c =
    let all : map deref_pair c.loop-path.yielded ≡ c.in_ok-paths.paths.entries = (iter_end deref_pair _ _ _ _ _ _ (c.into_iter-path-iterator.ensures.into_iter_gives ∙ c.iter-path-items.ensures.rest) c.loop-path.yielded_by c.in-None.is c.next.ensures.steps).0 in
    made_sorted c.args.kept.now c.in_ok-paths.paths c.loop-path.yielded c.loop-path.entries.items all c.loop-path.invariant c.iter-path-items.ensures.ordered

pub returns-clause-whole : goal.returns-clause-whole
returns-clause-whole c =
    let all : map deref_pair c.loop-path.yielded ≡ c.in_ok-paths.paths.entries = (iter_end deref_pair _ _ _ _ _ _ (c.into_iter-path-iterator.ensures.into_iter_gives ∙ c.iter-path-items.ensures.rest) c.loop-path.yielded_by c.in-None.is c.next.ensures.steps).0 in
    made_whole c.args.kept.now c.in_ok-paths.paths c.loop-path.yielded c.loop-path.entries.items all c.loop-path.invariant c.in_ok-paths.ensures.wanted

pub returns-clause-proper : goal.returns-clause-proper
returns-clause-proper c = made_proper c.args.kept.now (seen_paths c.loop-path.yielded) c.loop-path.entries.items c.loop-path.invariant
