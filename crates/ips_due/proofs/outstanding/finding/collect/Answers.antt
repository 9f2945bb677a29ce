use Rattle.std.proofs.Common.{◌≡◌, ℕ, Vec, Global, true, length, map, nat_cmp, sym, ap, subst, ◌∙◌}
use Rattle.std.specs.List.Sorted.{IsStrictlySortedBy}
use Rattle.std.specs.Cmp.Lexicographic.{slice_cmp}
use Rattle.std.specs.Map.Iter.{deref}
use Rattle.std.proofs.lemmas.Map.Iter.{iter_end, iter_turn}
use Rattle.ips_text.specs.Path.{IsPath}
use Rattle.ips_conflict.specs.Index.{has_path}
use Rattle.ips_due.specs.outstanding.Verdicts.{named_paths}
use Rattle.ips_due.proofs.outstanding.Answered.{key_there, keys_order, seen_keys}
use Rattle.ips_due.proofs.outstanding.finding.collect.Goals as goal

pub named_at-requires : goal.named_at-requires
named_at-requires c =
    let k = c.in-Some.key.now in
    let turn = iter_turn deref _ _ _ _ _ _ (c.into_iter-key-iterator.ensures.into_iter_gives ∙ c.iter-key-items.ensures.rest) c.loop-key.yielded_by c.in-Some.key c.in-Some.is c.next.ensures.steps in
    let has : has_path c.args.notes.now.keys k.items ≡ true = key_there c.args.notes.now.keys.keys (length c.loop-key.yielded) k turn.1 in
    subst IsPath (sym c.deref.ensures.value) (c.requires.proper k.items has)

pub returns-clause-keys : goal.returns-clause-keys
returns-clause-keys c =
    let all : map deref c.loop-key.yielded ≡ c.args.notes.now.keys.keys = (iter_end deref _ _ _ _ _ _ (c.into_iter-key-iterator.ensures.into_iter_gives ∙ c.iter-key-items.ensures.rest) c.loop-key.yielded_by c.in-None.is c.next.ensures.steps).0 in
    c.loop-key.invariant.paths ∙ seen_keys c.loop-key.yielded ∙ ap (map (λ (k : Vec ℕ Global). k.items)) all

pub returns-clause-order : goal.returns-clause-order
returns-clause-order c =
    let all : map deref c.loop-key.yielded ≡ c.args.notes.now.keys.keys = (iter_end deref _ _ _ _ _ _ (c.into_iter-key-iterator.ensures.into_iter_gives ∙ c.iter-key-items.ensures.rest) c.loop-key.yielded_by c.in-None.is c.next.ensures.steps).0 in
    let paths : named_paths c.loop-key.named.items ≡ map (λ (k : Vec ℕ Global). k.items) c.args.notes.now.keys.keys = c.loop-key.invariant.paths ∙ seen_keys c.loop-key.yielded ∙ ap (map (λ (k : Vec ℕ Global). k.items)) all in
    subst (IsStrictlySortedBy (slice_cmp nat_cmp)) (sym paths) (keys_order c.args.notes.now.keys.keys c.iter-key-items.ensures.ordered)
