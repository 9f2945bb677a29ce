use Rattle.std.proofs.Common.{◌≡◌, ℕ, List, Vec, Global, true, length, map, nat_cmp, sym, ap, subst, ◌∙◌}
use Rattle.std.specs.List.Sorted.{IsStrictlySortedBy}
use Rattle.std.specs.Cmp.Lexicographic.{slice_cmp}
use Rattle.std.specs.Map.Iter.{deref}
use Rattle.std.proofs.lemmas.Map.Iter.{iter_end, iter_turn}
use Rattle.ips_text.specs.Kept.{Kept}
use Rattle.ips_text.specs.Path.{IsPath}
use Rattle.ips_after.specs.Lists.{listed}
use Rattle.ips_conflict.specs.Index.{has_path}
use Rattle.ips_due.proofs.outstanding.Answered.{key_there, keys_order, listed_keys, seen_keys}
use Rattle.ips_delivered.proofs.withdrawn.paths.in_order.Goals as goal

pub path_of-requires : goal.path_of-requires
path_of-requires c =
    let k = c.in-Some.key.now in
    let turn = iter_turn deref _ _ _ _ _ _ (c.into_iter-key-iterator.ensures.into_iter_gives ∙ c.iter-key-items.ensures.rest) c.loop-key.yielded_by c.in-Some.key c.in-Some.is c.next.ensures.steps in
    let has : has_path c.args.gone.now k.items ≡ true = key_there c.args.gone.now.keys (length c.loop-key.yielded) k turn.1 in
    subst IsPath (sym c.deref.ensures.value) (c.requires k.items has)

pub returns-clause-order : goal.returns-clause-order
returns-clause-order c =
    let all : map deref c.loop-key.yielded ≡ c.args.gone.now.keys = (iter_end deref _ _ _ _ _ _ (c.into_iter-key-iterator.ensures.into_iter_gives ∙ c.iter-key-items.ensures.rest) c.loop-key.yielded_by c.in-None.is c.next.ensures.steps).0 in
    let paths : map (λ (p : Kept). p.bytes) c.loop-key.paths.items ≡ map (λ (k : Vec ℕ Global). k.items) c.args.gone.now.keys = c.loop-key.invariant ∙ seen_keys c.loop-key.yielded ∙ ap (map (λ (k : Vec ℕ Global). k.items)) all in
    subst (IsStrictlySortedBy (slice_cmp nat_cmp)) (sym paths) (keys_order c.args.gone.now.keys c.iter-key-items.ensures.ordered)

pub returns-clause-paths : goal.returns-clause-paths
returns-clause-paths c =
    let all : map deref c.loop-key.yielded ≡ c.args.gone.now.keys = (iter_end deref _ _ _ _ _ _ (c.into_iter-key-iterator.ensures.into_iter_gives ∙ c.iter-key-items.ensures.rest) c.loop-key.yielded_by c.in-None.is c.next.ensures.steps).0 in
    let paths : map (λ (p : Kept). p.bytes) c.loop-key.paths.items ≡ map (λ (k : Vec ℕ Global). k.items) c.args.gone.now.keys = c.loop-key.invariant ∙ seen_keys c.loop-key.yielded ∙ ap (map (λ (k : Vec ℕ Global). k.items)) all in
    λ q. sym (ap (λ (l : List (List ℕ)). listed l q) paths ∙ listed_keys c.args.gone.now.keys q)
