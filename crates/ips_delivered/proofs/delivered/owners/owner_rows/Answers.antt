use Rattle.std.proofs.Common.{◌≡◌, ◌∙◌, List, ℕ, Vec, Global, Some, map, sym, subst}
use Rattle.std.specs.Map.{lookup}
use Rattle.std.specs.Map.Iter.{deref_pair}
use Rattle.std.specs.Ordering.{is_eq, nat_cmp}
use Rattle.std.specs.Cmp.{on_total}
use Rattle.std.specs.Cmp.Lexicographic.{lists_total, slice_cmp}
use Rattle.std.proofs.lemmas.Cmp.{nat_cmp_total}
use Rattle.std.proofs.lemmas.Map.Iter.{btree_map_turn, iter_end}
use Rattle.ips_text.specs.Path.{IsPath}
use Rattle.ips_delivered.specs.delivered.Delivering.{owning}
use Rattle.ips_delivered.proofs.delivered.Numbered.{HasNone, has_numbers, none_unknown}
use Rattle.ips_delivered.proofs.delivered.Owning.{owning_all}
use Rattle.ips_delivered.proofs.delivered.Rows.{all_rows, owner_found, path_of_owner, rows_more}
use Rattle.ips_delivered.proofs.delivered.owners.owner_rows.Goals as goal

pub row-requires-clause-path : goal.row-requires-clause-path
row-requires-clause-path c =
    subst IsPath (sym c.deref.ensures.value)
    (path_of_owner c.in_ok-owners.owners c.in-Some.path.now c.in-Some.item.now c.in_ok-owners.ensures.proper
    (btree_map_turn deref_pair c.loop-path.yielded c.into_iter-path-iterator.result c.loop-path.path-iterator c.next.new.self c.next.result (c.in-Some.path, c.in-Some.item) c.loop-path.yielded_by c.in-Some.is c.next.ensures.steps (on_total (λ (v : Vec ℕ Global). v.items) (lists_total nat_cmp_total)) c.in_ok-owners.owners (c.into_iter-path-iterator.ensures.into_iter_gives ∙ c.iter-path-items.ensures.rest) c.iter-path-items.ensures.ordered).1).1

pub row-requires-clause-numbers : goal.row-requires-clause-numbers
row-requires-clause-numbers c =
    let books = c.args.accounts.now in
    let admitted = c.args.admitted.now in
    let found : lookup (λ (k : Vec ℕ Global). is_eq (slice_cmp nat_cmp c.in-Some.path.now.items k.items)) c.in_ok-owners.owners.entries ≡ Some c.in-Some.item.now =
    (btree_map_turn deref_pair c.loop-path.yielded c.into_iter-path-iterator.result c.loop-path.path-iterator c.next.new.self c.next.result (c.in-Some.path, c.in-Some.item) c.loop-path.yielded_by c.in-Some.is c.next.ensures.steps (on_total (λ (v : Vec ℕ Global). v.items) (lists_total nat_cmp_total)) c.in_ok-owners.owners (c.into_iter-path-iterator.ensures.into_iter_gives ∙ c.iter-path-items.ensures.rest) c.iter-path-items.ensures.ordered).1 in
    has_numbers books c.in-Some.item.now (path_of_owner c.in_ok-owners.owners c.in-Some.path.now c.in-Some.item.now c.in_ok-owners.ensures.proper found).0
    (owning_all (HasNone books) admitted c.in-Some.path.now.items c.in-Some.item.now (none_unknown books admitted c.requires.none) (owner_found admitted c.in_ok-owners.owners c.in-Some.path.now c.in-Some.item.now c.in_ok-owners.ensures.owners found))

pub loop-path-preserved : goal.loop-path-preserved
loop-path-preserved c =
    let books = c.args.accounts.now in
    let admitted = c.args.admitted.now in
    let found : lookup (λ (k : Vec ℕ Global). is_eq (slice_cmp nat_cmp c.in-Some.path.now.items k.items)) c.in_ok-owners.owners.entries ≡ Some c.in-Some.item.now =
    (btree_map_turn deref_pair c.loop-path.yielded c.into_iter-path-iterator.result c.loop-path.path-iterator c.next.new.self c.next.result (c.in-Some.path, c.in-Some.item) c.loop-path.yielded_by c.in-Some.is c.next.ensures.steps (on_total (λ (v : Vec ℕ Global). v.items) (lists_total nat_cmp_total)) c.in_ok-owners.owners (c.into_iter-path-iterator.ensures.into_iter_gives ∙ c.iter-path-items.ensures.rest) c.iter-path-items.ensures.ordered).1 in
    let at : c.in_ok-row.field-0.path.bytes ≡ c.in-Some.path.now.items = c.in_ok-row.ensures.path ∙ c.deref.ensures.value in
    rows_more books admitted c.loop-path.yielded c.loop-path.rows.items c.push.new.self.items (c.in-Some.path, c.in-Some.item) c.in_ok-row.field-0 c.loop-path.invariant c.in_ok-push.ensures.items at
    (record {
      action = c.in-Some.item.now;
      owning = subst (λ (p : List ℕ). owning admitted p ≡ Some c.in-Some.item.now) (sym at) (owner_found admitted c.in_ok-owners.owners c.in-Some.path.now c.in-Some.item.now c.in_ok-owners.ensures.owners found);
      owner = c.in_ok-row.ensures.owner;
      group = c.in_ok-row.ensures.group;
      numbers = c.in_ok-row.ensures.numbers;
    })

pub returns : goal.returns
returns c =
    let all : map deref_pair c.loop-path.yielded ≡ c.in_ok-owners.owners.entries = (iter_end deref_pair _ _ _ _ _ _ (c.into_iter-path-iterator.ensures.into_iter_gives ∙ c.iter-path-items.ensures.rest) c.loop-path.yielded_by c.in-None.is c.next.ensures.steps).0 in
    all_rows c.args.accounts.now c.args.admitted.now c.in_ok-owners.owners c.loop-path.yielded c.loop-path.rows.items all c.loop-path.invariant c.iter-path-items.ensures.ordered c.in_ok-owners.ensures.owners
