use Rattle.std.proofs.Common.{rules, ◌≡◌, ℕ, true, not, ◌&&◌, ◌||◌, List, Vec, Global, length, get_or, Some, sym, ◌∙◌, subst}
use Rattle.std.specs.Cmp.Lexicographic.{on_texts}
use Rattle.std.specs.Map.Iter.{deref_pair}
use Rattle.std.proofs.lemmas.Map.Iter.{btree_map_turn}
use Rattle.ips_outside.specs.Table.{kind_at, node_of, one_node}
use Rattle.ips_outside.specs.Tearing.{in_set}
use Rattle.ips_outside.specs.declared.table.Kind.{Kind}
use Rattle.ips_outside.proofs.Maps.{kind_at-get}
use Rattle.ips_outside.proofs.Cuts.{KeptSoFar, none_kept, one_more_kept, all_kept, unset}
use Rattle.ips_outside.proofs.tearing.kept_nodes.Goals as goal

pub loop-path-init : goal.loop-path-init
loop-path-init c =
    let flags = c.in_ok-kept.kept.items in
    let same : length flags ≡ c.args.count = search rules in
    let start : c.args.paths.now.entries ≡ c.into_iter-path-iterator.result = search rules in
    let off = unset flags c.args.count (c.in_ok-kept.ensures.items_if_clones_equal (λ y e. e)) in
    subst (λ (rest : List (Vec ℕ Global × Kind)). KeptSoFar c.args.paths.now.entries c.args.count (in_set c.args.names.now) rest flags) start (none_kept c.args.paths.now.entries c.args.count (in_set c.args.names.now) flags same off)

pub loop-path-preserved : goal.loop-path-preserved
loop-path-preserved c =
    let entries = c.args.paths.now.entries in
    let path = c.in-Some.path.now in
    let start : c.into_iter-path-iterator.result ≡ c.args.paths.now.entries = search rules in
    let turn = btree_map_turn deref_pair c.loop-path.yielded c.into_iter-path-iterator.result c.loop-path.path-iterator c.next.new.self c.next.result (c.in-Some.path, c.in-Some.kind) c.loop-path.yielded_by c.in-Some.is c.next.ensures.steps (on_texts (λ (v : Vec ℕ Global). v.items)) c.args.paths.now start c.iter-path-items.ensures.ordered in
    let at : kind_at entries path.items ≡ Some c.in-Some.kind.now = sym (kind_at-get entries path.items) ∙ turn.1 in
    let so_far = subst (λ (rest : List (Vec ℕ Global × Kind)). KeptSoFar entries c.args.count (in_set c.args.names.now) rest c.loop-path.kept.items) c.in-Some.ensures.steps c.loop-path.invariant in
    let marked = subst (λ (p : List ℕ). (n : ℕ) → get_or c.mark.new.kept.items n true ≡ (get_or c.loop-path.kept.items n true || (one_node (node_of (Some c.in-Some.kind.now)) (Some n) && not (in_set c.args.names.now p)))) c.deref.ensures.value c.mark.ensures.marked in
    one_more_kept entries c.args.count (in_set c.args.names.now) c.next.new.self c.loop-path.kept.items c.mark.new.kept.items path c.in-Some.kind.now so_far at c.mark.ensures.length marked

pub returns : goal.returns
returns c =
    let end = subst (λ (rest : List (Vec ℕ Global × Kind)). KeptSoFar c.args.paths.now.entries c.args.count (in_set c.args.names.now) rest c.loop-path.kept.items) c.in-None.ensures.steps.0 c.loop-path.invariant in
    record { length = c.loop-path.invariant.length; kept = all_kept c.args.paths.now.entries c.args.count (in_set c.args.names.now) c.loop-path.kept.items end }
