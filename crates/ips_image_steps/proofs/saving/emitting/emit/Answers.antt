use Rattle.std.proofs.Common.{◌≡◌, ◌++◌, ◌∷◌, [], ℕ, List, Option, Some, Vec, Global, map, nat_cmp, sym, ◌∙◌, ap, subst}
use Rattle.std.specs.Prelude.{IfSome}
use Rattle.std.specs.Map.{lookup}
use Rattle.std.specs.Map.Iter.{deref_pair}
use Rattle.std.specs.Ordering.{is_eq}
use Rattle.std.specs.Cmp.{on_total}
use Rattle.std.specs.Cmp.Lexicographic.{lists_total, slice_cmp}
use Rattle.std.proofs.lemmas.Cmp.{nat_cmp_total}
use Rattle.std.proofs.lemmas.List.{map-append}
use Rattle.std.proofs.lemmas.Map.Iter.{btree_map_turn, iter_end}
use Rattle.ips_emit.specs.Emitted.{IsEmitted}
use Rattle.ips_after.specs.Change.{Laid}
use Rattle.ips_image_steps.specs.saving.Saving.{CanBeMade, Saved, entry_saved, provenances_at, provenances_saved, saved_told, turns_at}
use Rattle.ips_image_steps.proofs.saving.Emission.{emitted_more, found_there, keys_order, paths_through, through_all}
use Rattle.ips_image_steps.proofs.saving.emitting.emit.Goals as goal

pub add-requires : goal.add-requires
add-requires c =
    let found : lookup (λ (k : Vec ℕ Global). is_eq (slice_cmp nat_cmp c.in-Some.path.now.items k.items)) c.args.saved.now.entries ≡ Some c.in-Some.what.now =
    (btree_map_turn deref_pair c.loop-path.yielded c.into_iter-path-iterator.result c.loop-path.path-iterator c.next.new.self c.next.result (c.in-Some.path, c.in-Some.what) c.loop-path.yielded_by c.in-Some.is c.next.ensures.steps (on_total (λ (v : Vec ℕ Global). v.items) (lists_total nat_cmp_total)) c.args.saved.now (c.into_iter-path-iterator.ensures.into_iter_gives ∙ c.iter-path-items.ensures.rest) c.iter-path-items.ensures.ordered).1 in
    subst (λ (o : Option Saved). IfSome o CanBeMade) (found_there c.args.saved.now c.in-Some.path.now c.in-Some.what.now found) (c.requires c.in-Some.path.now.items)

pub loop-path-preserved : goal.loop-path-preserved
loop-path-preserved c =
    let saved = c.args.saved.now in
    let k = c.in-Some.path.now in
    let what = saved_told c.in-Some.what.now in
    let found : lookup (λ (k : Vec ℕ Global). is_eq (slice_cmp nat_cmp c.in-Some.path.now.items k.items)) c.args.saved.now.entries ≡ Some c.in-Some.what.now =
    (btree_map_turn deref_pair c.loop-path.yielded c.into_iter-path-iterator.result c.loop-path.path-iterator c.next.new.self c.next.result (c.in-Some.path, c.in-Some.what) c.loop-path.yielded_by c.in-Some.is c.next.ensures.steps (on_total (λ (v : Vec ℕ Global). v.items) (lists_total nat_cmp_total)) c.args.saved.now (c.into_iter-path-iterator.ensures.into_iter_gives ∙ c.iter-path-items.ensures.rest) c.iter-path-items.ensures.ordered).1 in
    let through = paths_through c.loop-path.yielded in
    record {
      so_far = λ bytes t turns provenances before.
          subst (λ (l : List (List ℕ)). IsEmitted bytes t (turns ++ turns_at bytes t saved l) (provenances ++ provenances_at saved l) c.add.new.emitted) (sym (map-append (λ y. y.0.now.items) c.loop-path.yielded ((c.in-Some.path, c.in-Some.what) ∷ [])))
          (emitted_more bytes t saved turns provenances through k.items what c.add.new.emitted (found_there saved k c.in-Some.what.now found)
          (subst (λ (p : List ℕ). IsEmitted bytes t ((turns ++ turns_at bytes t saved through) ++ (p, Laid (entry_saved bytes t what)) ∷ []) ((provenances ++ provenances_at saved through) ++ provenances_saved what) c.add.new.emitted) c.deref.ensures.value
          (c.in_ok-add.ensures bytes t (turns ++ turns_at bytes t saved through) (provenances ++ provenances_at saved through) (c.loop-path.invariant.so_far bytes t turns provenances before))));
    }

pub returns-clause-order : goal.returns-clause-order
returns-clause-order c = keys_order c.args.saved.now.entries c.iter-path-items.ensures.ordered

pub returns-clause-steps : goal.returns-clause-steps
returns-clause-steps c = λ bytes t turns provenances before.
    let saved = c.args.saved.now in
    let all : map deref_pair c.loop-path.yielded ≡ saved.entries = (iter_end deref_pair _ _ _ _ _ _ (c.into_iter-path-iterator.ensures.into_iter_gives ∙ c.iter-path-items.ensures.rest) c.loop-path.yielded_by c.in-None.is c.next.ensures.steps).0 in
    let paths = through_all c.loop-path.yielded ∙ ap (map (λ e. e.0.items)) all in
    subst (λ (l : List (List ℕ)). IsEmitted bytes t (turns ++ turns_at bytes t saved l) (provenances ++ provenances_at saved l) c.loop-path.emitted) paths (c.loop-path.invariant.so_far bytes t turns provenances before)
