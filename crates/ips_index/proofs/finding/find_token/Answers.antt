use Rattle.std.proofs.Common.{◌≡◌, ◌∙◌, ap, subst, sym, List, ℕ, [], ◌∷◌, ◌++◌, map, Bor, true, false, not}
use Rattle.std.specs.List.{AllByRecursion}
use Rattle.std.specs.Map.Iter.{deref}
use Rattle.std.proofs.lemmas.List.{map-append}
use Rattle.std.proofs.lemmas.Map.Iter.{iter_end, rest_so_far, rest_more}
use Rattle.ips_text.proofs.Lists.{all_append}
use Rattle.ips_action.specs.Attrs.{is_same}
use Rattle.ips_index.specs.Rows.{IndexedValue, row_seen}
use Rattle.ips_index.specs.Scan.{AreFound}
use Rattle.ips_index.proofs.Plain.{token_stopped, token_ended, told_apart, told_same}
use Rattle.ips_index.proofs.finding.find_token.Goals as goal

pub returns-then-ne : goal.returns-then-ne
returns-then-ne c =
    let p = c.args.token.now in
    let seen : List IndexedValue = map (λ (b : Bor IndexedValue). b.now) c.loop-row.yielded in
    let row : IndexedValue = c.in-Some.row.now in
    let rest : List IndexedValue = c.next.new.self in
    let parts : c.range-row-items.result ≡ seen ++ row ∷ rest =
    sym c.into_iter-row-iterator.ensures.into_iter_gives ∙ rest_so_far deref c.loop-row.yielded _ _ c.loop-row.yielded_by ∙ ap (λ (l : List IndexedValue). seen ++ l) (rest_more deref _ _ _ c.in-Some.row c.in-Some.is c.next.ensures.steps) in
    let differs : row.token ≡ p → ⊥ = told_apart row.token p (subst (λ (t : List ℕ). true ≡ not (is_same t p)) c.token.ensures c.if-ne.ensures) in
    subst (λ (l : List IndexedValue). AreFound p c.args.rows.now.keys l) (sym c.loop-row.invariant.0)
    (token_stopped p c.args.rows.now.keys c.range-row-items.result seen rest c.in_ok-start.start row c.requires.plain c.utf8.token c.requires.named c.in_ok-start.ensures.token c.in_ok-start.ensures.index (c.range-row-items.ensures.between tt) c.range-row-items.ensures.ordered parts c.loop-row.invariant.1 differs)

pub loop-row-preserved : goal.loop-row-preserved
loop-row-preserved c =
    let seen : List IndexedValue = map (λ (b : Bor IndexedValue). b.now) c.loop-row.yielded in
    let row : IndexedValue = c.in-Some.row.now in
    let front = map-append (λ (b : Bor IndexedValue). b.now) c.loop-row.yielded (c.in-Some.row ∷ []) in (
      ap (map row_seen) c.in_ok-push.ensures.items ∙ map-append row_seen c.loop-row.found.items (c.in_ok-row.field-0 ∷ []) ∙ ap (λ (r : IndexedValue). map row_seen c.loop-row.found.items ++ r ∷ []) c.in_ok-row.ensures ∙ ap (λ (l : List IndexedValue). l ++ row ∷ []) c.loop-row.invariant.0 ∙ sym front,
      subst (λ (l : List IndexedValue). AllByRecursion (λ (r : IndexedValue). r.token ≡ c.args.token.now) l) (sym front) (all_append (λ (r : IndexedValue). r.token ≡ c.args.token.now) seen (row ∷ []) c.loop-row.invariant.1 (told_same row.token c.args.token.now (subst (λ (t : List ℕ). false ≡ not (is_same t c.args.token.now)) c.token.ensures c.if-ne.ensures), tt)),
    )

pub returns : goal.returns
returns c =
    let p = c.args.token.now in
    let seen : List IndexedValue = map (λ (b : Bor IndexedValue). b.now) c.loop-row.yielded in
    let all : seen ≡ c.range-row-items.result = (iter_end deref _ _ _ _ _ _ c.into_iter-row-iterator.ensures.into_iter_gives c.loop-row.yielded_by c.in-None.is c.next.ensures.steps).0 in
    subst (λ (l : List IndexedValue). AreFound p c.args.rows.now.keys l) (sym c.loop-row.invariant.0)
    (token_ended p c.args.rows.now.keys c.range-row-items.result seen c.in_ok-start.start c.requires.plain c.utf8.token c.requires.named c.in_ok-start.ensures.token c.in_ok-start.ensures.index (c.range-row-items.ensures.between tt) c.range-row-items.ensures.ordered all c.loop-row.invariant.1)
