use Rattle.std.proofs.Common.{◌≡◌, ◌∙◌, ap, subst, sym, List, ℕ, [], ◌∷◌, ◌++◌, map, Bor, true}
use Rattle.std.specs.Prelude.{◌↔◌, IsTrue}
use Rattle.std.specs.Str.{chars}
use Rattle.std.specs.Map.Iter.{deref}
use Rattle.std.proofs.lemmas.List.{map-append}
use Rattle.std.proofs.lemmas.Map.Iter.{iter_end}
use Rattle.ips_fmri.specs.Pattern.{MatchesStem}
use Rattle.ips_index.specs.Rows.{IndexedValue, row_seen}
use Rattle.ips_index.proofs.Picked.{Picks, picks_none, picks_more, picks_past}
use Rattle.ips_index.proofs.Found.{Meets, matched, unmatched, found_all}
use Rattle.ips_index.proofs.finding.find_all.Goals as goal

pub loop-row-init : goal.loop-row-init
loop-row-init c = picks_none _ (map row_seen c.new-found.result.items) (ap (map row_seen) c.new-found.ensures.items)

pub loop-row-preserved-in_ok-push : goal.loop-row-preserved-in_ok-push
loop-row-preserved-in_ok-push c =
    let P = Meets c.args.pattern.now in
    let seen : List IndexedValue = map (λ (b : Bor IndexedValue). b.now) c.loop-row.yielded in
    let row : IndexedValue = c.in-Some.row.now in
    let said = subst (λ (t : List ℕ). IsTrue c.matches_stem.result ↔ MatchesStem true (chars c.args.pattern.now) (chars t)) c.token.ensures c.matches_stem.ensures in
    let more = picks_more P seen (map row_seen c.loop-row.found.items) row (matched _ (chars c.args.pattern.now) (chars row.token) said c.if-matches_stem.true) c.loop-row.invariant in
    subst (λ (l : List IndexedValue). Picks P l (map row_seen c.push.new.self.items)) (sym (map-append (λ (b : Bor IndexedValue). b.now) c.loop-row.yielded (c.in-Some.row ∷ [])))
    (subst (λ (l : List IndexedValue). Picks P (seen ++ row ∷ []) l) (sym (ap (map row_seen) c.in_ok-push.ensures.items ∙ map-append row_seen c.loop-row.found.items (c.in_ok-row.field-0 ∷ []) ∙ ap (λ (r : IndexedValue). map row_seen c.loop-row.found.items ++ r ∷ []) c.in_ok-row.ensures)) more)

pub loop-row-preserved : goal.loop-row-preserved
loop-row-preserved c =
    let P = Meets c.args.pattern.now in
    let seen : List IndexedValue = map (λ (b : Bor IndexedValue). b.now) c.loop-row.yielded in
    let row : IndexedValue = c.in-Some.row.now in
    let said = subst (λ (t : List ℕ). IsTrue c.matches_stem.result ↔ MatchesStem true (chars c.args.pattern.now) (chars t)) c.token.ensures c.matches_stem.ensures in
    subst (λ (l : List IndexedValue). Picks P l (map row_seen c.loop-row.found.items)) (sym (map-append (λ (b : Bor IndexedValue). b.now) c.loop-row.yielded (c.in-Some.row ∷ [])))
    (picks_past P seen (map row_seen c.loop-row.found.items) row (unmatched _ (chars c.args.pattern.now) (chars row.token) said c.if-matches_stem.false) c.loop-row.invariant)

pub returns : goal.returns
returns c =
    let all : map (λ (b : Bor IndexedValue). b.now) c.loop-row.yielded ≡ c.args.rows.now.keys = (iter_end deref _ _ _ _ _ _ c.into_iter-row-iterator.ensures.into_iter_gives.0 c.loop-row.yielded_by c.in-None.is c.next.ensures.steps).0 in
    found_all c.args.pattern.now (map (λ (b : Bor IndexedValue). b.now) c.loop-row.yielded) c.args.rows.now.keys (map row_seen c.loop-row.found.items) all c.loop-row.invariant c.into_iter-row-iterator.ensures.into_iter_gives.4
