-- The stems in reach are one list.
use Rattle.std.proofs.Common.{◌≡◌, ℕ, zero, suc, ◌<◌, ◌≤◌, List, [], ◌++◌, flat_map, take, drop, length, refl, sym, ap, ◌∙◌, inl, inr, arith, append_assoc}
use Rattle.std.proofs.lemmas.Bool.{cases_lt}
use Rattle.std.proofs.lemmas.List.{take_all, take-append-drop}
use Rattle.std.proofs.lemmas.List.Concat.{flat_map-append}
use Rattle.ips_request.specs.Stems.{firsts, put_all}
use Rattle.ips_request.specs.Case.{Case}
use Rattle.ips_request.proofs.Lookups.{put_all_append}
use Rattle.ips_problem.specs.Reach.{drawn_in, grown, seeds, IsReach}
use Rattle.ips_problem.proofs.Growth.{put_prefix}

-- once some stems were gone through, what the others draw in is put behind
grows_on : (c : Case) (a : List (List ℕ)) (k : ℕ) → IsReach c a → a ≡ put_all (grown c a k) (flat_map (drawn_in c) (drop k a))
grows_on c a k r =
    let before = flat_map (drawn_in c) (take k a) in
    let behind = flat_map (drawn_in c) (drop k a) in
    r.whole
    ∙ ap (λ ss. firsts (seeds c ++ flat_map (drawn_in c) ss)) (take_all (length a) a (omega arith) ∙ sym (take-append-drop k a))
    ∙ ap (λ ds. firsts (seeds c ++ ds)) (flat_map-append (drawn_in c) (take k a) (drop k a))
    ∙ ap firsts (sym (append_assoc (seeds c) before behind))
    ∙ put_all_append [] (seeds c ++ before) behind

-- so the list at any time is a front of the whole
front : (c : Case) (a : List (List ℕ)) (k j : ℕ) → IsReach c a → j ≤ length (grown c a k) → take j a ≡ take j (grown c a k)
front c a k j r l = ap (take j) (grows_on c a k r) ∙ put_prefix j (grown c a k) (flat_map (drawn_in c) (drop k a)) l

-- two lists begin with the same stems
begin_alike : (c : Case) (a b : List (List ℕ)) (k : ℕ) → IsReach c a → IsReach c b → k ≤ length a → k ≤ length b → take k a ≡ take k b
begin_alike c a b zero r s l m = refl
begin_alike c a b (suc k) r s l m =
    let before = begin_alike c a b k r s (omega arith) (omega arith) in
    let here = r.before_turn k (omega arith) in
    let there = s.before_turn k (omega arith) in
    front c a k (suc k) r (omega arith)
    ∙ ap (λ ss. take (suc k) (firsts (seeds c ++ flat_map (drawn_in c) ss))) before
    ∙ sym (front c b k (suc k) s (omega arith))

-- neither ends before the other
as_long : (c : Case) (a b : List (List ℕ)) → IsReach c a → IsReach c b → length a < length b → ⊥
as_long c a b r s l =
    let before = begin_alike c a b (length a) r s (omega arith) (omega arith) in
    let same = ap (λ ss. firsts (seeds c ++ flat_map (drawn_in c) ss)) before in
    let long = s.before_turn (length a) l in
    let short = ap (λ (ss : List (List ℕ)). length ss) (r.whole ∙ same) in
    omega arith

-- there is one list of the stems in reach
pub one_reach : (c : Case) (a b : List (List ℕ)) → IsReach c a → IsReach c b → a ≡ b
one_reach c a b r s = elim (cases_lt (length a) (length b)) [
  | inl h ↦ absurd (as_long c a b r s h)
  | inr f ↦ elim (cases_lt (length b) (length a)) [
    | inl h ↦ absurd (as_long c b a s r h)
    | inr g ↦ sym (take_all (length a) a (omega arith)) ∙ begin_alike c a b (length a) r s (omega arith) (omega arith) ∙ take_all (length a) b (omega arith)
  ]
]
