-- Merging two sets of pairs of one choice.
use Rattle.std.proofs.Common.{◌≡◌, ℕ, suc, ◌+◌, ◌<◌, ◌⊎◌, inl, inr, List, [], ◌∷◌, ◌++◌, length, get_or, Contains, refl, sym, ap, ◌∙◌, subst, arith}
use Rattle.std.proofs.lemmas.Bool.{cases_lt}
use Rattle.std.proofs.lemmas.List.{get_or_default}
use Rattle.std.proofs.lemmas.List.Elements.{All-contains, Contains-get_or, Contains-push, Contains-push_cases, Contains-append_left}
use Rattle.std.proofs.lemmas.List.Quantifiers.{all_pairs_push}
use Rattle.ips_refute.specs.declared.nogoods.Pair.{Pair}
use Rattle.ips_refute.specs.Meaning.{Ascends, IsSubset}
use Rattle.ips_refute.proofs.Checks.{contains_more, contains_rest}
use Rattle.ips_search.specs.Merging.{IsBefore, IsLeast, IsUnion}

-- what was merged so far, and what is left of both sets
pub record Merging (whole first second left right set : List Pair) : Type 0 where
  pub left_up : Ascends left
  pub right_up : Ascends right
  pub set_up : Ascends set
  pub left_in : (p : Pair) → Contains left p → Contains whole p
  pub right_in : (p : Pair) → Contains right p → Contains whole p
  pub set_in : (p : Pair) → Contains set p → Contains whole p
  pub left_above : (p q : Pair) → Contains left p → Contains set q → q.stem < p.stem
  pub right_above : (p q : Pair) → Contains right p → Contains set q → q.stem < p.stem
  pub first_done : (p : Pair) → Contains first p → Contains set p ⊎ Contains left p
  pub second_done : (p : Pair) → Contains second p → Contains set p ⊎ Contains right p

-- the pair is taken from the front of a set, or stands before it
record Advances (q : Pair) (left more : List Pair) : Type 0 where
  up : Ascends more
  inside : (p : Pair) → Contains more p → Contains left p
  above : (p : Pair) → Contains more p → q.stem < p.stem
  left_over : (p : Pair) → Contains left p → (p ≡ q) ⊎ Contains more p

within_all : (few many : List Pair) → IsSubset few many → (p : Pair) → Contains few p → Contains many p
within_all few many w p h = All-contains (λ q. Contains many q) few p w h

all_within : (few many : List Pair) → ((p : Pair) → Contains few p → Contains many p) → IsSubset few many
all_within few many f k d l = f (get_or few k d) (Contains-get_or few k d l)

in_none : (p : Pair) → Contains [] p → ⊥
in_none p (k, l, e) = omega arith

Ascends-tail : (q : Pair) (more : List Pair) → Ascends (q ∷ more) → Ascends more
Ascends-tail q more up i j d l h = up (suc i) (suc j) d (omega arith) (omega arith)

above_front : (q : Pair) (more : List Pair) → Ascends (q ∷ more) → (p : Pair) → Contains more p → q.stem < p.stem
above_front q more up p (k, l, e) = let lt = up 0 (suc k) p (omega arith) (omega arith) in let es = ap (λ (x : Pair). x.stem) e in omega (arith, lt, es)

behind_front : (q : Pair) (more : List Pair) → Ascends (q ∷ more) → Advances q (q ∷ more) more
behind_front q more up = record {
  up = Ascends-tail q more up;
  inside = λ p h. contains_rest p q more h;
  above = above_front q more up;
  left_over = λ p h. elim (contains_more p q more h) [ inl e ↦ inl (sym e) | inr r ↦ inr r ];
}

before_all : (q : Pair) (set : List Pair) → IsBefore q.stem set → Ascends set → Advances q set set
before_all q [] b up = record { up = up; inside = λ p h. h; above = λ p h. absurd (in_none p h); left_over = λ p h. inr h }
before_all q (x ∷ set) b up = record {
  up = up;
  inside = λ p h. h;
  above = λ p h. elim (contains_more p x set h) [
    | inl e ↦ let es = ap (λ (y : Pair). y.stem) e in omega (arith, b, es)
    | inr r ↦ let lt = above_front x set up p r in omega (arith, b, lt)
  ];
  left_over = λ p h. inr h;
}

other_default : (whole : List Pair) (j : ℕ) (p q : Pair) → j < length whole → get_or whole j p ≡ get_or whole j q
other_default whole j p q l = get_or_default whole j p q l

one_of_stem : (whole : List Pair) (p q : Pair) → Ascends whole → Contains whole p → Contains whole q → p.stem ≡ q.stem → p ≡ q
one_of_stem whole p q up (i, li, ei) (j, lj, ej) e =
    let pi = ap (λ (x : Pair). x.stem) ei in
    let qj = ap (λ (x : Pair). x.stem) ej in
    elim (cases_lt i j) [
      | inl lt ↦ absurd (let h = up i j p lt lj in let d = ap (λ (x : Pair). x.stem) (other_default whole j p q lj) in omega (arith, h, pi, qj, e, d))
      | inr ge ↦ elim (cases_lt j i) [
        | inl lt ↦ absurd (let h = up j i q lt li in let d = ap (λ (x : Pair). x.stem) (other_default whole i q p li) in omega (arith, h, pi, qj, e, d))
        | inr le ↦
            let same : i ≡ j = omega arith in
            sym ei ∙ ap (λ k. get_or whole k p) same ∙ other_default whole j p q lj ∙ ej
      ]
    ]

push_pair : (whole first second left right set : List Pair) (q : Pair) (more rest : List Pair) → Merging whole first second left right set → Contains whole q → ((p : Pair) → Contains set p → p.stem < q.stem)
    → Advances q left more → Advances q right rest → Merging whole first second more rest (set ++ q ∷ [])
push_pair whole first second left right set q more rest h in_whole above a b =
    let pushed : (p : Pair) → Contains set p → Contains (set ++ q ∷ []) p = λ p s. Contains-append_left set (q ∷ []) p s in
    let taken : (p : Pair) → p ≡ q → Contains (set ++ q ∷ []) p = λ p e. subst (λ (x : Pair). Contains (set ++ q ∷ []) x) (sym e) (Contains-push set q) in
    record {
      left_up = a.up;
      right_up = b.up;
      set_up = all_pairs_push (λ p x. p.stem < x.stem) set q h.set_up (λ k d l. above (get_or set k d) (Contains-get_or set k d l));
      left_in = λ p c. h.left_in p (a.inside p c);
      right_in = λ p c. h.right_in p (b.inside p c);
      set_in = λ p c. elim (Contains-push_cases set q p c) [ inl s ↦ h.set_in p s | inr e ↦ subst (λ (x : Pair). Contains whole x) e in_whole ];
      left_above = λ p x c d. elim (Contains-push_cases set q x d) [
        | inl s ↦ h.left_above p x (a.inside p c) s
        | inr e ↦ let lt = a.above p c in let es = ap (λ (y : Pair). y.stem) e in omega (arith, lt, es)
      ];
      right_above = λ p x c d. elim (Contains-push_cases set q x d) [
        | inl s ↦ h.right_above p x (b.inside p c) s
        | inr e ↦ let lt = b.above p c in let es = ap (λ (y : Pair). y.stem) e in omega (arith, lt, es)
      ];
      first_done = λ p c. elim (h.first_done p c) [
        | inl s ↦ inl (pushed p s)
        | inr l ↦ elim (a.left_over p l) [ inl e ↦ inl (taken p e) | inr m ↦ inr m ]
      ];
      second_done = λ p c. elim (h.second_done p c) [
        | inl s ↦ inl (pushed p s)
        | inr r ↦ elim (b.left_over p r) [ inl e ↦ inl (taken p e) | inr m ↦ inr m ]
      ];
    }

front_in : (q : Pair) (more : List Pair) → Contains (q ∷ more) q
front_in q more = (0, omega arith, refl)

pub merge_none : (whole first second set : List Pair) → set ≡ [] → Ascends first → Ascends second → IsSubset first whole → IsSubset second whole → Merging whole first second first second set
merge_none whole first second set e up1 up2 w1 w2 =
    let nothing : (p : Pair) → Contains set p → ⊥ = λ p c. in_none p (subst (λ (s : List Pair). Contains s p) e c) in
    record {
      left_up = up1;
      right_up = up2;
      set_up = subst (λ (s : List Pair). Ascends s) (sym e) (λ i j d l h. absurd (omega arith));
      left_in = within_all first whole w1;
      right_in = within_all second whole w2;
      set_in = λ p c. absurd (nothing p c);
      left_above = λ p q c d. absurd (nothing q d);
      right_above = λ p q c d. absurd (nothing q d);
      first_done = λ p c. inr c;
      second_done = λ p c. inr c;
    }

pub merge_least : (whole first second left right set : List Pair) (q : Pair) (more rest : List Pair) → Ascends whole → Merging whole first second left right set → IsLeast left right q more rest → Merging whole first second more rest (set ++ q ∷ [])
merge_least whole first second left right set q more rest up h (inl (e, f, b)) =
    let g = subst (λ (l : List Pair). Merging whole first second l right set) e h in
    push_pair whole first second (q ∷ more) right set q more rest g (g.left_in q (front_in q more)) (λ p c. g.left_above q p (front_in q more) c)
    (behind_front q more g.left_up) (subst (λ (l : List Pair). Advances q right l) f (before_all q right b g.right_up))
merge_least whole first second left right set q more rest up h (inr (inl (e, f, b))) =
    let g = subst (λ (l : List Pair). Merging whole first second left l set) e h in
    push_pair whole first second left (q ∷ rest) set q more rest g (g.right_in q (front_in q rest)) (λ p c. g.right_above q p (front_in q rest) c)
    (subst (λ (l : List Pair). Advances q left l) f (before_all q left b g.left_up)) (behind_front q rest g.right_up)
merge_least whole first second left right set q more rest up h (inr (inr both)) =
    let g1 = subst (λ (l : List Pair). Merging whole first second l right set) both.first h in
    let g = subst (λ (l : List Pair). Merging whole first second (q ∷ more) l set) both.second g1 in
    let same : both.other ≡ q = one_of_stem whole both.other q up (g.right_in both.other (front_in both.other rest)) (g.left_in q (front_in q more)) both.stem in
    let k = subst (λ (x : Pair). Merging whole first second (q ∷ more) (x ∷ rest) set) same g in
    push_pair whole first second (q ∷ more) (q ∷ rest) set q more rest k (k.left_in q (front_in q more)) (λ p c. k.left_above q p (front_in q more) c)
    (behind_front q more k.left_up) (behind_front q rest k.right_up)

pub merge_all : (whole first second left right set : List Pair) → left ≡ [] → right ≡ [] → Merging whole first second left right set → IsUnion whole first second set
merge_all whole first second left right set e f h =
    record {
      has_first = all_within first set (λ p c. elim (h.first_done p c) [ inl s ↦ s | inr l ↦ absurd (in_none p (subst (λ (x : List Pair). Contains x p) e l)) ]);
      has_second = all_within second set (λ p c. elim (h.second_done p c) [ inl s ↦ s | inr l ↦ absurd (in_none p (subst (λ (x : List Pair). Contains x p) f l)) ]);
      inside = all_within set whole h.set_in;
      ascends = h.set_up;
    }

pub least_shorter : (left right : List Pair) (q : Pair) (more rest : List Pair) → IsLeast left right q more rest → length more + length rest < length left + length right
least_shorter left right q more rest (inl (e, f, b)) = omega (arith, ap length e, ap length f)
least_shorter left right q more rest (inr (inl (e, f, b))) = omega (arith, ap length e, ap length f)
least_shorter left right q more rest (inr (inr both)) = omega (arith, ap length both.first, ap length both.second)
