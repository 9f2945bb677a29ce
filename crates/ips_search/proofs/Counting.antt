-- How many beginnings stand before a place in the search.
use Rattle.std.proofs.Common.{◌≡◌, ℕ, zero, suc, ◌+◌, ◌<◌, ◌≤◌, inl, inr, false, ◌||◌, List, [], ◌∷◌, ◌++◌, length, slice_index, take, Option, refl, sym, ap, ◌∙◌, subst, arith, append_assoc, append-nil, length-append, add-one, ◌-◌}
use Rattle.std.proofs.lemmas.Bool.{cond-false, cases_lt}
use Rattle.std.proofs.lemmas.List.{length_push}
use Rattle.ips_refute.specs.declared.nogoods.Pair.{Pair}
use Rattle.ips_refute.specs.Meaning.{Meaning, pairs}
use Rattle.ips_search.specs.Beginnings.{is_late, breaks_below, own, sum_below, beginnings_from, beginnings}
use Rattle.ips_search.specs.Searching.{passed}

abbrev pub Passes : Meaning → Option (List ℕ) → List ℕ → Type 0
Passes m best p = (breaks_below m (pairs p) m.tests || is_late best p) ≡ false

-- the numbers before this place all pass, and each is offered
abbrev pub IsOpen : Meaning → Option (List ℕ) → List ℕ → List ℕ → Type 0
IsOpen m best p q = (j : ℕ) → j < length q → Passes m best (p ++ take j q) × (slice_index q j < m.candidates (length (p ++ take j q)))

pub breaks_none : (m : Meaning) (set : List Pair) (n : ℕ) → ((t : ℕ) → t < n → m.breaks t set ≡ false) → breaks_below m set n ≡ false
breaks_none m set zero h = refl
breaks_none m set (suc n) h = ap (λ z. z || breaks_below m set n) (h n (omega arith)) ∙ breaks_none m set n (λ t l. h t (omega arith))

pub sum_below-le : (f : ℕ → ℕ) (c n : ℕ) → c < n → sum_below f c + f c ≤ sum_below f n
sum_below-le f c zero h = absurd (omega arith)
sum_below-le f c (suc n) h = elim (cases_lt c n) [
  | inl l ↦ let r = sum_below-le f c n l in omega (arith, r)
  | inr g ↦ let e : c ≡ n = omega arith in subst (λ k. sum_below f k + f k ≤ sum_below f n + f n) (sym e) (omega arith)
]

pub sum_below-upto : (f : ℕ → ℕ) (c n : ℕ) → c ≤ n → sum_below f c ≤ sum_below f n
sum_below-upto f c zero h = let e : c ≡ 0 = omega arith in subst (λ k. sum_below f k ≤ 0) (sym e) (omega arith)
sum_below-upto f c (suc n) h = elim (cases_lt c (suc n)) [
  | inl l ↦ let r = sum_below-upto f c n (omega arith) in omega (arith, r)
  | inr g ↦ let e : c ≡ suc n = omega arith in subst (λ k. sum_below f k ≤ sum_below f n + f n) (sym e) (omega arith)
]

pub beginnings_at : (m : Meaning) (best : Option (List ℕ)) (left : ℕ) (p : List ℕ) → Passes m best p → beginnings_from m best (suc left) p ≡ own p + sum_below (λ c. beginnings_from m best left (p ++ c ∷ [])) (m.candidates (length p))
unfolding beginnings_from
beginnings_at m best left p h = cond-false _ _ _ h

pub own_counts : (m : Meaning) (best : Option (List ℕ)) (left : ℕ) (p : List ℕ) → Passes m best p → own p ≤ beginnings_from m best left p
unfolding beginnings_from
own_counts m best zero p h = let e : beginnings_from m best zero p ≡ own p = cond-false _ _ _ h in omega (arith, e)
own_counts m best (suc left) p h = omega (arith, beginnings_at m best left p h)

pub own-push : (p : List ℕ) (c : ℕ) → own (p ++ c ∷ []) ≡ 1
own-push [] c = refl
own-push (a ∷ p) c = refl

pub passed-append : (m : Meaning) (best : Option (List ℕ)) (n l : ℕ) (p q r : List ℕ) → n ≡ length q + l → passed m best n p (q ++ r) ≡ passed m best n p q + passed m best l (p ++ q) r
passed-append m best n l p [] r e =
    let e' : n ≡ l = omega arith in
    subst (λ k. passed m best n p r ≡ 0 + passed m best k (p ++ []) r) e'
    (subst (λ (s : List ℕ). passed m best n p r ≡ 0 + passed m best n s r) (sym (append-nil p)) (omega arith))
passed-append m best zero l p (c ∷ q) r e = absurd (omega arith)
passed-append m best (suc n) l p (c ∷ q) r e =
    let step = passed-append m best n l (p ++ c ∷ []) q r (omega arith) in
    let same : passed m best l ((p ++ c ∷ []) ++ q) r ≡ passed m best l (p ++ (c ∷ q)) r = ap (λ s. passed m best l s r) (append_assoc p (c ∷ []) q) in
    omega (arith, step, same)

pub passed-le : (m : Meaning) (best : Option (List ℕ)) (n l : ℕ) (p q : List ℕ) → n ≡ length q + l → IsOpen m best p q → passed m best n p q + beginnings_from m best l (p ++ q) ≤ beginnings_from m best n p
passed-le m best n l p [] e open_ =
    let e' : l ≡ n = omega arith in
    let same : beginnings_from m best l (p ++ []) ≡ beginnings_from m best n p = ap (λ s. beginnings_from m best l s) (append-nil p) ∙ ap (λ k. beginnings_from m best k p) e' in
    omega (arith, same)
passed-le m best zero l p (c ∷ q) e open_ = absurd (omega arith)
passed-le m best (suc n) l p (c ∷ q) e open_ =
    let here = open_ 0 (omega arith) in
    let nil = append-nil p in
    let passes = subst (λ (s : List ℕ). Passes m best s) nil here.0 in
    let offered : c < m.candidates (length p) = subst (λ (s : List ℕ). c < m.candidates (length s)) nil here.1 in
    let deeper : IsOpen m best (p ++ c ∷ []) q = λ j h.
    subst (λ (s : List ℕ). Passes m best s × (slice_index q j < m.candidates (length s))) (sym (append_assoc p (c ∷ []) (take j q))) (open_ (suc j) (omega arith)) in
    let step = passed-le m best n l (p ++ c ∷ []) q (omega arith) deeper in
    let same : beginnings_from m best l ((p ++ c ∷ []) ++ q) ≡ beginnings_from m best l (p ++ (c ∷ q)) = ap (λ s. beginnings_from m best l s) (append_assoc p (c ∷ []) q) in
    let sums = sum_below-le (λ x. beginnings_from m best n (p ++ x ∷ [])) c (m.candidates (length p)) offered in
    omega (arith, step, same, sums, beginnings_at m best n p passes)

pub IsOpen-split : (m : Meaning) (best : Option (List ℕ)) (p q r : List ℕ) → IsOpen m best p (q ++ r) → IsOpen m best (p ++ q) r
IsOpen-split m best p [] r h = subst (λ (s : List ℕ). IsOpen m best s r) (sym (append-nil p)) h
IsOpen-split m best p (c ∷ q) r h =
    let deeper : IsOpen m best (p ++ c ∷ []) (q ++ r) = λ j l.
    subst (λ (s : List ℕ). Passes m best s × (slice_index (q ++ r) j < m.candidates (length s))) (sym (append_assoc p (c ∷ []) (take j (q ++ r)))) (h (suc j) (omega arith)) in
    subst (λ (s : List ℕ). IsOpen m best s r) (append_assoc p (c ∷ []) q) (IsOpen-split m best (p ++ c ∷ []) q r deeper)

-- the place at candidate c of the stem behind p
pub passed-at : (m : Meaning) (best : Option (List ℕ)) (n l : ℕ) (p : List ℕ) (c : ℕ) → n ≡ length p + suc l → passed m best n [] (p ++ c ∷ []) ≡ passed m best n [] p + (own p + sum_below (λ x. beginnings_from m best l (p ++ x ∷ [])) c)
passed-at m best n l p c e = let step = passed-append m best n (suc l) [] p (c ∷ []) e in omega (arith, step)

pub passed-next : (m : Meaning) (best : Option (List ℕ)) (n : ℕ) (p : List ℕ) (c : ℕ) → length p < n → passed m best n [] (p ++ c ∷ []) ≤ passed m best n [] (p ++ (c + 1) ∷ [])
passed-next m best n p c h =
    let l = n - length p - 1 in
    let e : n ≡ length p + suc l = omega arith in
    let one : c + 1 ≡ suc c = add-one c in
    let this = passed-at m best n l p c e in
    let then = passed-at m best n l p (suc c) e in
    let f : ℕ → ℕ = λ x. beginnings_from m best l (p ++ x ∷ []) in
    subst (λ (k : ℕ). passed m best n [] (p ++ c ∷ []) ≤ passed m best n [] (p ++ k ∷ [])) (sym one) (omega (arith, this, then))

pub passed-down : (m : Meaning) (best : Option (List ℕ)) (n : ℕ) (p : List ℕ) → length p ≤ n → passed m best n [] (p ++ 0 ∷ []) ≡ passed m best n [] p + own p
passed-down m best n p h =
    elim (cases_lt (length p) n) [
      | inl lt ↦ let step = passed-at m best n (n - length p - 1) p 0 (omega arith) in omega (arith, step)
      | inr ge ↦ let step = passed-append m best n 0 [] p (0 ∷ []) (omega arith) in omega (arith, step)
    ]

-- back to the stem behind p, whose candidate d is done with
pub passed-back : (m : Meaning) (best : Option (List ℕ)) (n : ℕ) (p : List ℕ) (d : ℕ) (r : List ℕ) (c : ℕ)
    → length ((p ++ d ∷ []) ++ r) < n → IsOpen m best [] ((p ++ d ∷ []) ++ r) → Passes m best ((p ++ d ∷ []) ++ r) → c ≤ m.candidates (length ((p ++ d ∷ []) ++ r))
    → passed m best n [] (((p ++ d ∷ []) ++ r) ++ c ∷ []) ≤ passed m best n [] (p ++ (d + 1) ∷ [])
passed-back m best n p d r c h open_ passes le =
    let q : List ℕ = p ++ d ∷ [] in
    let whole : List ℕ = q ++ r in
    let lq : length q ≡ length p + 1 = length_push p d in
    let lw : length whole ≡ length q + length r = length-append q r in
    let l = n - length whole - 1 in
    let k = n - length p - 1 in
    let this = passed-at m best n l whole c (omega arith) in
    let full = beginnings_at m best l whole passes in
    let sums = sum_below-upto (λ x. beginnings_from m best l (whole ++ x ∷ [])) c (m.candidates (length whole)) le in
    let split = passed-append m best n k [] q r (omega arith) in
    let inner = passed-le m best k (suc l) q r (omega arith) (IsOpen-split m best [] q r open_) in
    let at_d = passed-at m best n k p d (omega arith) in
    let then = passed-at m best n k p (suc d) (omega arith) in
    subst (λ (x : ℕ). passed m best n [] (whole ++ c ∷ []) ≤ passed m best n [] (p ++ x ∷ [])) (sym (add-one d)) (omega (arith, this, full, sums, split, inner, at_d, then))

-- one more beginning than were counted
pub passed-spent : (m : Meaning) (best : Option (List ℕ)) (p : List ℕ) (c count : ℕ) → length (p ++ c ∷ []) ≤ m.stems → IsOpen m best [] (p ++ c ∷ []) → Passes m best (p ++ c ∷ []) → count ≤ passed m best m.stems [] (p ++ c ∷ []) → count < beginnings m best
passed-spent m best p c count h open_ passes le =
    let q : List ℕ = p ++ c ∷ [] in
    let all = passed-le m best m.stems (m.stems - length q) [] q (omega arith) open_ in
    let one = own_counts m best (m.stems - length q) q passes in
    omega (arith, all, one, own-push p c)
