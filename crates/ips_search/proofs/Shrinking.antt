-- Leaving pairs out of a set that breaks a test.
use Rattle.std.proofs.Common.{◌≡◌, ℕ, zero, suc, ◌+◌, ◌-◌, ◌<◌, ◌≤◌, ◌≢◌, inl, inr, true, List, [], ◌∷◌, ◌++◌, length, get_or, take, All, Contains, refl, sym, ap, ◌∙◌, subst, arith, length-append, length-take-le, get_or-take, take_all, append_assoc, append-nil}
use Rattle.std.proofs.lemmas.Bool.{cases_lt}
use Rattle.std.proofs.lemmas.List.{length_push, get_or_append_left, get_or-append_right, take_more, get_or_default, take_at}
use Rattle.std.proofs.lemmas.List.Elements.{All-contains, All-append, All-cons, Contains-get_or}
use Rattle.ips_refute.specs.declared.nogoods.Pair.{Pair}
use Rattle.ips_refute.specs.declared.nogoods.Nogood.{Nogood}
use Rattle.ips_refute.specs.declared.nogoods.Reason.TheVariants.{Test}
use Rattle.ips_refute.specs.Meaning.{Meaning, Ascends, IsSubset, OnePerStem, IsOffered}
use Rattle.std.proofs.Common.{Some, slice_get, Bool, ◌&&◌, eqb, eqb-true}
use Rattle.std.proofs.lemmas.Bool.{and_parts}
use Rattle.std.proofs.lemmas.List.{nil_from_length}
use Rattle.ips_refute.specs.Laws.{same_pair}
use Rattle.std.proofs.lemmas.Option.{same_Some, none-some}
use Rattle.std.proofs.lemmas.List.Elements.{All-push}
use Rattle.ips_refute.specs.declared.nogoods.Reason.TheVariants.{Earlier}
use Rattle.ips_refute.proofs.Choices.{OnePerStem-cons}
use Rattle.ips_search.specs.Searching.{IsCore, IsKept, HasKept}
use Rattle.ips_refute.proofs.Checks.{Ascends-one}
use Rattle.ips_search.proofs.Walks.{Within-behind}

Ascends-append : (a b : List Pair) → Ascends a → Ascends b → ((i j : ℕ) (d : Pair) → i < length a → j < length b → (get_or a i d).stem < (get_or b j d).stem) → Ascends (a ++ b)
Ascends-append a b up_a up_b across i j d l h =
    let n = length-append a b in
    elim (cases_lt j (length a)) [
      | inl lj ↦
          let ei = ap (λ (q : Pair). q.stem) (get_or_append_left a b d i (omega arith)) in
          let ej = ap (λ (q : Pair). q.stem) (get_or_append_left a b d j lj) in
          let lt = up_a i j d l lj in
          omega (arith, ei, ej, lt)
      | inr gj ↦
          let ej = ap (λ (q : Pair). q.stem) (get_or-append_right a b (length a) j d refl gj) in
          elim (cases_lt i (length a)) [
            | inl li ↦
                let ei = ap (λ (q : Pair). q.stem) (get_or_append_left a b d i li) in
                let lt = across i (j - length a) d li (omega arith) in
                omega (arith, ei, ej, lt)
            | inr gi ↦
                let ei = ap (λ (q : Pair). q.stem) (get_or-append_right a b (length a) i d refl gi) in
                let lt = up_b (i - length a) (j - length a) d (omega arith) (omega arith) in
                omega (arith, ei, ej, lt)
          ]
    ]

pub all_kept : (m : Meaning) (whole : List Pair) (more : Pair) (test n : ℕ) → n ≡ length whole → m.breaks test (more ∷ whole) ≡ true → IsKept m whole more test n []
all_kept m whole more test n e b =
    let same : whole ≡ take n whole ++ [] = sym (append-nil (take n whole) ∙ take_all n whole (omega arith)) in
    record {
      bounded = omega arith;
      inside = λ k d h. absurd (omega arith);
      ascends = λ i j d l h. absurd (omega arith);
      behind = λ k j d e h l. absurd (omega arith);
      broken = subst (λ (s : List Pair). m.breaks test (more ∷ s) ≡ true) same b;
    }

-- a front and the pairs that are kept
pub fewer_inside : (m : Meaning) (whole : List Pair) (more : Pair) (test front n : ℕ) (kept : List Pair) → n ≤ front → IsKept m whole more test front kept → IsSubset (take n whole ++ kept) whole
fewer_inside m whole more test front n kept le h =
    All-append (λ q. Contains whole q) (take n whole) kept
    (λ k d l.
    let lk : k < n = omega (arith, length-take-le n whole (omega (arith, h.bounded))) in
    let e = get_or-take n whole k d lk in
    subst (λ (q : Pair). Contains whole q) (sym e) (Contains-get_or whole k d (omega (arith, h.bounded))))
    h.inside

pub fewer_ascends : (m : Meaning) (whole : List Pair) (more : Pair) (test front n : ℕ) (kept : List Pair) → n ≤ front → Ascends whole → IsKept m whole more test front kept → Ascends (take n whole ++ kept)
fewer_ascends m whole more test front n kept le up h =
    let len : length (take n whole) ≡ n = length-take-le n whole (omega (arith, h.bounded)) in
    Ascends-append (take n whole) kept
    (λ i j d l x.
    let ei = ap (λ (q : Pair). q.stem) (get_or-take n whole i d (omega arith)) in
    let ej = ap (λ (q : Pair). q.stem) (get_or-take n whole j d (omega arith)) in
    let lt = up i j d l (omega (arith, h.bounded)) in
    omega (arith, ei, ej, lt))
    h.ascends
    (λ i j d l x.
    let ei = ap (λ (q : Pair). q.stem) (get_or-take n whole i d (omega arith)) in
    let lt = h.behind j i d d x (omega arith) in
    omega (arith, ei, lt))

pub fewer_offered : (m : Meaning) (whole : List Pair) (more : Pair) (test front n : ℕ) (kept fewer : List Pair) → n ≤ front → All (IsOffered m) (more ∷ whole) → IsKept m whole more test front kept → fewer ≡ take n whole ++ kept → All (IsOffered m) (more ∷ fewer)
fewer_offered m whole more test front n kept fewer le ok h e =
    let rest : All (IsOffered m) whole = λ k d l. ok (suc k) d (omega arith) in
    let P : List Pair → Type 0 = λ s. All (IsOffered m) (more ∷ s) in
    subst P (sym e) (All-cons (IsOffered m) more (take n whole ++ kept) (ok 0 more (omega arith))
    (λ k d l. All-contains (IsOffered m) whole (get_or (take n whole ++ kept) k d) rest (fewer_inside m whole more test front n kept le h k d l)))

pub fewer_one : (m : Meaning) (whole : List Pair) (more : Pair) (test front n : ℕ) (kept fewer : List Pair) → n ≤ front → All (λ q. q.stem ≢ more.stem) whole → Ascends whole → IsKept m whole more test front kept → fewer ≡ take n whole ++ kept → OnePerStem (more ∷ fewer)
fewer_one m whole more test front n kept fewer le free up h e =
    let P : List Pair → Type 0 = λ s. OnePerStem (more ∷ s) in
    subst P (sym e) (OnePerStem-cons more (take n whole ++ kept)
    (λ k d l. All-contains (λ q. q.stem ≢ more.stem) whole (get_or (take n whole ++ kept) k d) free (fewer_inside m whole more test front n kept le h k d l))
    (Ascends-one (take n whole ++ kept) (fewer_ascends m whole more test front n kept le up h)))

-- the test does without the last pair of the front
pub drop_one : (m : Meaning) (whole : List Pair) (more : Pair) (test front n : ℕ) (kept fewer : List Pair) → n ≤ front → IsKept m whole more test front kept → fewer ≡ take n whole ++ kept → m.breaks test (more ∷ fewer) ≡ true → IsKept m whole more test n kept
drop_one m whole more test front n kept fewer le h e b =
    record {
      bounded = omega (arith, h.bounded);
      inside = h.inside;
      ascends = h.ascends;
      behind = λ k j d x l y. h.behind k j d x l (omega arith);
      broken = subst (λ (s : List Pair). m.breaks test (more ∷ s) ≡ true) e b;
    }

-- the test needs it
pub keep_one : (m : Meaning) (whole : List Pair) (more : Pair) (test front n : ℕ) (kept : List Pair) (x : Pair) → front ≡ n + 1 → x ≡ get_or whole n x → Ascends whole → IsKept m whole more test front kept → IsKept m whole more test n (x ∷ kept)
keep_one m whole more test front n kept x e at up h =
    let lt : n < length whole = omega (arith, h.bounded) in
    let same : take front whole ++ kept ≡ take n whole ++ (x ∷ kept) =
    ap (λ k. take k whole ++ kept) e ∙ ap (λ s. s ++ kept) (take_more whole n x lt) ∙ append_assoc (take n whole) (get_or whole n x ∷ []) kept ∙ ap (λ y. take n whole ++ (y ∷ kept)) (sym at) in
    let stem : (d : Pair) → (get_or whole n d).stem ≡ x.stem = λ d. ap (λ (q : Pair). q.stem) (get_or_default whole n d x lt ∙ sym at) in
    record {
      bounded = omega (arith, h.bounded);
      inside = All-cons (λ q. Contains whole q) x kept (n, lt, sym at) h.inside;
      ascends = Ascends-append (x ∷ []) kept (λ i j d l y. absurd (omega arith)) h.ascends (λ i j d l y.
          let zero_i : i ≡ 0 = omega arith in
          let lt2 = h.behind j n d d y (omega arith) in
          let s = stem d in
          let head : (get_or (x ∷ []) i d).stem ≡ x.stem = ap (λ k. (get_or (x ∷ []) k d).stem) zero_i in
          omega (arith, lt2, s, head));
      behind = elim [
        | zero ↦ λ j d y l z. (let r = up j n y z lt in let s = stem y in omega (arith, r, s))
        | suc k ↦ λ j d y l z. h.behind k j d y (omega arith) (omega arith)
      ];
      broken = subst (λ (s : List Pair). m.breaks test (more ∷ s) ≡ true) same h.broken;
    }

pub core_kept : (m : Meaning) (ns : List Nogood) (whole : List Pair) (more : Pair) (test front : ℕ) (kept : List Pair) → test < m.tests → front ≡ 0 → IsKept m whole more test front kept → IsCore m ns whole more (Test test) kept
core_kept m ns whole more test front kept lt e h =
    record { inside = h.inside; ascends = h.ascends; explained = (lt, subst (λ (n : ℕ). m.breaks test (more ∷ (take n whole ++ kept)) ≡ true) e h.broken) }

-- the test is broken with a shorter front
pub shorter : (m : Meaning) (whole : List Pair) (more : Pair) (test front n : ℕ) (kept : List Pair) (b : Bool) → n ≤ front → IsKept m whole more test front kept → b ≡ m.breaks test (more ∷ (take n whole ++ kept)) → b ≡ true → IsKept m whole more test n kept
shorter m whole more test front n kept b le h e t = drop_one m whole more test front n kept (take n whole ++ kept) le h refl (sym e ∙ t)

pub breaks_offered : (m : Meaning) (whole : List Pair) (more : Pair) (test front n : ℕ) (kept : List Pair) → n ≤ front → All (IsOffered m) (more ∷ whole) → IsKept m whole more test front kept → All (IsOffered m) (more ∷ (take n whole ++ kept))
breaks_offered m whole more test front n kept le ok h = fewer_offered m whole more test front n kept (take n whole ++ kept) le ok h refl

pub breaks_one : (m : Meaning) (whole : List Pair) (more : Pair) (test front n : ℕ) (kept : List Pair) → n ≤ front → All (λ q. q.stem ≢ more.stem) whole → Ascends whole → IsKept m whole more test front kept → OnePerStem (more ∷ (take n whole ++ kept))
breaks_one m whole more test front n kept le free up h = fewer_one m whole more test front n kept (take n whole ++ kept) le free up h refl

Ascends-left : (a b : List Pair) → Ascends (a ++ b) → Ascends a
Ascends-left a b up i j d l h =
    let ei = ap (λ (q : Pair). q.stem) (get_or_append_left a b d i (omega arith)) in
    let ej = ap (λ (q : Pair). q.stem) (get_or_append_left a b d j h) in
    let lt = up i j d l (omega (arith, length-append a b)) in
    omega (arith, ei, ej, lt)

pub all_at : {X : Type 0} (P : X → Type 0) (xs : List X) (n : ℕ) (x : X) → All P xs → slice_get xs n ≡ Some x → P x
all_at P [] n x h e = absurd (none-some x e)
all_at P (y ∷ xs) zero x h e = subst P (same_Some y x e) (h 0 y (omega arith))
all_at P (y ∷ xs) (suc n) x h e = all_at P xs n x (λ k d l. h (suc k) d (omega arith)) e

-- the rest of a kept nogood's set
pub kept_is_core : (m : Meaning) (ns : List Nogood) (chosen : List Pair) (more : Pair) (n : ℕ) (core : List Pair) → All (λ g. Ascends g.set.items) ns → HasKept ns chosen more n
    → ((g : Nogood) → slice_get ns n ≡ Some g → core ≡ take (length g.set.items - 1) g.set.items) → IsCore m ns chosen more (Earlier n) core
kept_is_core m ns chosen more n core up (g, at, (rest, parts, within)) is =
    let set = g.set.items in
    let len : length set - 1 ≡ length rest = omega (arith, ap length parts, length_push rest more) in
    let same : core ≡ rest = is g at ∙ ap (λ k. take k set) len ∙ ap (take (length rest)) parts ∙ take_at rest (more ∷ []) (length rest) refl in
    let ascends : Ascends set = all_at (λ (x : Nogood). Ascends x.set.items) ns n g up at in
    let front : Ascends rest = Ascends-left rest (more ∷ []) (subst (λ (s : List Pair). Ascends s) parts ascends) in
    let ending : IsSubset (rest ++ more ∷ []) (more ∷ rest) = All-push (λ q. Contains (more ∷ rest) q) rest more (Within-behind more rest) (0, omega arith, refl) in
    let has : IsSubset set (more ∷ rest) = subst (λ (s : List Pair). IsSubset s (more ∷ rest)) (sym parts) ending in
    let P : List Pair → Type 0 = λ s. IsCore m ns chosen more (Earlier n) s in
    subst P (sym same) (record { inside = within; ascends = front; explained = (g, at, has) })

-- ---- pairs that were compared

pub equal_pair : (b : Bool) (p q : Pair) → b ≡ (eqb p.stem q.stem && eqb p.candidate q.candidate) → b ≡ true → p ≡ q
equal_pair b p q e t =
    let r = and_parts (eqb p.stem q.stem) (eqb p.candidate q.candidate) (sym e ∙ t) in
    same_pair p q (eqb-true p.stem q.stem r.0) (eqb-true p.candidate q.candidate r.1)

pub chosen_here : (b : Bool) (set : List Pair) (i : ℕ) (q d : Pair) → i < length set → b ≡ (eqb (get_or set i d).stem q.stem && eqb (get_or set i d).candidate q.candidate) → b ≡ true → Contains set q
chosen_here b set i q d lt e t = (i, lt, get_or_default set i q d lt ∙ equal_pair b (get_or set i d) q e t)

-- ---- a front and the kept pairs, where one of them is empty

pub without_kept : (b : Bool) (kept front : List Pair) → b ≡ eqb (length kept) 0 → b ≡ true → front ++ kept ≡ front
without_kept b kept front e t = ap (λ (l : List Pair). front ++ l) (nil_from_length kept (eqb-true (length kept) 0 (sym e ∙ t))) ∙ append-nil front

pub without_front : (n : ℕ) (whole kept : List Pair) → n ≡ 0 → take n whole ++ kept ≡ kept
without_front n whole kept e = ap (λ (k : ℕ). take k whole ++ kept) e

pub offered_as : (m : Meaning) (more : Pair) (a b : List Pair) → a ≡ b → All (IsOffered m) (more ∷ a) → All (IsOffered m) (more ∷ b)
offered_as m more a b e h = subst (λ (s : List Pair). All (IsOffered m) (more ∷ s)) e h

pub one_as : (more : Pair) (a b : List Pair) → a ≡ b → OnePerStem (more ∷ a) → OnePerStem (more ∷ b)
one_as more a b e h = subst (λ (s : List Pair). OnePerStem (more ∷ s)) e h

pub breaks_as : (m : Meaning) (test : ℕ) (more : Pair) (a b : List Pair) (r : Bool) → a ≡ b → r ≡ m.breaks test (more ∷ b) → r ≡ m.breaks test (more ∷ a)
breaks_as m test more a b r e h = subst (λ (s : List Pair). r ≡ m.breaks test (more ∷ s)) (sym e) h
