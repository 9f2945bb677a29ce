-- Steps of a search, over plain lists.
use Rattle.std.proofs.Common.{◌≡◌, ℕ, zero, suc, ◌+◌, ◌-◌, ◌<◌, ◌≤◌, ◌≢◌, ◌⊎◌, inl, inr, Bool, true, false, ◌||◌, List, [], ◌∷◌, ◌++◌, length, get_or, slice_index, slice_get, take, drop, All, Contains, Some, None, Option, Vec, Global, refl, sym, ap, ◌∙◌, subst, arith, length-take-le, take-append-drop, take_all, get_or-take, take-take}
use Rattle.std.proofs.lemmas.Bool.{false_from_ne_true, both_ways, cases_lt, cases_eq}
use Rattle.std.proofs.lemmas.List.{length_push, get_or_push, get_or_append_left, take-append-le, take_at, take_more, get_or_default}
use Rattle.std.proofs.lemmas.List.Elements.{All-contains, All-cons, All-push, Contains-push, Contains-push_cases, Contains-append_left}
use Rattle.std.proofs.lemmas.Option.{none-some, same_Some, slice_get_within}
use Rattle.ips_refute.specs.declared.nogoods.Pair.{Pair}
use Rattle.ips_refute.specs.declared.nogoods.Nogood.{Nogood}
use Rattle.ips_refute.specs.declared.nogoods.Reason.{Reason}
use Rattle.ips_refute.specs.declared.nogoods.Reason.TheVariants.{Test, Earlier}
use Rattle.ips_refute.specs.Meaning.{Meaning, Lawful, IsSubset, Ascends, OnePerStem, IsOffered, IsBeginning, Solves, BreaksNone, pairs_from, pairs}
use Rattle.ips_refute.specs.Refuting.{Explains, ExplainsEach, IsNogood, AreNogoods, IsTidyRefutation}
use Rattle.ips_refute.proofs.Choices.{pair, from_pairs, Contains-pairs, OnePerStem-pairs, OnePerStem-cons, Within-trans, Within-cons, length-pairs, get_or-pairs, slice_get-take}
use Rattle.ips_refute.proofs.Laws.{no_explanation}
use Rattle.ips_refute.proofs.Checks.{Ascends-one}
use Rattle.ips_search.specs.Merging.{IsUnion}
use Rattle.ips_search.specs.declared.state.Level.{Level}
use Rattle.ips_search.specs.declared.state.State.{State}
use Rattle.ips_search.specs.Best.{NotLater, IsFirst, IsBest}
use Rattle.ips_search.specs.Beginnings.{is_late, beginnings}
use Rattle.ips_search.specs.Searching.{IsLevel, IsCore, Rejected, Settled, Advanced, Restored, Retreated, Moved, KeepsCount, top_nogood, next_pair, passed, place, IsSearching, IsCounted}
use Rattle.ips_search.proofs.Order.{Begins-take, Within-begins, NotLater-prefix, NotLater-down, NotLater-next, later-NotLater}
use Rattle.ips_search.proofs.Counting.{Passes, IsOpen, breaks_none, passed-next, passed-down, passed-back, passed-spent, own-push}

-- ---- pairs and sets

get_or-same : (set : List Pair) (k : ℕ) (d : Pair) → k < length set → get_or set k (get_or set k d) ≡ get_or set k d
get_or-same set k d h = get_or_default set k (get_or set k d) d h

pub pairs_from-push : (first : ℕ) (p : List ℕ) (c : ℕ) → pairs_from first (p ++ c ∷ []) ≡ pairs_from first p ++ pair (first + length p) c ∷ []
pairs_from-push first [] c = ap (λ n. pair n c ∷ []) (omega arith)
pairs_from-push first (a ∷ p) c =
    let e : (first + 1) + length p ≡ first + suc (length p) = omega arith in
    ap (λ s. pair first a ∷ s) (pairs_from-push (first + 1) p c ∙ ap (λ n. pairs_from (first + 1) p ++ pair n c ∷ []) e)

pub pairs-push : (p : List ℕ) (c : ℕ) → pairs (p ++ c ∷ []) ≡ pairs p ++ pair (length p) c ∷ []
pairs-push p c = pairs_from-push 0 p c ∙ ap (λ n. pairs p ++ pair n c ∷ []) (omega arith)

pub Contains-new : (p : List ℕ) (c : ℕ) → Contains (pairs (p ++ c ∷ [])) (pair (length p) c)
Contains-new p c = subst (λ (s : List Pair). Contains s (pair (length p) c)) (sym (pairs-push p c)) (Contains-push (pairs p) (pair (length p) c))

pub Contains-old : (p : List ℕ) (c : ℕ) (q : Pair) → Contains (pairs p) q → Contains (pairs (p ++ c ∷ [])) q
Contains-old p c q h = subst (λ (s : List Pair). Contains s q) (sym (pairs-push p c)) (Contains-append_left (pairs p) (pair (length p) c ∷ []) q h)

pub from_new : (p : List ℕ) (c : ℕ) (q : Pair) → Contains (pairs (p ++ c ∷ [])) q → Contains (pairs p) q ⊎ (pair (length p) c ≡ q)
from_new p c q h = Contains-push_cases (pairs p) (pair (length p) c) q (subst (λ (s : List Pair). Contains s q) (pairs-push p c) h)

pub Within-push : (p : List ℕ) (c : ℕ) (set : List Pair) → IsSubset set (pairs p) → IsSubset (pair (length p) c ∷ set) (pairs (p ++ c ∷ []))
Within-push p c set h = Within-cons (pair (length p) c) set (pairs (p ++ c ∷ [])) (Contains-new p c) (λ k d l. Contains-old p c (get_or set k d) (h k d l))

pub free_of_top : (p : List ℕ) (set : List Pair) → IsSubset set (pairs p) → All (λ q. q.stem ≢ length p) set
free_of_top p set h k d l e = let r = from_pairs p (get_or set k d) (h k d l) in omega (arith, r.0, e)

pub one_with_top : (p : List ℕ) (c : ℕ) (set : List Pair) → IsSubset set (pairs p) → Ascends set → OnePerStem (pair (length p) c ∷ set)
one_with_top p c set w a = OnePerStem-cons (pair (length p) c) set (free_of_top p set w) (Ascends-one set a)

pub Ascends-pairs : (p : List ℕ) → Ascends (pairs p)
Ascends-pairs p i j d l h =
    let hj : j < length p = omega (arith, length-pairs 0 p) in
    let hi : i < length p = omega arith in
    let ei = ap (λ (q : Pair). q.stem) (get_or-pairs 0 p i d hi) in
    let ej = ap (λ (q : Pair). q.stem) (get_or-pairs 0 p j d hj) in
    omega (arith, ei, ej)

pub Within-self : (set : List Pair) → IsSubset set set
Within-self set k d h = (k, h, get_or-same set k d h)

pub Offered-pairs : (m : Meaning) (p : List ℕ) → IsBeginning m p → All (IsOffered m) (pairs p)
Offered-pairs m p good k d h =
    let lt : k < length p = omega (arith, length-pairs 0 p) in
    let P : Pair → Type 0 = IsOffered m in
    let e : get_or (pairs p) k d ≡ pair k (slice_index p k) = get_or-pairs 0 p k d lt ∙ ap (λ n. pair n (slice_index p k)) (omega arith) in
    subst P (sym e) (omega (arith, good.fits), good.offered k lt)

-- ---- reasons

pub Explains-wider : (m : Meaning) → Lawful m → (ns : List Nogood) (set other : List Pair) (r : Reason) → OnePerStem set → OnePerStem other → IsSubset set other → Explains m ns set r → Explains m ns other r
Explains-wider m law ns set other (Test t) a b w (lt, e) = (lt, law.keeps t set other lt a b e (λ k d h _. w k d h))
Explains-wider m law ns set other (Earlier n) a b w (g, e, v) = (g, e, Within-trans g.set.items set other v w)

pub slice_get-left : {X : Type 0} (xs ys : List X) (i : ℕ) (x : X) → slice_get xs i ≡ Some x → slice_get (xs ++ ys) i ≡ Some x
slice_get-left [] ys i x e = absurd (none-some x e)
slice_get-left (y ∷ xs) ys zero x e = e
slice_get-left (y ∷ xs) ys (suc i) x e = slice_get-left xs ys i x e

-- an element of a list with one more: an old one or the new one
pub slice_get-push : {X : Type 0} (xs : List X) (y : X) (i : ℕ) (x : X) → slice_get (xs ++ y ∷ []) i ≡ Some x → (slice_get xs i ≡ Some x) ⊎ ((i ≡ length xs) × (x ≡ y))
slice_get-push [] y zero x e = inr (refl, same_Some x y (sym e))
slice_get-push [] y (suc i) x e = absurd (none-some x e)
slice_get-push (z ∷ xs) y zero x e = inl e
slice_get-push (z ∷ xs) y (suc i) x e = elim (slice_get-push xs y i x e) [ inl h ↦ inl h | inr h ↦ inr (omega (arith, h.0), h.1) ]

pub slice_get-new : {X : Type 0} (xs : List X) (y : X) → slice_get (xs ++ y ∷ []) (length xs) ≡ Some y
slice_get-new [] y = refl
slice_get-new (z ∷ xs) y = slice_get-new xs y

pub Explains-later : (m : Meaning) (ns : List Nogood) (g : Nogood) (set : List Pair) (r : Reason) → Explains m ns set r → Explains m (ns ++ g ∷ []) set r
Explains-later m ns g set (Test t) h = h
Explains-later m ns g set (Earlier n) (f, e, w) = (f, slice_get-left ns (g ∷ []) n f e, w)

pub Within-behind : (x : Pair) (set : List Pair) → IsSubset set (x ∷ set)
Within-behind x set k d h = (suc k, omega arith, get_or-same set k d h)

pub ExplainsEach-wider : (m : Meaning) → Lawful m → (ns : List Nogood) (p : List ℕ) (set other : List Pair) (rs : List Reason) → Ascends set → Ascends other → IsSubset set other → IsSubset other (pairs p)
    → ExplainsEach m ns set (length p) rs → ExplainsEach m ns other (length p) rs
ExplainsEach-wider m law ns p set other rs a b w v h c r e =
    let x = pair (length p) c in
    Explains-wider m law ns (x ∷ set) (x ∷ other) r
    (one_with_top p c set (Within-trans set other (pairs p) w v) a) (one_with_top p c other v b)
    (Within-cons x set (x ∷ other) (0, omega arith, refl) (Within-trans set other (x ∷ other) w (Within-behind x other)))
    (h c r e)

pub ExplainsEach-push : (m : Meaning) (ns : List Nogood) (set : List Pair) (stem : ℕ) (rs : List Reason) (r : Reason) → ExplainsEach m ns set stem rs → Explains m ns (pair stem (length rs) ∷ set) r → ExplainsEach m ns set stem (rs ++ r ∷ [])
ExplainsEach-push m ns set stem rs r h new c x e = elim (slice_get-push rs r c x e) [
  | inl old ↦ h c x old
  | inr (at, same) ↦
      let P : Reason → Type 0 = λ y. Explains m ns (pair stem c ∷ set) y in
      subst P (sym same) (subst (λ (n : ℕ). Explains m ns (pair stem n ∷ set) r) (sym at) new)
]

pub ExplainsEach-later : (m : Meaning) (ns : List Nogood) (g : Nogood) (set : List Pair) (stem : ℕ) (rs : List Reason) → ExplainsEach m ns set stem rs → ExplainsEach m (ns ++ g ∷ []) set stem rs
ExplainsEach-later m ns g set stem rs h c r e = Explains-later m ns g (pair stem c ∷ set) r (h c r e)

pub AreNogoods-push : (m : Meaning) (ns : List Nogood) (g : Nogood) → AreNogoods m ns → IsNogood m ns g → AreNogoods m (ns ++ g ∷ [])
AreNogoods-push m ns g h new i x e = elim (slice_get-push ns g i x e) [
  | inl old ↦
      let lt : i ≤ length ns = omega (arith, slice_get_within ns i x old) in
      let P : List Nogood → Type 0 = λ l. IsNogood m l x in
      subst P (sym (take-append-le i ns (g ∷ []) lt)) (h i x old)
  | inr (at, same) ↦
      let P : List Nogood → Nogood → Type 0 = λ l y. IsNogood m l y in
      let one : IsNogood m ns x = subst (λ (y : Nogood). IsNogood m ns y) (sym same) new in
      subst (λ (l : List Nogood). IsNogood m l x) (sym (take_at ns (g ∷ []) i (sym at))) one
]

pub IsLevel-later : (m : Meaning) (ns : List Nogood) (g : Nogood) (p : List ℕ) (level : Level) → IsLevel m ns p level → IsLevel m (ns ++ g ∷ []) p level
IsLevel-later m ns g p level h = record { within = h.within; ascends = h.ascends; explained = ExplainsEach-later m ns g level.set.items (length p) level.reasons.items h.explained }

-- ---- beginnings

pub BreaksNone-part : (m : Meaning) → Lawful m → (p q : List ℕ) → IsSubset (pairs p) (pairs q) → BreaksNone m (pairs q) → BreaksNone m (pairs p)
BreaksNone-part m law p q w h t lt = false_from_ne_true (m.breaks t (pairs p)) (λ e.
    both_ways _ (h t lt) (law.keeps t (pairs p) (pairs q) lt (OnePerStem-pairs p) (OnePerStem-pairs q) e (λ k d l _. w k d l)))

pub IsBeginning-take : (m : Meaning) → Lawful m → (p : List ℕ) (i : ℕ) → i ≤ length p → IsBeginning m p → IsBeginning m (take i p)
IsBeginning-take m law p i h good =
    let len = length-take-le i p h in
    record {
      fits = omega (arith, good.fits, len);
      offered = λ j l.
          let lt : j < i = omega (arith, len) in
          let e : slice_index (take i p) j ≡ slice_index p j = get_or-take i p j 0 lt in
          subst (λ (c : ℕ). c < m.candidates j) (sym e) (good.offered j (omega arith));
      holds = BreaksNone-part m law (take i p) p (Within-begins (take i p) p (Begins-take i p)) good.holds;
    }

pub IsBeginning-push : (m : Meaning) (p : List ℕ) (c : ℕ) → IsBeginning m p → length p < m.stems → c < m.candidates (length p) → BreaksNone m (pairs (p ++ c ∷ [])) → IsBeginning m (p ++ c ∷ [])
IsBeginning-push m p c good room offered holds =
    record {
      fits = omega (arith, length_push p c);
      offered = λ i l. elim (cases_lt i (length p)) [
        | inl lt ↦ subst (λ (x : ℕ). x < m.candidates i) (sym (get_or_append_left p (c ∷ []) 0 i lt)) (good.offered i lt)
        | inr ge ↦
            let e : i ≡ length p = omega (arith, length_push p c) in
            subst (λ (x : ℕ). x < m.candidates i) (sym (get_or_push p c 0 i (sym e))) (subst (λ (n : ℕ). c < m.candidates n) (sym e) offered)
      ];
      holds = holds;
    }

-- only the tests that end at the new stem need a look
pub BreaksNone-push : (m : Meaning) → Lawful m → (p : List ℕ) (c : ℕ) → BreaksNone m (pairs p)
    → ((t : ℕ) → t < m.tests → m.last t ≡ length p → m.breaks t (pair (length p) c ∷ pairs p) ≡ false) → BreaksNone m (pairs (p ++ c ∷ []))
BreaksNone-push m law p c before new t lt = false_from_ne_true (m.breaks t (pairs (p ++ c ∷ []))) (λ e.
    let one = OnePerStem-pairs (p ++ c ∷ []) in
    let (q, has, at) = law.decided t (pairs (p ++ c ∷ [])) lt one e in
    let inside = from_pairs (p ++ c ∷ []) q has in
    let bound : m.last t ≤ length p = omega (arith, inside.0, at, length_push p c) in
    elim (cases_eq (m.last t) (length p)) [
      | inl same ↦ both_ways _ (new t lt same)
          (law.keeps t (pairs (p ++ c ∷ [])) (pair (length p) c ∷ pairs p) lt one (one_with_top p c (pairs p) (Within-self (pairs p)) (Ascends-pairs p)) e
          (λ k d l _. elim (from_new p c (get_or (pairs (p ++ c ∷ [])) k d) (k, l, get_or-same (pairs (p ++ c ∷ [])) k d l)) [
            | inl (j, lj, ej) ↦ (suc j, omega arith, ej)
            | inr is ↦ (0, omega arith, is)
          ]))
      | inr other ↦ both_ways _ (before t lt)
          (law.keeps t (pairs (p ++ c ∷ [])) (pairs p) lt one (OnePerStem-pairs p) e
          (λ k d l le. elim (from_new p c (get_or (pairs (p ++ c ∷ [])) k d) (k, l, get_or-same (pairs (p ++ c ∷ [])) k d l)) [
            | inl old ↦ old
            | inr is ↦ absurd (let es = ap (λ (x : Pair). x.stem) is in omega (arith, es, le, bound, other))
          ]))
    ])

pub passes : (m : Meaning) (best : Option (List ℕ)) (p : List ℕ) → IsBeginning m p → IsBest m best → ((w : List ℕ) → Solves m w → NotLater p w) → Passes m best p
passes m None p good is ahead = ap (λ z. z || false) (breaks_none m (pairs p) m.tests good.holds)
passes m (Some w) p good is ahead = ap (λ z. z || is_late (Some w) p) (breaks_none m (pairs p) m.tests good.holds) ∙ later-NotLater p w (ahead w is.0)

pub opens : (m : Meaning) → Lawful m → (best : Option (List ℕ)) (p : List ℕ) → IsBeginning m p → IsBest m best → ((w : List ℕ) → Solves m w → NotLater p w) → IsOpen m best [] p
opens m law best p good is ahead j h =
    let before : (w : List ℕ) → Solves m w → NotLater (take j p) w = λ w s.
    NotLater-prefix (take j p) (drop j p) w (subst (λ (x : List ℕ). NotLater x w) (sym (take-append-drop j p)) (ahead w s)) in (
      passes m best (take j p) (IsBeginning-take m law p j (omega arith) good) is before,
      subst (λ (n : ℕ). slice_index p j < m.candidates n) (sym (length-take-le j p (omega arith))) (good.offered j h),
    )

-- behind a candidate that fails
pub ahead-next : (m : Meaning) → Lawful m → (ns : List Nogood) (p : List ℕ) (c : ℕ) (set : List Pair) (r : Reason) → AreNogoods m ns → IsSubset set (pairs p) → Ascends set → Explains m ns (pair (length p) c ∷ set) r
    → ((w : List ℕ) → Solves m w → NotLater (p ++ c ∷ []) w) → (w : List ℕ) → Solves m w → NotLater (p ++ (c + 1) ∷ []) w
ahead-next m law ns p c set r ok within ascends why ahead w solves = elim (NotLater-next p c w (ahead w solves)) [
  | inl next ↦ next
  | inr begins ↦ absurd (no_explanation m law ns w solves ok (pair (length p) c ∷ set) r
      (one_with_top p c set within ascends)
      (Within-trans (pair (length p) c ∷ set) (pairs (p ++ c ∷ [])) (pairs w) (Within-push p c set within) (Within-begins (p ++ c ∷ []) w begins))
      why)
]

-- ---- the test of a candidate

pub offered_more : (m : Meaning) (p : List ℕ) (more : Pair) (whole : List Pair) → IsBeginning m p → whole ≡ pairs p → more.stem < m.stems → more.candidate < m.candidates more.stem → All (IsOffered m) (more ∷ whole)
offered_more m p more whole good e a b =
    let P : List Pair → Type 0 = λ s. All (IsOffered m) (more ∷ s) in
    subst P (sym e) (All-cons (IsOffered m) more (pairs p) (a, b) (Offered-pairs m p good))

pub one_more_pair : (p : List ℕ) (more : Pair) (whole : List Pair) → whole ≡ pairs p → more.stem ≡ length p → OnePerStem (more ∷ whole)
one_more_pair p more whole e at =
    let P : List Pair → Type 0 = λ s. OnePerStem (more ∷ s) in
    let Q : ℕ → Type 0 = λ n. OnePerStem (pair n more.candidate ∷ pairs p) in
    subst P (sym e) (subst Q (sym at) (one_with_top p more.candidate (pairs p) (Within-self (pairs p)) (Ascends-pairs p)))

pub none_fails : (m : Meaning) → Lawful m → (p : List ℕ) (more : Pair) (whole : List Pair) (n : ℕ) → IsBeginning m p → whole ≡ pairs p → more.stem ≡ length p → m.tests ≤ n
    → ((t : ℕ) → t < n → m.last t ≡ more.stem → m.breaks t (more ∷ whole) ≡ false) → BreaksNone m (pairs (p ++ more.candidate ∷ []))
none_fails m law p more whole n good e at all h =
    BreaksNone-push m law p more.candidate good.holds (λ t lt last.
    let P : List Pair → Type 0 = λ s. m.breaks t (pair (length p) more.candidate ∷ s) ≡ false in
    let Q : ℕ → Type 0 = λ k. m.breaks t (pair k more.candidate ∷ whole) ≡ false in
    subst P e (subst Q at (h t (omega arith) (last ∙ sym at))))

pub whole_core : (m : Meaning) (ns : List Nogood) (whole : List Pair) (more : Pair) (test : ℕ) (core : List Pair) → core ≡ whole → test < m.tests → Ascends whole → m.breaks test (more ∷ whole) ≡ true → IsCore m ns whole more (Test test) core
whole_core m ns whole more test core e lt a b =
    let P : List Pair → Type 0 = λ s. IsCore m ns whole more (Test test) s in
    subst P (sym e) (record { inside = Within-self whole; ascends = a; explained = (lt, b) })

pub core_of : (m : Meaning) (ns : List Nogood) (whole whole' : List Pair) (more : Pair) (r : Reason) (core core' : List Pair) → whole ≡ whole' → core ≡ core' → IsCore m ns whole more r core → IsCore m ns whole' more r core'
core_of m ns whole whole' more r core core' a b h =
    let P : List Pair → Type 0 = λ s. IsCore m ns s more r core in
    let Q : List Pair → Type 0 = λ s. IsCore m ns whole' more r s in
    subst Q b (subst P a h)

pub union_of : (a a' b b' c c' set : List Pair) → a ≡ a' → b ≡ b' → c ≡ c' → IsUnion a b c set → IsUnion a' b' c' set
union_of a a' b b' c c' set x y z h =
    let P : List Pair → Type 0 = λ s. IsUnion s b c set in
    let Q : List Pair → Type 0 = λ s. IsUnion a' s c set in
    let R : List Pair → Type 0 = λ s. IsUnion a' b' s set in
    subst R z (subst Q y (subst P x h))

pub Within-of : (a a' b b' : List Pair) → a ≡ a' → b ≡ b' → IsSubset a b → IsSubset a' b'
Within-of a a' b b' x y h = subst (λ (s : List Pair). IsSubset a' s) y (subst (λ (s : List Pair). IsSubset s b) x h)

-- what the state says in the words of `failing`
pub Ascends-of : (p : List ℕ) (whole : List Pair) → whole ≡ pairs p → Ascends whole
Ascends-of p whole e = subst (λ (s : List Pair). Ascends s) (sym e) (Ascends-pairs p)

pub Ascends-as : (a b : List Pair) → a ≡ b → Ascends a → Ascends b
Ascends-as a b e h = subst (λ (s : List Pair). Ascends s) e h

-- the state with one more candidate that fails
pub rejected : (m : Meaning) → Lawful m → (s : State) (level : Level) (r : Reason) → IsSearching m s → length s.choice.items < m.stems → length s.top.reasons.items < m.candidates (length s.choice.items)
    → level.reasons.items ≡ s.top.reasons.items ++ r ∷ [] → IsSubset s.top.set.items level.set.items → IsSubset level.set.items s.pairs.items → Ascends level.set.items
    → Explains m s.nogoods.items (pair (length s.choice.items) (length s.top.reasons.items) ∷ level.set.items) r
    → IsSearching m (record { choice = s.choice; pairs = s.pairs; levels = s.levels; top = level; nogoods = s.nogoods })
rejected m law s level r h room lt e wider inside ascends why =
    let p = s.choice.items in
    let ns = s.nogoods.items in
    let within : IsSubset level.set.items (pairs p) = subst (λ (x : List Pair). IsSubset level.set.items x) h.paired inside in
    let len : length level.reasons.items ≡ length s.top.reasons.items + 1 = ap length e ∙ length_push s.top.reasons.items r in
    let each = ExplainsEach-push m ns level.set.items (length p) s.top.reasons.items r
    (ExplainsEach-wider m law ns p s.top.set.items level.set.items s.top.reasons.items h.top.ascends ascends wider within h.top.explained) why in
    record {
      paired = h.paired;
      begun = h.begun;
      learned = h.learned;
      sorted = h.sorted;
      as_deep = h.as_deep;
      levels = h.levels;
      top = record { within = within; ascends = ascends; explained = subst (λ (x : List Reason). ExplainsEach m ns level.set.items (length p) x) (sym e) each };
      tried = λ _. omega (arith, len);
      ahead = λ w solves. subst (λ (n : ℕ). NotLater (p ++ n ∷ []) w) (sym len)
          (ahead-next m law ns p (length s.top.reasons.items) level.set.items r h.learned within ascends why h.ahead w solves);
    }

pub rejected_counts : (m : Meaning) (s : State) (level : Level) (r : Reason) (n : ℕ) → length s.choice.items < m.stems → level.reasons.items ≡ s.top.reasons.items ++ r ∷ [] → IsCounted m s n
    → IsCounted m (record { choice = s.choice; pairs = s.pairs; levels = s.levels; top = level; nogoods = s.nogoods }) n
rejected_counts m s level r n room e h =
    let len : length level.reasons.items ≡ length s.top.reasons.items + 1 = ap length e ∙ length_push s.top.reasons.items r in
    record {
      counted = λ best is.
          let more = passed-next m best m.stems s.choice.items (length s.top.reasons.items) room in
          let old = h.counted best is in
          subst (λ (k : ℕ). n ≤ passed m best m.stems [] (s.choice.items ++ k ∷ [])) (sym len) (omega (arith, more, old));
      deep = h.deep;
    }

pub reject_all : (m : Meaning) → Lawful m → (s : State) (level : Level) (r : Reason) (core : List Pair) → IsSearching m s → length s.choice.items < m.stems → length s.top.reasons.items < m.candidates (length s.choice.items)
    → IsCore m s.nogoods.items s.pairs.items (next_pair s) r core → IsUnion s.pairs.items s.top.set.items core level.set.items → level.reasons.items ≡ s.top.reasons.items ++ r ∷ []
    → Rejected m s (record { choice = s.choice; pairs = s.pairs; levels = s.levels; top = level; nogoods = s.nogoods })
reject_all m law s level r core h room lt ok union e =
    let p = s.choice.items in
    let within : IsSubset level.set.items (pairs p) = subst (λ (x : List Pair). IsSubset level.set.items x) h.paired union.inside in
    let core_in : IsSubset core (pairs p) = subst (λ (x : List Pair). IsSubset core x) h.paired ok.inside in
    let x = next_pair s in
    let why = Explains-wider m law s.nogoods.items (x ∷ core) (x ∷ level.set.items) r
    (one_with_top p (length s.top.reasons.items) core core_in ok.ascends) (one_with_top p (length s.top.reasons.items) level.set.items within union.ascends)
    (Within-cons x core (x ∷ level.set.items) (0, omega arith, refl) (Within-trans core level.set.items (x ∷ level.set.items) union.has_second (Within-behind x level.set.items)))
    ok.explained in
    record {
      searching = rejected m law s level r h room lt e union.has_first union.inside union.ascends why;
      same = refl;
      tried = ap length e ∙ length_push s.top.reasons.items r;
      keeps = λ n c. rejected_counts m s level r n room e c;
    }

pub settled_found : (m : Meaning) (s0 s : State) (c : ℕ) → IsSearching m s → s.choice.items ≡ s0.choice.items → KeepsCount m s0 s → length s.choice.items < m.stems → length s.top.reasons.items ≡ c → c < m.candidates (length s.choice.items)
    → BreaksNone m (pairs (s.choice.items ++ c ∷ [])) → Settled m s0 s true
settled_found m s0 s c h same keeps room at lt none =
    record {
      searching = h;
      same = same;
      keeps = keeps;
      room = room;
      begins = λ _. subst (λ (k : ℕ). IsBeginning m (s.choice.items ++ k ∷ [])) (sym at) (IsBeginning-push m s.choice.items c h.begun room lt none);
      ends = λ e. absurd (both_ways true e refl);
    }

pub settled_end : (m : Meaning) (s0 s : State) → IsSearching m s → length s.choice.items < m.stems → s.choice.items ≡ s0.choice.items → KeepsCount m s0 s → length s.top.reasons.items ≡ m.candidates (length s.choice.items) → Settled m s0 s false
settled_end m s0 s h room same keeps at = record { searching = h; room = room; same = same; keeps = keeps; begins = λ e. absurd (both_ways false refl e); ends = λ _. at }

pub advanced : (m : Meaning) (s : State) (choice : Vec ℕ Global) (chosen : Vec Pair Global) (levels : Vec Level Global) (top : Level) → IsSearching m s → length s.choice.items < m.stems → IsBeginning m (place s)
    → choice.items ≡ place s → chosen.items ≡ s.pairs.items ++ next_pair s ∷ [] → levels.items ≡ s.levels.items ++ s.top ∷ [] → IsSubset top.set.items chosen.items × Ascends top.set.items → top.reasons.items ≡ []
    → Advanced m s (record { choice = choice; pairs = chosen; levels = levels; top = top; nogoods = s.nogoods })
advanced m s choice chosen levels top h room begins e1 e2 e3 e4 e5 =
    let p = s.choice.items in
    let c = length s.top.reasons.items in
    let q : List ℕ = p ++ c ∷ [] in
    let ns = s.nogoods.items in
    let len1 : length choice.items ≡ length p + 1 = ap length e1 ∙ length_push p c in
    let len3 : length levels.items ≡ length s.levels.items + 1 = ap length e3 ∙ length_push s.levels.items s.top in
    let len5 : length top.reasons.items ≡ 0 = ap length e5 in
    let at : choice.items ++ length top.reasons.items ∷ [] ≡ q ++ 0 ∷ [] = ap (λ l. l ++ length top.reasons.items ∷ []) e1 ∙ ap (λ k. q ++ k ∷ []) len5 in
    let paired : chosen.items ≡ pairs choice.items = e2 ∙ ap (λ l. l ++ next_pair s ∷ []) h.paired ∙ sym (pairs-push p c) ∙ ap pairs (sym e1) in
    record {
      searching = record {
        paired = paired;
        begun = subst (λ (x : List ℕ). IsBeginning m x) (sym e1) begins;
        learned = h.learned;
        sorted = h.sorted;
        as_deep = omega (arith, len1, len3, h.as_deep);
        levels = λ i level g. elim (slice_get-push s.levels.items s.top i level (subst (λ (x : List Level). slice_get x i ≡ Some level) e3 g)) [
          | inl old ↦
              let lt : i < length p = omega (arith, slice_get_within s.levels.items i level old, h.as_deep) in
              let r = h.levels i level old in
              let t : take i choice.items ≡ take i p = ap (take i) e1 ∙ take-append-le i p (c ∷ []) (omega arith) in
              let x : slice_index choice.items i ≡ slice_index p i = ap (λ l. slice_index l i) e1 ∙ get_or_append_left p (c ∷ []) 0 i lt in
              (subst (λ (l : List ℕ). IsLevel m ns l level) (sym t) r.0, r.1 ∙ sym x)
          | inr (here, same) ↦
              let n : length p ≡ i = omega (arith, here, h.as_deep) in
              let t : take i choice.items ≡ p = ap (take i) e1 ∙ take_at p (c ∷ []) i n in
              let x : slice_index choice.items i ≡ c = ap (λ l. slice_index l i) e1 ∙ get_or_push p c 0 i n in
              let one : IsLevel m ns p level = subst (λ (l : Level). IsLevel m ns p l) (sym same) h.top in
              (subst (λ (l : List ℕ). IsLevel m ns l level) (sym t) one, ap (λ (l : Level). length l.reasons.items) same ∙ sym x)
        ];
        top = record {
          within = subst (λ (x : List Pair). IsSubset top.set.items x) paired e4.0;
          ascends = e4.1;
          explained = λ k r e. absurd (none-some r (subst (λ (x : List Reason). slice_get x k ≡ Some r) e5 e));
        };
        tried = λ _. omega (arith, len5);
        ahead = λ w solves. subst (λ (l : List ℕ). NotLater l w) (sym at) (NotLater-down q w (h.ahead w solves));
      };
      counts = λ n k. record {
        counted = λ best is.
            let old = k.counted best is in
            let down = passed-down m best m.stems q (omega (arith, length_push p c)) in
            let one = own-push p c in
            let le : n + 1 ≤ passed m best m.stems [] (q ++ 0 ∷ []) = omega (arith, old, down, one) in
            subst (λ (l : List ℕ). n + 1 ≤ passed m best m.stems [] l) (sym at) le;
        deep = omega (arith, len1, k.deep);
      };
    }

-- a place at which a candidate follows that breaks nothing is a beginning more than were counted
pub spent : (m : Meaning) → Lawful m → (s : State) (n : ℕ) → IsSearching m s → IsCounted m s n → IsBeginning m (place s) → (best : Option (List ℕ)) → IsBest m best → n < beginnings m best
spent m law s n h k begins best is =
    passed-spent m best s.choice.items (length s.top.reasons.items) n begins.fits (opens m law best (place s) begins is h.ahead) (passes m best (place s) begins is h.ahead) (k.counted best is)

pub chosen : (m : Meaning) (s : State) → IsSearching m s → length s.choice.items ≡ m.stems → IsFirst m s.choice.items
chosen m s h whole = ((whole, h.begun), λ w solves. NotLater-prefix s.choice.items (length s.top.reasons.items ∷ []) w (h.ahead w solves))

-- ---- back

pub pairs_from-take : (first j : ℕ) (p : List ℕ) → pairs_from first (take j p) ≡ take j (pairs_from first p)
pairs_from-take first zero p = refl
pairs_from-take first (suc j) [] = refl
pairs_from-take first (suc j) (a ∷ p) = ap (λ l. pair first a ∷ l) (pairs_from-take (first + 1) j p)

pub pairs-take : (j : ℕ) (p : List ℕ) → pairs (take j p) ≡ take j (pairs p)
pairs-take j p = pairs_from-take 0 j p

-- a set that ends in a pair: the rest lies before its stem
pub before_last : (p : List ℕ) (rest : List Pair) (y : Pair) → IsSubset (rest ++ y ∷ []) (pairs p) → Ascends (rest ++ y ∷ []) → IsSubset rest (pairs (take y.stem p)) × Ascends rest
before_last p rest y w a = (
  (λ k d h.
      let q = get_or rest k d in
      let all : length (rest ++ y ∷ []) ≡ length rest + 1 = length_push rest y in
      let e : get_or (rest ++ y ∷ []) k d ≡ q = get_or_append_left rest (y ∷ []) d k h in
      let l : get_or (rest ++ y ∷ []) (length rest) d ≡ y = get_or_push rest y d (length rest) refl in
      let lt = a k (length rest) d h (omega arith) in
      let es = ap (λ (x : Pair). x.stem) e in
      let ls = ap (λ (x : Pair). x.stem) l in
      let below : q.stem < y.stem = omega (arith, lt, es, ls) in
      let in_p : Contains (pairs p) q = subst (λ (x : Pair). Contains (pairs p) x) e (w k d (omega arith)) in
      let f = from_pairs p q in_p in
      let last_in : Contains (pairs p) y = subst (λ (x : Pair). Contains (pairs p) x) l (w (length rest) d (omega arith)) in
      let top = from_pairs p y last_in in
      let len : length (take y.stem p) ≡ y.stem = length-take-le y.stem p (omega arith) in
      let c : slice_index (take y.stem p) q.stem ≡ q.candidate = get_or-take y.stem p q.stem 0 below ∙ f.1 in
      subst (λ (n : ℕ). Contains (pairs (take y.stem p)) (pair q.stem n)) c (Contains-pairs (take y.stem p) q.stem (omega arith))),
  (λ i j d l h.
      let all : length (rest ++ y ∷ []) ≡ length rest + 1 = length_push rest y in
      let ei = ap (λ (x : Pair). x.stem) (get_or_append_left rest (y ∷ []) d i (omega arith)) in
      let ej = ap (λ (x : Pair). x.stem) (get_or_append_left rest (y ∷ []) d j h) in
      let lt = a i j d l (omega arith) in
      omega (arith, lt, ei, ej)),
)

pub top_is_nogood : (m : Meaning) (s : State) → IsSearching m s → length s.choice.items < m.stems → length s.top.reasons.items ≡ m.candidates (length s.choice.items) → IsNogood m s.nogoods.items (top_nogood s)
top_is_nogood m s h room tried =
    record {
      offered = λ k d l. All-contains (IsOffered m) (pairs s.choice.items) (get_or s.top.set.items k d) (Offered-pairs m s.choice.items h.begun) (h.top.within k d l);
      one_per_stem = Ascends-one s.top.set.items h.top.ascends;
      known = room;
      free = free_of_top s.choice.items s.top.set.items h.top.within;
      each = tried;
      explained = h.top.explained;
    }

pub ended : (m : Meaning) (s : State) (ns : List Nogood) → IsSearching m s → length s.choice.items < m.stems → length s.top.reasons.items ≡ m.candidates (length s.choice.items) → s.top.set.items ≡ [] → ns ≡ s.nogoods.items ++ top_nogood s ∷ [] → IsTidyRefutation m ns
ended m s ns h room tried empty e =
    let old = s.nogoods.items in
    let g = top_nogood s in
    let all : List Nogood = old ++ g ∷ [] in
    let n : length old ≡ length all - 1 = omega (arith, length_push old g) in
    let last : slice_get all (length all - 1) ≡ Some g = subst (λ (k : ℕ). slice_get all k ≡ Some g) n (slice_get-new old g) in
    subst (λ (l : List Nogood). IsTidyRefutation m l) (sym e) ((AreNogoods-push m old g h.learned (top_is_nogood m s h room tried), (g, omega (arith, length_push old g), last, empty)), All-push (λ x. Ascends x.set.items) old g h.sorted h.top.ascends)

-- the search as it stood at an earlier stem still stands well
pub restored : (m : Meaning) → Lawful m → (s t : State) (j : ℕ) → IsSearching m s → length s.choice.items < m.stems → length s.top.reasons.items ≡ m.candidates (length s.choice.items) → j < length s.choice.items → Restored s t j → IsSearching m t
restored m law s t j h room tried lt r =
    let p = s.choice.items in
    let new : AreNogoods m t.nogoods.items = subst (λ (l : List Nogood). AreNogoods m l) (sym r.nogoods) (AreNogoods-push m s.nogoods.items (top_nogood s) h.learned (top_is_nogood m s h room tried)) in
    let len : length (take j p) ≡ j = length-take-le j p (omega arith) in
    let len_t : length t.choice.items ≡ j = ap length r.choice ∙ len in
    let len_l : length (take j s.levels.items) ≡ j = length-take-le j s.levels.items (omega (arith, h.as_deep)) in
    let here = h.levels j t.top r.top in
    let kept : (q : List ℕ) (level : Level) → IsLevel m s.nogoods.items q level → IsLevel m t.nogoods.items q level = λ q level k.
    subst (λ (l : List Nogood). IsLevel m l q level) (sym r.nogoods) (IsLevel-later m s.nogoods.items (top_nogood s) q level k) in
    let split : p ≡ (take j p ++ slice_index p j ∷ []) ++ drop (j + 1) p = sym (take-append-drop (j + 1) p) ∙ ap (λ l. l ++ drop (j + 1) p) (take_more p j 0 lt) in
    record {
      paired = r.chosen ∙ ap (take j) h.paired ∙ sym (pairs-take j p) ∙ ap pairs (sym r.choice);
      begun = subst (λ (l : List ℕ). IsBeginning m l) (sym r.choice) (IsBeginning-take m law p j (omega arith) h.begun);
      learned = new;
      sorted = subst (λ (l : List Nogood). All (λ g. Ascends g.set.items) l) (sym r.nogoods) (All-push (λ g. Ascends g.set.items) s.nogoods.items (top_nogood s) h.sorted h.top.ascends);
      as_deep = ap length r.levels ∙ len_l ∙ sym len_t;
      levels = λ i level e.
          let f = slice_get-take j s.levels.items i level (subst (λ (l : List Level). slice_get l i ≡ Some level) r.levels e) in
          let old = h.levels i level f.1 in
          let ti : take i t.choice.items ≡ take i p = ap (take i) r.choice ∙ take-take i j p (omega (arith, f.0)) in
          let xi : slice_index t.choice.items i ≡ slice_index p i = ap (λ l. slice_index l i) r.choice ∙ get_or-take j p i 0 f.0 in
          (subst (λ (l : List ℕ). IsLevel m t.nogoods.items l level) (sym ti) (kept (take i p) level old.0), old.1 ∙ sym xi);
      top = subst (λ (l : List ℕ). IsLevel m t.nogoods.items l t.top) (sym r.choice) (kept (take j p) t.top here.0);
      tried = λ _.
          let d : slice_index p j < m.candidates j = h.begun.offered j lt in
          let same : m.candidates (length t.choice.items) ≡ m.candidates j = ap m.candidates len_t in
          omega (arith, d, same, here.1);
      ahead = λ w solves.
          let whole : NotLater ((take j p ++ slice_index p j ∷ []) ++ drop (j + 1) p) w = subst (λ (l : List ℕ). NotLater l w) split (NotLater-prefix p (length s.top.reasons.items ∷ []) w (h.ahead w solves)) in
          let at : place t ≡ take j p ++ slice_index p j ∷ [] = ap (λ l. l ++ length t.top.reasons.items ∷ []) r.choice ∙ ap (λ n. take j p ++ n ∷ []) here.1 in
          subst (λ (l : List ℕ). NotLater l w) (sym at) (NotLater-prefix (take j p ++ slice_index p j ∷ []) (drop (j + 1) p) w whole);
    }

-- the last pair of the set at the top, and the rest
pub record EndsAt (s : State) (rest : List Pair) (y : Pair) : Type 0 where
  pub split : s.top.set.items ≡ rest ++ y ∷ []
  pub in_choice : y.stem < length s.choice.items
  pub chosen : slice_index s.choice.items y.stem ≡ y.candidate
  pub within : IsSubset rest (pairs (take y.stem s.choice.items))
  pub ascends : Ascends rest

pub ends_at : (m : Meaning) (s : State) (n : ℕ) (d : Pair) → IsSearching m s → length s.top.set.items ≡ n + 1 → EndsAt s (take n s.top.set.items) (get_or s.top.set.items n d)
ends_at m s n d h len =
    let set = s.top.set.items in
    let y = get_or set n d in
    let e : set ≡ take n set ++ y ∷ [] = sym (take_all (n + 1) set (omega arith)) ∙ take_more set n d (omega arith) in
    let w = subst (λ (l : List Pair). IsSubset l (pairs s.choice.items)) e h.top.within in
    let a = subst (λ (l : List Pair). Ascends l) e h.top.ascends in
    let b = before_last s.choice.items (take n set) y w a in
    let f = from_pairs s.choice.items y (h.top.within n d (omega arith)) in
    record { split = e; in_choice = f.0; chosen = f.1; within = b.0; ascends = b.1 }

pub back_next : (m : Meaning) (s t : State) (rest : List Pair) (y : Pair) → IsSearching m s → EndsAt s rest y → Restored s t y.stem → (length t.choice.items ≡ y.stem) × (length t.top.reasons.items ≡ y.candidate)
back_next m s t rest y h at r =
    (ap length r.choice ∙ length-take-le y.stem s.choice.items (omega (arith, at.in_choice)), (h.levels y.stem t.top r.top).1 ∙ at.chosen)

pub back_offered : (m : Meaning) (s t : State) (rest : List Pair) (y : Pair) → IsSearching m s → EndsAt s rest y → Restored s t y.stem → length t.top.reasons.items < m.candidates (length t.choice.items)
back_offered m s t rest y h at r =
    let e = back_next m s t rest y h at r in
    let lt = h.begun.offered y.stem at.in_choice in
    omega (arith, e.1, at.chosen, lt, ap m.candidates e.0)

pub back_core : (m : Meaning) (s t : State) (rest : List Pair) (y : Pair) → IsSearching m s → EndsAt s rest y → Restored s t y.stem → IsCore m t.nogoods.items t.pairs.items (next_pair t) (Earlier (length s.nogoods.items)) rest
back_core m s t rest y h at r =
    let e = back_next m s t rest y h at r in
    let ns = s.nogoods.items in
    let g = top_nogood s in
    let x = next_pair t in
    let same : x ≡ y = ap (λ n. pair n (length t.top.reasons.items)) e.0 ∙ ap (λ n. pair y.stem n) e.1 in
    let chosen_t : t.pairs.items ≡ pairs (take y.stem s.choice.items) = r.chosen ∙ ap (take y.stem) h.paired ∙ sym (pairs-take y.stem s.choice.items) in
    let inside : IsSubset rest t.pairs.items = subst (λ (l : List Pair). IsSubset rest l) (sym chosen_t) at.within in
    let ending : IsSubset (rest ++ y ∷ []) (y ∷ rest) = All-push (λ q. Contains (y ∷ rest) q) rest y (Within-behind y rest) (0, omega arith, refl) in
    let whole : IsSubset g.set.items (y ∷ rest) = subst (λ (l : List Pair). IsSubset l (y ∷ rest)) (sym at.split) ending in
    let new : slice_get t.nogoods.items (length ns) ≡ Some g = subst (λ (l : List Nogood). slice_get l (length ns) ≡ Some g) (sym r.nogoods) (slice_get-new ns g) in
    record { inside = inside; ascends = at.ascends; explained = (g, new, subst (λ (q : Pair). IsSubset g.set.items (q ∷ rest)) (sym same) whole) }

pub back_counts : (m : Meaning) → Lawful m → (s t u : State) (rest : List Pair) (y : Pair) → IsSearching m s → length s.choice.items < m.stems → length s.top.reasons.items ≡ m.candidates (length s.choice.items)
    → EndsAt s rest y → Restored s t y.stem → Rejected m t u → KeepsCount m s u
back_counts m law s t u rest y h room tried at r rej n k =
    let e = back_next m s t rest y h at r in
    let p = s.choice.items in
    let j = y.stem in
    let d = slice_index p j in
    let c = length s.top.reasons.items in
    let split : p ≡ (take j p ++ d ∷ []) ++ drop (j + 1) p = sym (take-append-drop (j + 1) p) ∙ ap (λ l. l ++ drop (j + 1) p) (take_more p j 0 at.in_choice) in
    let whole : List ℕ = (take j p ++ d ∷ []) ++ drop (j + 1) p in
    let last : length u.top.reasons.items ≡ d + 1 = omega (arith, rej.tried, e.1, at.chosen) in
    let here : place u ≡ take j p ++ (d + 1) ∷ [] = ap (λ l. l ++ length u.top.reasons.items ∷ []) (rej.same ∙ r.choice) ∙ ap (λ x. take j p ++ x ∷ []) last in
    let ahead : (w : List ℕ) → Solves m w → NotLater p w = λ w solves. NotLater-prefix p (c ∷ []) w (h.ahead w solves) in
    record {
      counted = λ best is.
          let old = k.counted best is in
          let step : passed m best m.stems [] (whole ++ c ∷ []) ≤ passed m best m.stems [] (take j p ++ (d + 1) ∷ []) =
          passed-back m best m.stems (take j p) d (drop (j + 1) p) c (omega (arith, room, ap length split))
          (subst (λ (l : List ℕ). IsOpen m best [] l) split (opens m law best p h.begun is ahead))
          (subst (λ (l : List ℕ). Passes m best l) split (passes m best p h.begun is ahead))
          (omega (arith, tried, ap (λ l. m.candidates (length l)) split)) in
          let from_p : passed m best m.stems [] (p ++ c ∷ []) ≤ passed m best m.stems [] (take j p ++ (d + 1) ∷ []) =
          subst (λ (l : List ℕ). passed m best m.stems [] (l ++ c ∷ []) ≤ passed m best m.stems [] (take j p ++ (d + 1) ∷ [])) (sym split) step in
          let le : n ≤ passed m best m.stems [] (take j p ++ (d + 1) ∷ []) = omega (arith, old, from_p) in
          subst (λ (l : List ℕ). n ≤ passed m best m.stems [] l) (sym here) le;
      deep = omega (arith, k.deep, ap length rej.same, e.0, at.in_choice);
    }

pub retreated : (m : Meaning) → Lawful m → (s t u : State) (rest : List Pair) (y : Pair) → IsSearching m s → length s.choice.items < m.stems → length s.top.reasons.items ≡ m.candidates (length s.choice.items)
    → EndsAt s rest y → Restored s t y.stem → Rejected m t u → Retreated m s u false
retreated m law s t u rest y h room tried at r rej =
    let e = back_next m s t rest y h at r in
    record {
      refuted = λ x. absurd (both_ways false refl x);
      searching = λ _. rej.searching;
      shorter = λ _. omega (arith, ap length rej.same, e.0, at.in_choice);
      keeps = λ _. back_counts m law s t u rest y h room tried at r rej;
    }

pub ended_all : (m : Meaning) (s u : State) → IsSearching m s → length s.choice.items < m.stems → length s.top.reasons.items ≡ m.candidates (length s.choice.items) → s.top.set.items ≡ [] → u.nogoods.items ≡ s.nogoods.items ++ top_nogood s ∷ [] → Retreated m s u true
ended_all m s u h room tried empty e =
    record {
      refuted = λ _. ended m s u.nogoods.items h room tried empty e;
      searching = λ x. absurd (both_ways true x refl);
      shorter = λ x. absurd (both_ways true x refl);
      keeps = λ x. absurd (both_ways true x refl);
    }

pub ends_of : (m : Meaning) (s : State) (count : ℕ) (rest : List Pair) (y : Pair) → IsSearching m s → length s.top.set.items ≡ count → (count ≡ 0 → ⊥) → y ≡ get_or s.top.set.items (count - 1) y → rest ≡ take (count - 1) s.top.set.items → EndsAt s rest y
ends_of m s count rest y h len some e f =
    let n = count - 1 in
    let P : List Pair → Type 0 = λ r. EndsAt s r y in
    let Q : Pair → Type 0 = λ x. EndsAt s (take n s.top.set.items) x in
    subst P (sym f) (subst Q (sym e) (ends_at m s n y h (omega (arith, len, some))))

pub moved_found : (m : Meaning) (s0 s t : State) (b : Bool) → KeepsCount m s0 s → Settled m s t b → b ≡ true → Moved m s0 t true
moved_found m s0 s t b keeps h e =
    record { refuted = λ x. absurd (both_ways true x refl); searching = λ _. h.searching; begins = λ _. h.begins e; room = λ x. h.room; keeps = λ _ n k. h.keeps n (keeps n k) }

pub moved_end : (m : Meaning) (s0 t u : State) (b : Bool) → Retreated m t u b → b ≡ true → Moved m s0 u false
moved_end m s0 t u b h e =
    record { refuted = λ _. h.refuted e; searching = λ x. absurd (both_ways false refl x); begins = λ x. absurd (both_ways false refl x); room = λ x. absurd (both_ways false refl x); keeps = λ x. absurd (both_ways false refl x) }

pub nothing_broken : (m : Meaning) → Lawful m → BreaksNone m []
nothing_broken m law t lt = false_from_ne_true (m.breaks t []) (λ e.
    let none : OnePerStem [] = λ i j d l h. absurd (omega arith) in
    let (q, (k, l, x), at) = law.decided t [] lt none e in
    omega (arith, l))

pub started : (m : Meaning) → Lawful m → (s : State) → s.choice.items ≡ [] → s.pairs.items ≡ [] → s.levels.items ≡ [] → s.top.set.items ≡ [] → s.top.reasons.items ≡ [] → s.nogoods.items ≡ [] → IsSearching m s
started m law s e1 e2 e3 e4 e5 e6 =
    let at : place s ≡ 0 ∷ [] = ap (λ l. l ++ length s.top.reasons.items ∷ []) e1 ∙ ap (λ n. n ∷ []) (ap length e5) in
    let nil : IsBeginning m [] = record { fits = omega arith; offered = λ i l. absurd (omega arith); holds = nothing_broken m law } in
    record {
      paired = e2 ∙ ap pairs (sym e1);
      begun = subst (λ (l : List ℕ). IsBeginning m l) (sym e1) nil;
      learned = λ i g e. absurd (none-some g (subst (λ (l : List Nogood). slice_get l i ≡ Some g) e6 e));
      sorted = λ k d l. absurd (let e = ap length e6 in omega (arith, l, e));
      as_deep = ap length e3 ∙ sym (ap length e1);
      levels = λ i level e. absurd (none-some level (subst (λ (l : List Level). slice_get l i ≡ Some level) e3 e));
      top = record {
        within = λ k d l. absurd (let e = ap length e4 in omega (arith, l, e));
        ascends = λ i j d l n. absurd (let e = ap length e4 in omega (arith, n, e));
        explained = λ k r e. absurd (none-some r (subst (λ (x : List Reason). slice_get x k ≡ Some r) e5 e));
      };
      tried = λ _. omega (arith, ap length e5);
      ahead = λ w solves. subst (λ (l : List ℕ). NotLater l w) (sym at) (NotLater-down [] w tt);
    }

pub started_count : (m : Meaning) (s : State) → s.choice.items ≡ [] → IsCounted m s 0
started_count m s e1 = record { counted = λ best is. omega arith; deep = omega (arith, ap length e1) }

pub chosen_is : (m : Meaning) (s : State) (choice : Vec ℕ Global) (n limit : ℕ) → IsSearching m s → IsCounted m s n → n ≤ limit → length s.choice.items ≡ m.stems → choice ≡ s.choice → IsFirst m choice.items × (m.stems ≤ limit)
chosen_is m s choice n limit h k le whole e =
    (subst (λ (l : List ℕ). IsFirst m l) (sym (ap (λ (v : Vec ℕ Global). v.items) e)) (chosen m s h whole), omega (arith, k.deep, whole))

pub refuted_is : (m : Meaning) (ns : Vec Nogood Global) (ns' : Vec Nogood Global) → IsTidyRefutation m ns'.items → ns ≡ ns' → IsTidyRefutation m ns.items
refuted_is m ns ns' h e = subst (λ (v : Vec Nogood Global). IsTidyRefutation m v.items) (sym e) h

pub free_more : (p : List ℕ) (more : Pair) (whole : List Pair) → whole ≡ pairs p → more.stem ≡ length p → All (λ q. q.stem ≢ more.stem) whole
free_more p more whole e at =
    subst (λ (n : ℕ). All (λ q. q.stem ≢ n) whole) (sym at) (subst (λ (s : List Pair). All (λ q. q.stem ≢ length p) s) (sym e) (free_of_top p (pairs p) (Within-self (pairs p))))

pub settled_next : (m : Meaning) (s0 s : State) → IsSearching m s → s.choice.items ≡ s0.choice.items → KeepsCount m s0 s → length s.choice.items < m.stems → length s.top.reasons.items < m.candidates (length s.choice.items) → BreaksNone m (pairs (place s)) → Settled m s0 s true
settled_next m s0 s h same keeps room lt none = settled_found m s0 s (length s.top.reasons.items) h same keeps room refl lt none

pub next_is : (s : State) (stem candidate : ℕ) → stem ≡ length s.choice.items → length s.top.reasons.items ≡ candidate → pair stem candidate ≡ next_pair s
next_is s stem candidate e f = ap (λ n. pair n candidate) e ∙ ap (λ n. pair (length s.choice.items) n) (sym f)

pub judged_none : (m : Meaning) (s : State) (more : Pair) (choice : List ℕ) → choice ≡ s.choice.items → more ≡ next_pair s → BreaksNone m (pairs (choice ++ more.candidate ∷ [])) → BreaksNone m (pairs (place s))
judged_none m s more choice e f none =
    let P : List ℕ → Type 0 = λ l. BreaksNone m (pairs l) in
    subst P (ap (λ l. l ++ more.candidate ∷ []) e ∙ ap (λ (q : Pair). s.choice.items ++ q.candidate ∷ []) f) none

pub judged_core : (m : Meaning) (s : State) (more : Pair) (ns : List Nogood) (whole : List Pair) (r : Reason) (core : List Pair) → ns ≡ s.nogoods.items → whole ≡ s.pairs.items → more ≡ next_pair s → IsCore m ns whole more r core → IsCore m s.nogoods.items s.pairs.items (next_pair s) r core
judged_core m s more ns whole r core a b e h =
    let P : List Nogood → Type 0 = λ l. IsCore m l whole more r core in
    let Q : List Pair → Type 0 = λ l. IsCore m s.nogoods.items l more r core in
    let R : Pair → Type 0 = λ q. IsCore m s.nogoods.items s.pairs.items q r core in
    subst R e (subst Q b (subst P a h))

-- the set with which a stem is begun
pub first_as : (m : Meaning) (s : State) (pushed seen set top : List Pair) → IsSearching m s → pushed ≡ s.pairs.items ++ next_pair s ∷ [] → seen ≡ pushed → top ≡ set → IsSubset set seen × (Ascends seen → Ascends set) → IsSubset top pushed × Ascends top
first_as m s pushed seen set top h e f g (within, up) =
    let paired : pushed ≡ pairs (place s) = e ∙ ap (λ l. l ++ next_pair s ∷ []) h.paired ∙ sym (pairs-push s.choice.items (length s.top.reasons.items)) in
    let ascends : Ascends seen = Ascends-as pushed seen (sym f) (Ascends-of (place s) pushed paired) in
    (Within-of set top seen pushed (sym g) f within, Ascends-as set top (sym g) (up ascends))

pub same_set : (set whole : List Pair) → set ≡ whole → IsSubset set whole × (Ascends whole → Ascends set)
same_set set whole e = (subst (λ (s : List Pair). IsSubset set s) e (Within-self set), λ up. Ascends-as whole set (sym e) up)
