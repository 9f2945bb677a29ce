-- Which of the patterns that were looked at decides a facet.
use Rattle.std.proofs.Common.{◌≡◌, ◌≢◌, ℕ, ◌<◌, ◌≤◌, Bool, true, false, cond, List, [], ◌∷◌, ◌++◌, length, Option, Some, None, refl, sym, ap, ◌∙◌, subst, inl, inr, arith, append_assoc}
use Rattle.std.specs.Map.{keys_of}
use Rattle.std.specs.Str.{bytes_eq}
use Rattle.std.specs.Ordering.{nat_cmp, is_eq, ordering_reverse}
use Rattle.std.specs.Option.{unwrap_or}
use Rattle.std.proofs.lemmas.Map.Text.{is_eq-slice_cmp}
use Rattle.std.specs.Cmp.Lexicographic.{slice_cmp}
use Rattle.std.specs.declared.cmp.Ordering.{Ordering}
use Rattle.std.specs.declared.cmp.Ordering.TheVariants.{Less, Equal, Greater}
use Rattle.std.specs.List.{AllByRecursion}
use Rattle.std.specs.List.Sorted.{IsStrictlySortedBy}
use Rattle.std.proofs.lemmas.List.{append-nil}
use Rattle.std.proofs.lemmas.Slice.Eq.{bytes_eq-Decides}
use Rattle.std.proofs.lemmas.Bool.{cases_Bool, cases_lt, false_from_ne_true}
use Rattle.std.proofs.lemmas.Cmp.{tied_itself, nat_list_cmp_total}
use Rattle.ips_filter.specs.Settings.{Set, value_at, AreByName}
use Rattle.ips_filter.specs.Facet.{Outranks, IsMet, IsLongerMatch, HasFacet}
use Rattle.ips_text.proofs.Orders.{less_not_greater}

abbrev pub Facets : Type 0
Facets = List (List ℕ × Bool)

-- the pattern is one of these, it matches, and it outranks each that does
pub record IsFirstOf (es : Facets) (name pattern : List ℕ) (on : Bool) : Type 0 where
  before : Facets
  after : Facets
  parts : es ≡ before ++ (pattern, on) ∷ after
  matches : IsMet pattern name
  first : AllByRecursion (λ e. IsMet e.0 name → Outranks pattern e.0) es

-- what was found among these: the first of those that match, or nothing where none does
abbrev pub Longest : Facets → List ℕ → Option (List ℕ × Bool) → Type 0
Longest es name None = AllByRecursion (λ e. IsMet e.0 name → ⊥) es
Longest es name (Some x) = IsFirstOf es name x.0 x.1

pub all_end : {X : Type 0} (P : X → Type 0) (xs : List X) (y : X) → AllByRecursion P xs → P y → AllByRecursion P (xs ++ y ∷ [])
all_end P [] y all p = (p, tt)
all_end P (x ∷ xs) y all p = (all.0, all_end P xs y all.1 p)

pub all_weaker : {X : Type 0} (P Q : X → Type 0) (xs : List X) → ((x : X) → P x → Q x) → AllByRecursion P xs → AllByRecursion Q xs
all_weaker P Q [] weaker all = tt
all_weaker P Q (x ∷ xs) weaker all = (weaker x all.0, all_weaker P Q xs weaker all.1)

-- a name before another one is less
rises_at : (after rest : Facets) (p : List ℕ) (e : List ℕ × Bool) → AllByRecursion (λ y. slice_cmp nat_cmp p y ≡ Less) (keys_of (after ++ e ∷ rest)) → slice_cmp nat_cmp p e.0 ≡ Less
rises_at [] rest p e all = all.0
rises_at (a ∷ after) rest p e all = rises_at after rest p e all.1

rises : (before after rest : Facets) (p e : List ℕ × Bool) → AreByName (before ++ p ∷ (after ++ e ∷ rest)) → slice_cmp nat_cmp p.0 e.0 ≡ Less
unfolding IsStrictlySortedBy
rises [] after rest p e sorted = rises_at after rest p.0 e sorted.0
rises (b ∷ before) after rest p e sorted = rises before after rest p e sorted.1

-- ---- one more pattern

-- it doesn't match
pub unmet : (es : Facets) (name : List ℕ) (e : List ℕ × Bool) (found : Option (List ℕ × Bool)) → (IsMet e.0 name → ⊥) → Longest es name found → Longest (es ++ e ∷ []) name found
unmet es name e None never none = all_end _ es e none never
unmet es name e (Some x) never one = record {
  before = one.before;
  after = one.after ++ e ∷ [];
  parts = ap (λ (l : Facets). l ++ e ∷ []) one.parts ∙ append_assoc one.before (x ∷ one.after) (e ∷ []);
  matches = one.matches;
  first = all_end _ es e one.first (λ m. absurd (never m));
}

itself : (p : List ℕ) → slice_cmp nat_cmp p p ≢ Greater
itself p greater = let same : Equal ≡ Greater = sym (tied_itself nat_list_cmp_total p) ∙ greater in absurd cc

apart : (b p : List ℕ) → slice_cmp nat_cmp b p ≡ Less → bytes_eq p b ≡ false
apart b p less = false_from_ne_true (bytes_eq p b) (λ same.
    let tied : Less ≡ Equal = sym less ∙ ap (slice_cmp nat_cmp b) ((bytes_eq-Decides p b).0 same) ∙ tied_itself nat_list_cmp_total b in absurd cc)

outranks_here : (p q : List ℕ) → length q ≤ length p → slice_cmp nat_cmp p q ≡ Less → Outranks p q
outranks_here p q le less = elim (cases_lt (length q) (length p)) [
  | inl shorter ↦ inl shorter
  | inr ge ↦ inr (omega (arith, le, ge), less_not_greater (slice_cmp nat_cmp p q) less)
]

-- it isn't longer than the one that was found
pub not_longer : (es rest : Facets) (name : List ℕ) (e x : List ℕ × Bool) → length e.0 ≤ length x.0 → AreByName (es ++ e ∷ rest) → Longest es name (Some x) → Longest (es ++ e ∷ []) name (Some x)
not_longer es rest name e x le sorted one =
    let whole : es ++ e ∷ rest ≡ one.before ++ x ∷ (one.after ++ e ∷ rest) = ap (λ (l : Facets). l ++ e ∷ rest) one.parts ∙ append_assoc one.before (x ∷ one.after) (e ∷ rest) in
    let less = rises one.before one.after rest x e (subst AreByName whole sorted) in
    record {
      before = one.before;
      after = one.after ++ e ∷ [];
      parts = ap (λ (l : Facets). l ++ e ∷ []) one.parts ∙ append_assoc one.before (x ∷ one.after) (e ∷ []);
      matches = one.matches;
      first = all_end _ es e one.first (λ m. outranks_here x.0 e.0 le less);
    }

outranked : (p q e : List ℕ) → length p < length e → Outranks p q → Outranks e q
outranked p q e longer is = inl (elim is [ inl shorter ↦ omega (arith, longer, shorter) | inr tied ↦ omega (arith, longer, tied.0) ])

-- it matches, and is longer
pub longer : (es : Facets) (name : List ℕ) (e : List ℕ × Bool) (found : Option (List ℕ × Bool)) → IsLongerMatch found e.0 name → Longest es name found → Longest (es ++ e ∷ []) name (Some e)
longer es name e None is none = record {
  before = es;
  after = [];
  parts = refl;
  matches = is;
  first = all_end (λ d. IsMet d.0 name → Outranks e.0 d.0) es e (all_weaker _ _ es (λ d never met. absurd (never met)) none) (λ met. inr (refl, itself e.0));
}
longer es name e (Some x) is one = record {
  before = es;
  after = [];
  parts = refl;
  matches = is.1;
  first = all_end (λ d. IsMet d.0 name → Outranks e.0 d.0) es e (all_weaker _ _ es (λ d ranks met. outranked x.0 d.0 e.0 is.0 (ranks met)) one.first) (λ met. inr (refl, itself e.0));
}

-- it doesn't match, or isn't longer
pub stays : (es rest : Facets) (name : List ℕ) (e : List ℕ × Bool) (found : Option (List ℕ × Bool)) → (IsLongerMatch found e.0 name → ⊥) → AreByName (es ++ e ∷ rest) → Longest es name found → Longest (es ++ e ∷ []) name found
stays es rest name e None never sorted none = unmet es name e None never none
stays es rest name e (Some x) never sorted one = elim (cases_lt (length x.0) (length e.0)) [
  | inl longer ↦ unmet es name e (Some x) (λ met. never (longer, met)) one
  | inr le ↦ not_longer es rest name e x le sorted one
]

-- ---- at the end

at_itself : (before after : Facets) (p : List ℕ) (on : Bool) → AreByName (before ++ (p, on) ∷ after) → value_at (before ++ (p, on) ∷ after) p ≡ Some on
unfolding IsStrictlySortedBy
at_itself [] after p on sorted = ap (λ (b : Bool). cond b (Some on) (value_at after p)) ((bytes_eq-Decides p p).1 refl)
at_itself (b ∷ before) after p on sorted =
    ap (λ (t : Bool). cond t (Some b.1) (value_at (before ++ (p, on) ∷ after) p)) (apart b.0 p (rises_at before after b.0 (p, on) sorted.0)) ∙ at_itself before after p on sorted.1

-- what holds of all names holds of one at which something is set
pub all_at : (P : List ℕ → Type 0) (es : Facets) (q : List ℕ) (v : Bool) → AllByRecursion (λ e. P e.0) es → value_at es q ≡ Some v → P q
all_at P [] q v all at = absurd cc
all_at P (e ∷ es) q v all at = elim (cases_Bool (bytes_eq q e.0)) [
  | inl same ↦ subst P (sym ((bytes_eq-Decides q e.0).0 same)) all.0
  | inr differs ↦ all_at P es q v all.1 (sym (ap (λ (t : Bool). cond t (Some e.1) (value_at es q)) differs) ∙ at)
]

pub decided : (s : Set) (name : List ℕ) (x : List ℕ × Bool) → AreByName s.facets → Longest s.facets name (Some x) → HasFacet s name x.1
decided s name x sorted one = inl (
  x.0,
  record {
    set = ap (λ (l : Facets). value_at l x.0) one.parts ∙ at_itself one.before one.after x.0 x.1 (subst AreByName one.parts sorted);
    matches = one.matches;
    first = λ other value at met. all_at (λ q. IsMet q name → Outranks x.0 q) s.facets other value one.first at met;
  },
)

pub free : (s : Set) (name : List ℕ) → Longest s.facets name None → HasFacet s name true
free s name none = inr ((λ pattern value at met. all_at (λ q. IsMet q name → ⊥) s.facets pattern value none at met), refl)

-- ---- what a loop keeps

-- these were looked at, and those are left
pub moved : (all front rest left : Facets) (e : List ℕ × Bool) → all ≡ front ++ rest → rest ≡ e ∷ left → all ≡ (front ++ e ∷ []) ++ left
moved all front rest left e parts next = parts ∙ ap (λ (l : Facets). front ++ l) next ∙ sym (append_assoc front (e ∷ []) left)

-- nothing is left
pub whole : (all front rest : Facets) → all ≡ front ++ rest → rest ≡ [] → front ≡ all
whole all front rest parts none = sym (parts ∙ ap (λ (l : Facets). front ++ l) none ∙ append-nil front)

-- ---- a facet has one value

neither_greater : (r s : Ordering) → r ≡ ordering_reverse s → r ≢ Greater → s ≢ Greater → is_eq r ≡ true
neither_greater Less Less e a b = let same : Less ≡ Greater = e in absurd cc
neither_greater Less Equal e a b = let same : Less ≡ Equal = e in absurd cc
neither_greater Less Greater e a b = absurd (b refl)
neither_greater Equal s e a b = refl
neither_greater Greater s e a b = absurd (a refl)

one_of_both : (p q : List ℕ) → slice_cmp nat_cmp p q ≢ Greater → slice_cmp nat_cmp q p ≢ Greater → p ≡ q
one_of_both p q a b =
    (bytes_eq-Decides p q).0 (sym (is_eq-slice_cmp p q) ∙ neither_greater (slice_cmp nat_cmp p q) (slice_cmp nat_cmp q p) (nat_list_cmp_total.antisymm p q) a b)

some_once : (a b : Bool) → Some a ≡ Some b → a ≡ b
some_once a b same = ap (λ (o : Option Bool). unwrap_or o a) same

outranks_both : (p q : List ℕ) → Outranks p q → Outranks q p → p ≡ q
outranks_both p q a b = elim a [
  | inl shorter ↦ elim b [ inl longer ↦ absurd (omega (arith, shorter, longer)) | inr tied ↦ absurd (omega (arith, shorter, tied.0)) ]
  | inr tied ↦ elim b [ inl longer ↦ absurd (omega (arith, tied.0, longer)) | inr back ↦ one_of_both p q tied.1 back.1 ]
]

pub facet_once : (s : Set) (name : List ℕ) (a b : Bool) → HasFacet s name a → HasFacet s name b → a ≡ b
facet_once s name a b x y = elim x [
  | inl p ↦ elim y [
    | inl q ↦ some_once a b (sym p.1.set ∙ ap (value_at s.facets) (outranks_both p.0 q.0 (p.1.first q.0 b q.1.set q.1.matches) (q.1.first p.0 a p.1.set p.1.matches)) ∙ q.1.set)
    | inr free ↦ absurd (free.0 p.0 a p.1.set p.1.matches)
  ]
  | inr free ↦ elim y [
    | inl q ↦ absurd (free.0 q.0 b q.1.set q.1.matches)
    | inr other ↦ free.1 ∙ sym other.1
  ]
]
