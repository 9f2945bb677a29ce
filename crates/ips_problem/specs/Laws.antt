-- A puzzle's tests are facts about the pairs of their stems.
use Rattle.std.proofs.Common.{◌≡◌, ℕ, zero, suc, ◌<◌, ◌≤◌, Bool, true, false, not, ◌==◌, ◌&&◌, List, [], ◌∷◌, filter_map, All, Contains, length, slice_get, Option, Some, None, is_some, option_and_then, refl, sym, ap, subst, ◌∙◌, inl, inr, arith, eqb-true, eq-eqb, ne_eqb, bytes_eq}
use Rattle.std.specs.List.{list_all, cons_option, AllByRecursion}
use Rattle.std.proofs.lemmas.Bool.{both_ways, cases_Bool, or_cases, and_parts, and_from, cond-true, cond-false, cases_lt}
use Rattle.std.proofs.lemmas.Option.{none-some, same_Some}
use Rattle.std.proofs.lemmas.List.Elements.{All-contains}
use Rattle.std.proofs.lemmas.List.Quantifiers.{position-Some}
use Rattle.std.proofs.lemmas.Map.Views.{list_any-from_Contains, Contains-from_any}
use Rattle.std.proofs.lemmas.Slice.Eq.{bytes_eq-Decides}
use Rattle.std.specs.Cmp.Lexicographic.{nat_list_eq_equiv}
use Rattle.ips_fmri.specs.declared.fmri.Fmri.{Fmri}
use Rattle.ips_refute.specs.declared.nogoods.Pair.{Pair}
use Rattle.ips_refute.specs.Meaning.{Lawful, OnePerStem}
use Rattle.ips_depend.specs.Selection.{Selection, Spared}
use Rattle.ips_depend.specs.Dependency.{Dependency, mentions, stems}
use Rattle.ips_depend.specs.Holds.{holds}
use Rattle.ips_depend.proofs.Absence.{holds_alike}
use Rattle.ips_request.specs.Stems.{has}
use Rattle.ips_problem.specs.Posed.{Numbered, Posed, IsFormed, candidate_of, version_at, number_of, picked, before, spared, stems_of_test, greatest_of, is_number, decides, breaks, breaks_at, last_at, meaning_of}
use Rattle.ips_refute.proofs.Tables.{one_rest}

-- ---- dependencies

-- a stem that is among others, as a test finds it
pub has_contained : (stems : List (List ℕ)) (y : List ℕ) → Contains stems y → has y stems ≡ true
has_contained stems y c = list_any-from_Contains nat_list_eq_equiv y stems c

pub contained_had : (stems : List (List ℕ)) (y : List ℕ) → has y stems ≡ true → Contains stems y
contained_had stems y h = Contains-from_any (λ a b. (bytes_eq-Decides a b).0) y stems h

-- a dependency is judged by the stems that it mentions
judged_alike : (s t old : Selection) (sp : Spared) (d : Dependency) → ((y : List ℕ) → has y (stems (mentions d)) ≡ true → s y ≡ t y) → holds s old sp d ≡ holds t old sp d
judged_alike s t old sp d w = holds_alike d s t old old sp sp (record {
  selected = λ y c. w y (has_contained (stems (mentions d)) y c);
  sparing = λ y c. refl;
  earlier = λ y c. refl;
})

-- ---- numbers

-- the greatest of numbers below a bound is below it
greatest_below : (bound : ℕ) (is : List ℕ) → 0 < bound → AllByRecursion (λ (i : ℕ). i < bound) is → greatest_of is < bound
greatest_below bound [] h w = h
greatest_below bound (i ∷ is) h w = let r = greatest_below bound is h w.1 in let l = w.0 in omega arith

-- each of the numbers passes, and so does the greatest
greatest_passes : (test : ℕ → Bool) (i : ℕ) (is : List ℕ) → list_all test (i ∷ is) ≡ true → test (greatest_of (i ∷ is)) ≡ true
greatest_passes test i [] w = let same : greatest_of (i ∷ []) ≡ i = omega arith in ap test same ∙ (and_parts (test i) true w).0
greatest_passes test i (j ∷ js) w =
    let parts = and_parts (test i) (list_all test (j ∷ js)) w in
    let rest = greatest_passes test j js parts.1 in
    elim (cases_lt i (greatest_of (j ∷ js))) [
      | inl h ↦ let same : greatest_of (i ∷ j ∷ js) ≡ greatest_of (j ∷ js) = omega arith in ap test same ∙ rest
      | inr h ↦ let same : greatest_of (i ∷ j ∷ js) ≡ i = omega arith in ap test same ∙ parts.0
    ]

-- the numbers up to their greatest pass another test, where those that pass one pass the other
pub passes_too : (p q : ℕ → Bool) (bound : ℕ) (is : List ℕ) → greatest_of is ≤ bound → ((i : ℕ) → i ≤ bound → p i ≡ true → q i ≡ true) → list_all p is ≡ true → list_all q is ≡ true
passes_too p q bound [] l w h = refl
passes_too p q bound (i ∷ is) l w h =
    let parts = and_parts (p i) (list_all p is) h in
    let here : i ≤ bound = omega arith in
    let rest : greatest_of is ≤ bound = omega arith in
    and_from (q i) (list_all q is) (w i here parts.0) (passes_too p q bound is rest w parts.1)

-- ---- candidates of a set

-- what is there is some
pub some_of : {A : Type 0} (o : Option A) → is_some o ≡ true → (x : A) × (o ≡ Some x)
some_of None e = absurd (both_ways false refl e)
some_of (Some x) e = (x, refl)

abbrev paired : ℕ → ℕ → Pair
paired i k = record { stem = i; candidate = k }

-- the candidate of a set is in it
pub candidate_contained : (set : List Pair) (i k : ℕ) → candidate_of set i ≡ Some k → Contains set (paired i k)
candidate_contained [] i k e = absurd (none-some k e)
candidate_contained (q ∷ set) i k e = elim (cases_Bool (q.stem == i)) [
  | inl h ↦
      let at = same_Some q.candidate k (sym (cond-true (q.stem == i) (Some q.candidate) (candidate_of set i) h) ∙ e) in
      (0, omega arith, ap (λ (n : ℕ). paired n q.candidate) (eqb-true q.stem i h) ∙ ap (λ (n : ℕ). paired i n) at)
  | inr h ↦
      let (j, l, f) = candidate_contained set i k (sym (cond-false (q.stem == i) (Some q.candidate) (candidate_of set i) h) ∙ e) in
      (suc j, omega arith, f)
]

-- of a set with one pair for each stem, what is in it is its candidate
pub contained_candidate : (set : List Pair) (i k : ℕ) → OnePerStem set → Contains set (paired i k) → candidate_of set i ≡ Some k
contained_candidate [] i k one (j, l, e) = absurd (omega arith)
contained_candidate (q ∷ set) i k one (zero, l, e) =
    cond-true (q.stem == i) (Some q.candidate) (candidate_of set i) (eq-eqb q.stem i (ap (λ (p : Pair). p.stem) e)) ∙ ap (λ (p : Pair). Some p.candidate) e
contained_candidate (q ∷ set) i k one (suc j, l, e) =
    let apart : q.stem ≡ i → ⊥ = λ s. one 0 (suc j) (paired i k) (omega arith) (omega arith) (s ∙ sym (ap (λ (p : Pair). p.stem) e)) in
    let rest : j < length set = omega arith in
    cond-false (q.stem == i) (Some q.candidate) (candidate_of set i) (ne_eqb q.stem i apart) ∙ contained_candidate set i k (one_rest q set one) (j, rest, e)

-- the pairs of the set of stems up to a last one are all in the other set
abbrev Keeps : ℕ → List Pair → List Pair → Type 0
Keeps last set other = All (λ q. q.stem ≤ last → Contains other q) set

-- so a candidate of such a stem is that of the other set
kept_candidate : (last : ℕ) (set other : List Pair) (i k : ℕ) → Keeps last set other → OnePerStem other → i ≤ last → candidate_of set i ≡ Some k → candidate_of other i ≡ Some k
kept_candidate last set other i k w one l e =
    let there = candidate_contained set i k e in
    contained_candidate other i k one (All-contains (λ (q : Pair). q.stem ≤ last → Contains other q) set (paired i k) w there l)

-- ---- tests

-- the numbers of the FMRIs' stems, where they have one
abbrev numbers_of : Posed → List Fmri → List ℕ
numbers_of p fs = filter_map (λ (f : Fmri). number_of p f.stem) fs

-- a number is that of a stem
number_below : (p : Posed) (stem : List ℕ) (i : ℕ) → number_of p stem ≡ Some i → i < length p.stems
number_below p stem i e = (position-Some (bytes_eq stem) p.stems i stem e).0

-- what holds of a number, where it is there, and of the others, holds of all
all_cons : (P : ℕ → Type 0) (o : Option ℕ) (others : List ℕ) → ((i : ℕ) → o ≡ Some i → P i) → AllByRecursion P others → AllByRecursion P (cons_option o others)
all_cons P None others w rest = rest
all_cons P (Some i) others w rest = (w i refl, rest)

first_of : (P : ℕ → Type 0) (o : Option ℕ) (others : List ℕ) (i : ℕ) → o ≡ Some i → AllByRecursion P (cons_option o others) → P i
first_of P None others i e all = absurd (none-some i e)
first_of P (Some j) others i e all = subst P (same_Some j i e) all.0

rest_of : (P : ℕ → Type 0) (o : Option ℕ) (others : List ℕ) → AllByRecursion P (cons_option o others) → AllByRecursion P others
rest_of P None others all = all
rest_of P (Some j) others all = all.1

numbers_below : (p : Posed) (fs : List Fmri) → AllByRecursion (λ (i : ℕ). i < length p.stems) (numbers_of p fs)
numbers_below p [] = tt
numbers_below p (f ∷ fs) = all_cons (λ i. i < length p.stems) (number_of p f.stem) (numbers_of p fs) (number_below p f.stem) (numbers_below p fs)

-- what holds of the numbers of FMRIs' stems holds of the number of each of the stems
pub number_among : (P : ℕ → Type 0) (p : Posed) (fs : List Fmri) (y : List ℕ) (i : ℕ) → has y (stems fs) ≡ true → number_of p y ≡ Some i → AllByRecursion P (numbers_of p fs) → P i
number_among P p [] y i h e all = absurd (both_ways false refl h)
number_among P p (f ∷ fs) y i h e all = elim (or_cases (bytes_eq y f.stem) (has y (stems fs)) h) [
  | inl same ↦
      let here : number_of p f.stem ≡ Some i = ap (number_of p) (sym ((bytes_eq-Decides y f.stem).0 same)) ∙ e in
      first_of P (number_of p f.stem) (numbers_of p fs) i here all
  | inr later ↦ number_among P p fs y i later e (rest_of P (number_of p f.stem) (numbers_of p fs) all)
]

-- the sets have one candidate for each of the numbers
alike_numbers : (last : ℕ) (set other : List Pair) (is : List ℕ) → Keeps last set other → OnePerStem other → greatest_of is ≤ last → decides set is ≡ true → AllByRecursion (λ (i : ℕ). candidate_of set i ≡ candidate_of other i) is
alike_numbers last set other [] w one l e = tt
alike_numbers last set other (i ∷ is) w one l e =
    let parts = and_parts (is_some (candidate_of set i)) (decides set is) e in
    let (k, at) = some_of (candidate_of set i) parts.0 in
    let here : i ≤ last = omega arith in
    let rest : greatest_of is ≤ last = omega arith in
    (at ∙ sym (kept_candidate last set other i k w one here at), alike_numbers last set other is w one rest parts.1)

-- where the candidates of a number are one, so are the versions
then_alike : (p : Posed) (set other : List Pair) (o : Option ℕ) → ((i : ℕ) → o ≡ Some i → candidate_of set i ≡ candidate_of other i)
    → option_and_then (λ i. version_at (slice_get p.rows i) (candidate_of set i)) o ≡ option_and_then (λ i. version_at (slice_get p.rows i) (candidate_of other i)) o
then_alike p set other None w = refl
then_alike p set other (Some i) w = ap (version_at (slice_get p.rows i)) (w i refl)

-- the other set decides what the set decides
decides_too : (set other : List Pair) (is : List ℕ) → AllByRecursion (λ (i : ℕ). candidate_of set i ≡ candidate_of other i) is → decides set is ≡ true → decides other is ≡ true
decides_too set other [] w e = refl
decides_too set other (i ∷ is) w e =
    let parts = and_parts (is_some (candidate_of set i)) (decides set is) e in
    and_from (is_some (candidate_of other i)) (decides other is) (ap is_some (sym w.0) ∙ parts.0) (decides_too set other is w.1 parts.1)

-- a set that breaks a test shares that with each that has its pairs up to the test's last stem
keeps_breaking : (p : Posed) (set other : List Pair) (n : Numbered) → Keeps (greatest_of (stems_of_test p n)) set other → OnePerStem other → breaks p set n ≡ true → breaks p other n ≡ true
keeps_breaking p set other n w one e =
    let outer = and_parts (is_number (candidate_of set n.stem) n.candidate && decides set (stems_of_test p n)) (not (holds (picked p set) (before p) (spared p) n.dependency)) e in
    let inner = and_parts (is_number (candidate_of set n.stem) n.candidate) (decides set (stems_of_test p n)) outer.0 in
    let alike = alike_numbers (greatest_of (stems_of_test p n)) set other (stems_of_test p n) w one (omega arith) inner.1 in
    let own : is_number (candidate_of other n.stem) n.candidate ≡ true = ap (λ o. is_number o n.candidate) (sym alike.0) ∙ inner.0 in
    let mentioned = λ (y : List ℕ) (h : has y (stems (mentions n.dependency)) ≡ true). then_alike p set other (number_of p y)
    (λ i at. number_among (λ i. candidate_of set i ≡ candidate_of other i) p (mentions n.dependency) y i h at alike.1) in
    let same = judged_alike (picked p set) (picked p other) (before p) (spared p) n.dependency mentioned in
    and_from (is_number (candidate_of other n.stem) n.candidate && decides other (stems_of_test p n)) (not (holds (picked p other) (before p) (spared p) n.dependency))
    (and_from (is_number (candidate_of other n.stem) n.candidate) (decides other (stems_of_test p n)) own (decides_too set other (stems_of_test p n) alike inner.1))
    (ap not (sym same) ∙ outer.1)

-- ---- the law

stem_below : (p : Posed) (ns : List Numbered) (t : ℕ) (n : Numbered) → AllByRecursion (λ (n : Numbered). n.stem < length p.stems) ns → slice_get ns t ≡ Some n → n.stem < length p.stems
stem_below p [] t n all e = absurd (none-some n e)
stem_below p (m ∷ ns) zero n all e = subst (λ (o : Numbered). o.stem < length p.stems) (same_Some m n e) all.0
stem_below p (m ∷ ns) (suc t) n all e = stem_below p ns t n all.1 e

known_at : (p : Posed) (ns : List Numbered) (t : ℕ) → AllByRecursion (λ (n : Numbered). n.stem < length p.stems) ns → t < length ns → last_at p (slice_get ns t) < length p.stems
known_at p [] t all l = absurd (omega arith)
known_at p (n ∷ ns) zero all l =
    let own = all.0 in
    let some : 0 < length p.stems = omega arith in
    greatest_below (length p.stems) (stems_of_test p n) some (own, numbers_below p (mentions n.dependency))
known_at p (n ∷ ns) (suc t) all l = known_at p ns t all.1 (omega arith)

decided_at : (p : Posed) (o : Option Numbered) (set : List Pair) → breaks_at p set o ≡ true → (q : Pair) × Contains set q × (q.stem ≡ last_at p o)
decided_at p None set e = absurd (both_ways false refl e)
decided_at p (Some n) set e =
    let outer = and_parts (is_number (candidate_of set n.stem) n.candidate && decides set (stems_of_test p n)) (not (holds (picked p set) (before p) (spared p) n.dependency)) e in
    let inner = and_parts (is_number (candidate_of set n.stem) n.candidate) (decides set (stems_of_test p n)) outer.0 in
    let last = greatest_passes (λ i. is_some (candidate_of set i)) n.stem (numbers_of p (mentions n.dependency)) inner.1 in
    let (k, at) = some_of (candidate_of set (greatest_of (stems_of_test p n))) last in
    (paired (greatest_of (stems_of_test p n)) k, candidate_contained set (greatest_of (stems_of_test p n)) k at, refl)

keeps_at : (p : Posed) (o : Option Numbered) (set other : List Pair) → Keeps (last_at p o) set other → OnePerStem other → breaks_at p set o ≡ true → breaks_at p other o ≡ true
keeps_at p None set other w one e = e
keeps_at p (Some n) set other w one e = keeps_breaking p set other n w one e

-- what is formed means a puzzle
pub posed_lawful : (p : Posed) → IsFormed p → Lawful (meaning_of p)
posed_lawful p formed = record {
  known = λ t l. known_at p p.tests t formed.tests l;
  decided = λ t set l one e. decided_at p (slice_get p.tests t) set e;
  keeps = λ t set other l a b e w. keeps_at p (slice_get p.tests t) set other w b e;
}
