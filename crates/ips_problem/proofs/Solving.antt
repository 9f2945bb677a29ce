-- Choices that break no test, and admissible selections.
use Rattle.std.proofs.Common.{◌≡◌, ℕ, zero, suc, ◌+◌, ◌<◌, Bool, true, false, not, ◌&&◌, List, [], ◌∷◌, ◌++◌, filter_map, flat_map, take, length, slice_get, slice_index, get_or, Contains, Option, Some, None, is_some, option_map, refl, sym, ap, subst, ◌∙◌, inl, inr, arith, eq-eqb}
use Rattle.std.specs.List.{cons_option, AllByRecursion}
use Rattle.std.proofs.lemmas.List.{length-map}
use Rattle.std.proofs.lemmas.Bool.{both_ways, cases_Bool, and_parts, and_from, false_from_ne_true}
use Rattle.std.proofs.lemmas.Option.{none-some, same_Some, slice_get_within, slice_get-get_or, get_or_from_slice_get}
use Rattle.ips_fmri.specs.Version.{Parts}
use Rattle.ips_fmri.specs.declared.fmri.Fmri.{Fmri}
use Rattle.ips_refute.specs.declared.nogoods.Pair.{Pair}
use Rattle.ips_refute.specs.Meaning.{pairs, Solves, HasNoChoice}
use Rattle.ips_search.specs.Best.{IsFirst}
use Rattle.ips_depend.specs.Selection.{Selection}
use Rattle.ips_depend.specs.Dependency.{Dependency, mentions, wanted, stems}
use Rattle.ips_depend.specs.Holds.{holds}
use Rattle.ips_request.specs.Stems.{has}
use Rattle.ips_state.specs.State.{Installed}
use Rattle.ips_request.specs.Case.{Case, installed_at, installed_version, is_installed}
use Rattle.ips_request.specs.Candidates.{candidates, is_spared}
use Rattle.ips_request.proofs.StemLists.{AreDistinct, distinct_firsts, number_found, number_within, standing_has, own_number}
use Rattle.ips_problem.specs.Reach.{dependencies_of, seeds, drawn_in, IsReach}
use Rattle.ips_problem.specs.Selecting.{IsAdmissible, restricted, IsWithin, AreCandidateNumbers, IsBestSelection}
use Rattle.ips_problem.specs.Posed.{Numbered, offer_of, posed, candidate_of, count_at, number_of, picked, before, spared, stems_of_test, is_number, decides, breaks, breaks_at, meaning_of}
use Rattle.ips_problem.proofs.Members.{Among, contained_at, at_contained, among_at, place_among, all_from_among, all_at_among}
use Rattle.ips_problem.proofs.Reached.{absence_offered, installed_in_reach, wanted_in_reach}
use Rattle.ips_problem.proofs.Restricting.{restricted_admissible, restricted_within}
use Rattle.ips_problem.proofs.CaseTests.{test, test_of, tested}
use Rattle.ips_problem.proofs.Picking.{chosen_at, row_at, picked_at, picked_apart, before_in_reach, before_apart, spared_in_reach, judged_by_wanted, is_number_true}

-- ---- numbers of a selection

pub length_numbers : (c : Case) (s : Selection) (stems : List (List ℕ)) (numbers : List ℕ) → AreCandidateNumbers c s stems numbers → length numbers ≡ length stems
length_numbers c s [] [] a = refl
length_numbers c s [] (k ∷ numbers) a = absurd a
length_numbers c s (stem ∷ stems) [] a = absurd a
length_numbers c s (stem ∷ stems) (k ∷ numbers) a = ap suc (length_numbers c s stems numbers a.1)

-- the number of the stem at a place
number_at : (c : Case) (s : Selection) (stems : List (List ℕ)) (numbers : List ℕ) (i : ℕ) (stem : List ℕ) → AreCandidateNumbers c s stems numbers → slice_get stems i ≡ Some stem
    → (k : ℕ) × (slice_get numbers i ≡ Some k) × (slice_get (candidates c stem) k ≡ Some (s stem))
number_at c s [] numbers i stem a e = absurd (none-some stem e)
number_at c s (t ∷ stems) [] i stem a e = absurd a
number_at c s (t ∷ stems) (k ∷ numbers) zero stem a e =
    let same = same_Some t stem e in (k, refl, subst (λ x. slice_get (candidates c x) k ≡ Some (s x)) same a.0)
number_at c s (t ∷ stems) (k ∷ numbers) (suc i) stem a e = number_at c s stems numbers i stem a.1 e

-- an admissible selection has numbers
pub numbers_of : (c : Case) (s : Selection) (stems : List (List ℕ)) → IsAdmissible c s → (numbers : List ℕ) × AreCandidateNumbers c s stems numbers
numbers_of c s [] a = ([], tt)
numbers_of c s (stem ∷ stems) a =
    let (k, at) = contained_at (candidates c stem) (s stem) (a.offered stem) in
    let (numbers, rest) = numbers_of c s stems a in
    (k ∷ numbers, (at, rest))

-- ---- from a selection to a choice

-- the numbers of a selection pick it
picks_it : (c : Case) (reach : List (List ℕ)) (s : Selection) (numbers : List ℕ) → IsWithin reach s → AreCandidateNumbers c s reach numbers → (y : List ℕ) → picked (posed c reach) (pairs numbers) y ≡ s y
picks_it c reach s numbers w a y = elim (cases_Bool (has y reach)) [
  | inl h ↦
      let (i, number, at) = number_found y reach h in
      let (k, chosen, offered) = number_at c s reach numbers i y a at in
      picked_at c reach numbers y i k (s y) number at chosen offered
  | inr h ↦ picked_apart c reach (pairs numbers) y h ∙ sym (w y h)
]

none_version : (o : Option Installed) → is_some o ≡ false → option_map (λ (p : Installed). p.version) o ≡ None
none_version None e = refl
none_version (Some p) e = absurd (both_ways true e refl)

-- the puzzle's old selection is what is installed
before_all : (c : Case) (reach : List (List ℕ)) → IsReach c reach → (y : List ℕ) → before (posed c reach) y ≡ installed_version c y
before_all c reach r y = elim (cases_Bool (has y reach)) [
  | inl h ↦ before_in_reach c reach y h
  | inr h ↦
      let apart = false_from_ne_true (is_installed c y) (λ e. both_ways (has y reach) h (installed_in_reach c reach y r e)) in
      before_apart c reach y h ∙ sym (none_version (installed_at c y) apart)
]

-- a test of an admissible selection isn't broken
unbroken : (c : Case) (reach : List (List ℕ)) (s : Selection) (numbers : List ℕ) (n : Numbered) → IsReach c reach → IsAdmissible c s → IsWithin reach s → AreCandidateNumbers c s reach numbers
    → Among n (posed c reach).tests → breaks (posed c reach) (pairs numbers) n ≡ true → ⊥
unbroken c reach s numbers n r a w are among e =
    let p = posed c reach in
    let outer = and_parts (is_number (candidate_of (pairs numbers) n.stem) n.candidate && decides (pairs numbers) (stems_of_test p n)) (not (holds (picked p (pairs numbers)) (before p) (spared p) n.dependency)) e in
    let inner = and_parts (is_number (candidate_of (pairs numbers) n.stem) n.candidate) (decides (pairs numbers) (stems_of_test p n)) outer.0 in
    let t = test_of c 0 reach n among in
    let place : n.stem ≡ t.place = t.number ∙ omega arith in
    let chosen = sym (chosen_at numbers t.place) ∙ ap (candidate_of (pairs numbers)) (sym place) ∙ is_number_true (candidate_of (pairs numbers) n.stem) n.candidate inner.0 in
    let (k, own, offered) = number_at c s reach numbers t.place t.stem are t.at in
    let same : n.candidate ≡ k = same_Some n.candidate k (sym chosen ∙ own) in
    let it = same_Some t.candidate (s t.stem) (sym t.offered ∙ ap (slice_get (candidates c t.stem)) same ∙ offered) in
    let asked = subst (λ o. Among n.dependency (dependencies_of c t.stem o)) it t.asked in
    let holding = all_at_among (λ d. holds s (installed_version c) (is_spared c) d ≡ true) n.dependency (dependencies_of c t.stem (s t.stem)) (a.holds t.stem) asked in
    let here = standing_has t.stem reach t.place t.at in
    let saved = λ (y : List ℕ) (h : has y (stems (wanted n.dependency)) ≡ true).
    spared_in_reach c reach y (wanted_in_reach c reach t.stem y t.candidate n.dependency r here (among_at (candidates c t.stem) n.candidate t.candidate t.offered) t.asked h) in
    let judged = judged_by_wanted (picked p (pairs numbers)) s (before p) (installed_version c) (spared p) (is_spared c) n.dependency (picks_it c reach s numbers w are) (before_all c reach r) saved in
    both_ways (not (holds (picked p (pairs numbers)) (before p) (spared p) n.dependency)) (ap not (judged ∙ holding)) outer.1

unbroken_at : (c : Case) (reach : List (List ℕ)) (s : Selection) (numbers : List ℕ) (o : Option Numbered) → IsReach c reach → IsAdmissible c s → IsWithin reach s → AreCandidateNumbers c s reach numbers
    → ((n : Numbered) → o ≡ Some n → Among n (posed c reach).tests) → breaks_at (posed c reach) (pairs numbers) o ≡ false
unbroken_at c reach s numbers None r a w are among = refl
unbroken_at c reach s numbers (Some n) r a w are among = false_from_ne_true (breaks (posed c reach) (pairs numbers) n) (unbroken c reach s numbers n r a w are (among n refl))

-- how many candidates the stem with a number has
count_of : (c : Case) (reach : List (List ℕ)) (i : ℕ) (stem : List ℕ) → slice_get reach i ≡ Some stem → count_at (slice_get (posed c reach).rows i) ≡ length (candidates c stem)
count_of c reach i stem at = ap count_at (row_at c reach i stem at) ∙ length-map (candidates c stem) (offer_of c stem)

stem_at : (reach : List (List ℕ)) (i : ℕ) → i < length reach → (stem : List ℕ) × (slice_get reach i ≡ Some stem)
stem_at reach i l = (get_or reach i [], slice_get-get_or reach i [] l)

-- the numbers of an admissible selection in reach are a choice that breaks no test
pub solving : (c : Case) (reach : List (List ℕ)) (s : Selection) (numbers : List ℕ) → IsReach c reach → IsAdmissible c s → IsWithin reach s → AreCandidateNumbers c s reach numbers
    → Solves (meaning_of (posed c reach)) numbers
solving c reach s numbers r a w are =
    let long = length_numbers c s reach numbers are in (
      long,
      record {
        fits = omega arith;
        offered = λ i l.
            let within : i < length reach = omega arith in
            let (stem, at) = stem_at reach i within in
            let (k, own, offered) = number_at c s reach numbers i stem are at in
            let same : slice_index numbers i ≡ k = get_or_from_slice_get numbers i k 0 own in
            let below = slice_get_within (candidates c stem) k (s stem) offered in
            let count = count_of c reach i stem at in
            omega arith;
        holds = λ t l. unbroken_at c reach s numbers (slice_get (posed c reach).tests t) r a w are (λ n e. among_at (posed c reach).tests t n e);
      },
    )

-- ---- from a choice to a selection

-- a choice that breaks no test has a candidate for each stem in reach
chosen_of : (c : Case) (reach : List (List ℕ)) (choice : List ℕ) (i : ℕ) (stem : List ℕ) → Solves (meaning_of (posed c reach)) choice → slice_get reach i ≡ Some stem
    → (k : ℕ) × (o : Option Parts) × (slice_get choice i ≡ Some k) × (slice_get (candidates c stem) k ≡ Some o)
chosen_of c reach choice i stem solves at =
    let long : length choice ≡ length reach = solves.0 in
    let within : i < length choice = omega (arith, slice_get_within reach i stem at) in
    let below = solves.1.offered i within in
    let count = count_of c reach i stem at in
    let few : slice_index choice i < length (candidates c stem) = omega arith in
    (slice_index choice i, get_or (candidates c stem) (slice_index choice i) None, slice_get-get_or choice i 0 within, slice_get-get_or (candidates c stem) (slice_index choice i) None few)

-- a choice for all stems decides every number of a stem
decided_number : (reach : List (List ℕ)) (choice : List ℕ) (i : ℕ) → length choice ≡ length reach → i < length reach → is_some (candidate_of (pairs choice) i) ≡ true
decided_number reach choice i long l =
    let within : i < length choice = omega arith in
    ap is_some (chosen_at choice i ∙ slice_get-get_or choice i 0 within)

decided_cons : (set : List Pair) (o : Option ℕ) (others : List ℕ) → ((i : ℕ) → o ≡ Some i → is_some (candidate_of set i) ≡ true) → decides set others ≡ true → decides set (cons_option o others) ≡ true
decided_cons set None others w e = e
decided_cons set (Some i) others w e = and_from (is_some (candidate_of set i)) (decides set others) (w i refl) e

decided_mentions : (c : Case) (reach : List (List ℕ)) (choice : List ℕ) (fs : List Fmri) → length choice ≡ length reach
    → decides (pairs choice) (filter_map (λ (f : Fmri). number_of (posed c reach) f.stem) fs) ≡ true
decided_mentions c reach choice [] long = refl
decided_mentions c reach choice (f ∷ fs) long =
    decided_cons (pairs choice) (number_of (posed c reach) f.stem) (filter_map (λ (f : Fmri). number_of (posed c reach) f.stem) fs)
    (λ i e. decided_number reach choice i long (number_within f.stem reach i e)) (decided_mentions c reach choice fs long)

-- where a test isn't broken though its candidate is chosen and its stems are decided, the dependency holds
holding : (x y h : Bool) → x ≡ true → y ≡ true → (x && y && not h) ≡ false → h ≡ true
holding x y true a b e = refl
holding x y false a b e = absurd (both_ways (x && y && true) e (and_from (x && y) true (and_from x y a b) refl))

-- the dependencies of what is picked hold
picked_holds : (c : Case) (reach : List (List ℕ)) (choice : List ℕ) (stem : List ℕ) (i k : ℕ) (o : Option Parts) (d : Dependency) → IsReach c reach → Solves (meaning_of (posed c reach)) choice
    → slice_get reach i ≡ Some stem → slice_get choice i ≡ Some k → slice_get (candidates c stem) k ≡ Some o → Among d (dependencies_of c stem o)
    → holds (picked (posed c reach) (pairs choice)) (installed_version c) (is_spared c) d ≡ true
picked_holds c reach choice stem i k o d r solves at chosen offered asked =
    let p = posed c reach in
    let there = tested c 0 reach i stem k o d at offered asked in
    let (t, e) = place_among (test (0 + i) k d) p.tests there in
    let unbroken = ap (breaks_at p (pairs choice)) (sym e) ∙ solves.1.holds t (slice_get_within p.tests t (test (0 + i) k d) e) in
    let number : 0 + i ≡ i = omega arith in
    let own : is_number (candidate_of (pairs choice) (0 + i)) k ≡ true =
    ap (λ j. is_number (candidate_of (pairs choice) j) k) number ∙ ap (λ q. is_number q k) (chosen_at choice i ∙ chosen) ∙ eq-eqb k k refl in
    let first : is_some (candidate_of (pairs choice) (0 + i)) ≡ true = ap (λ j. is_some (candidate_of (pairs choice) j)) number ∙ ap is_some (chosen_at choice i ∙ chosen) in
    let decided = and_from (is_some (candidate_of (pairs choice) (0 + i))) (decides (pairs choice) (filter_map (λ (f : Fmri). number_of p f.stem) (mentions d))) first (decided_mentions c reach choice (mentions d) solves.0) in
    let held = holding (is_number (candidate_of (pairs choice) (0 + i)) k) (decides (pairs choice) (stems_of_test p (test (0 + i) k d))) (holds (picked p (pairs choice)) (before p) (spared p) d) own decided unbroken in
    let here = standing_has stem reach i at in
    let saved = λ (y : List ℕ) (h : has y (stems (wanted d)) ≡ true). spared_in_reach c reach y (wanted_in_reach c reach stem y o d r here (among_at (candidates c stem) k o offered) asked h) in
    sym (judged_by_wanted (picked p (pairs choice)) (picked p (pairs choice)) (before p) (installed_version c) (spared p) (is_spared c) d (λ y. refl) (before_all c reach r) saved) ∙ held

-- what a choice that breaks no test picks is admissible
pub picked_admissible : (c : Case) (reach : List (List ℕ)) (choice : List ℕ) → IsReach c reach → Solves (meaning_of (posed c reach)) choice → IsAdmissible c (picked (posed c reach) (pairs choice))
picked_admissible c reach choice r solves =
    let s = picked (posed c reach) (pairs choice) in
    record {
      offered = λ x. elim (cases_Bool (has x reach)) [
        | inl h ↦
            let (i, number, at) = number_found x reach h in
            let (k, o, chosen, offered) = chosen_of c reach choice i x solves at in
            subst (Contains (candidates c x)) (sym (picked_at c reach choice x i k o number at chosen offered)) (at_contained (candidates c x) k o offered)
        | inr h ↦ subst (Contains (candidates c x)) (sym (picked_apart c reach (pairs choice) x h)) (absence_offered c reach x r h)
      ];
      holds = λ x. elim (cases_Bool (has x reach)) [
        | inl h ↦
            let (i, number, at) = number_found x reach h in
            let (k, o, chosen, offered) = chosen_of c reach choice i x solves at in
            subst (λ q. AllByRecursion (λ d. holds s (installed_version c) (is_spared c) d ≡ true) (dependencies_of c x q)) (sym (picked_at c reach choice x i k o number at chosen offered))
            (all_from_among (λ d. holds s (installed_version c) (is_spared c) d ≡ true) (dependencies_of c x o) (λ d asked. picked_holds c reach choice x i k o d r solves at chosen offered asked))
        | inr h ↦ subst (λ q. AllByRecursion (λ d. holds s (installed_version c) (is_spared c) d ≡ true) (dependencies_of c x q)) (sym (picked_apart c reach (pairs choice) x h)) tt
      ];
    }

reach_distinct : (c : Case) (reach : List (List ℕ)) → IsReach c reach → AreDistinct reach
reach_distinct c reach r = subst AreDistinct (sym r.whole) (distinct_firsts (seeds c ++ flat_map (drawn_in c) (take (length reach) reach)))

-- the choice has the numbers of what it picks, from a place on
numbers_from : (c : Case) (s : Selection) (stems : List (List ℕ)) (choice : List ℕ) → length choice ≡ length stems
    → ((i : ℕ) (stem : List ℕ) → slice_get stems i ≡ Some stem → (k : ℕ) × (slice_get choice i ≡ Some k) × (slice_get (candidates c stem) k ≡ Some (s stem)))
    → AreCandidateNumbers c s stems choice
numbers_from c s [] [] long w = tt
numbers_from c s [] (k ∷ choice) long w = absurd (omega arith)
numbers_from c s (stem ∷ stems) [] long w = absurd (omega arith)
numbers_from c s (stem ∷ stems) (k ∷ choice) long w =
    let (j, own, offered) = w 0 stem refl in
    let here = ap (slice_get (candidates c stem)) (same_Some k j own) ∙ offered in
    (here, numbers_from c s stems choice (omega arith) (λ i x e. w (suc i) x e))

-- a choice that breaks no test is numbered by its stems' candidates
pub picked_numbers : (c : Case) (reach : List (List ℕ)) (choice : List ℕ) → IsReach c reach → Solves (meaning_of (posed c reach)) choice → AreCandidateNumbers c (picked (posed c reach) (pairs choice)) reach choice
picked_numbers c reach choice r solves = numbers_from c (picked (posed c reach) (pairs choice)) reach choice solves.0 (λ i stem at.
    let (k, o, chosen, offered) = chosen_of c reach choice i stem solves at in
    (k, chosen, offered ∙ ap (λ q. Some q) (sym (picked_at c reach choice stem i k o (own_number reach i stem (reach_distinct c reach r) at) at chosen offered))))

-- ---- the law

-- where no choice breaks no test, no selection is admissible
pub none_admissible : (c : Case) (reach : List (List ℕ)) (s : Selection) → IsReach c reach → HasNoChoice (meaning_of (posed c reach)) → IsAdmissible c s → ⊥
none_admissible c reach s r none a =
    let t = restricted reach s in
    let b = restricted_admissible c reach s r a in
    let (numbers, are) = numbers_of c t reach b in
    none numbers (solving c reach t numbers r b (restricted_within reach s) are)

-- the first choice picks the best selection
pub first_is_best : (c : Case) (reach : List (List ℕ)) (choice : List ℕ) → IsReach c reach → IsFirst (meaning_of (posed c reach)) choice → IsBestSelection c reach (picked (posed c reach) (pairs choice))
first_is_best c reach choice r first = record {
  admissible = picked_admissible c reach choice r first.0;
  within = picked_apart c reach (pairs choice);
  numbers = choice;
  numbered = picked_numbers c reach choice r first.0;
  first = λ other others a w are. first.1 others (solving c reach other others r a w are);
}
