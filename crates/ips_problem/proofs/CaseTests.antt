-- Which tests a case has.
use Rattle.std.proofs.Common.{◌≡◌, ℕ, zero, suc, ◌+◌, List, [], ◌∷◌, slice_get, Option, Some, refl, sym, ap, subst, ◌∙◌, inl, inr, arith}
use Rattle.std.proofs.lemmas.Option.{none-some, same_Some}
use Rattle.ips_fmri.specs.Version.{Parts}
use Rattle.ips_depend.specs.Dependency.{Dependency}
use Rattle.ips_request.specs.Case.{Case}
use Rattle.ips_request.specs.Candidates.{candidates}
use Rattle.ips_problem.specs.Reach.{dependencies_of}
use Rattle.ips_problem.specs.Posed.{Numbered, numbered, tests_of_candidates, tests_from}
use Rattle.ips_problem.proofs.Members.{Among, among_left, among_right, among_cases, among_map, among_mapped}

abbrev pub test : ℕ → ℕ → Dependency → Numbered
test i k d = record { stem = i; candidate = k; dependency = d }

-- the test is that of a dependency of a candidate, of a stem that stands i places before its number
pub record IsTest (c : Case) (i : ℕ) (stems : List (List ℕ)) (n : Numbered) : Type 0 where
  pub place : ℕ
  pub stem : List ℕ
  pub candidate : Option Parts
  pub at : slice_get stems place ≡ Some stem
  pub number : n.stem ≡ i + place
  pub offered : slice_get (candidates c stem) n.candidate ≡ Some candidate
  pub asked : Among n.dependency (dependencies_of c stem candidate)

-- the same, of a candidate that stands k places before its number
pub record IsTestAmong (c : Case) (i : ℕ) (stem : List ℕ) (k : ℕ) (os : List (Option Parts)) (n : Numbered) : Type 0 where
  pub place : ℕ
  pub candidate : Option Parts
  pub number : n.stem ≡ i
  pub offered : slice_get os place ≡ Some candidate
  pub counted : n.candidate ≡ k + place
  pub asked : Among n.dependency (dependencies_of c stem candidate)

among_candidates : (c : Case) (i : ℕ) (stem : List ℕ) (k : ℕ) (os : List (Option Parts)) (n : Numbered) → Among n (tests_of_candidates c i stem k os) → IsTestAmong c i stem k os n
among_candidates c i stem k [] n h = absurd h
among_candidates c i stem k (o ∷ os) n h = elim (among_cases n (numbered i k (dependencies_of c stem o)) (tests_of_candidates c i stem (k + 1) os) h) [
  | inl a ↦
      let (d, b, e) = among_mapped (test i k) n (dependencies_of c stem o) a in
      record {
        place = 0;
        candidate = o;
        number = sym (ap (λ (m : Numbered). m.stem) e);
        offered = refl;
        counted = sym (ap (λ (m : Numbered). m.candidate) e) ∙ omega arith;
        asked = subst (λ (d : Dependency). Among d (dependencies_of c stem o)) (ap (λ (m : Numbered). m.dependency) e) b;
      }
  | inr a ↦
      let r = among_candidates c i stem (k + 1) os n a in
      record {
        place = suc r.place;
        candidate = r.candidate;
        number = r.number;
        offered = r.offered;
        counted = r.counted ∙ omega arith;
        asked = r.asked;
      }
]

-- each test is one
pub test_of : (c : Case) (i : ℕ) (stems : List (List ℕ)) (n : Numbered) → Among n (tests_from c i stems) → IsTest c i stems n
test_of c i [] n h = absurd h
test_of c i (stem ∷ stems) n h = elim (among_cases n (tests_of_candidates c i stem 0 (candidates c stem)) (tests_from c (i + 1) stems) h) [
  | inl a ↦
      let r = among_candidates c i stem 0 (candidates c stem) n a in
      let same : n.candidate ≡ r.place = r.counted ∙ omega arith in
      record {
        place = 0;
        stem = stem;
        candidate = r.candidate;
        at = refl;
        number = r.number ∙ omega arith;
        offered = ap (slice_get (candidates c stem)) same ∙ r.offered;
        asked = r.asked;
      }
  | inr a ↦
      let r = test_of c (i + 1) stems n a in
      record {
        place = suc r.place;
        stem = r.stem;
        candidate = r.candidate;
        at = r.at;
        number = r.number ∙ omega arith;
        offered = r.offered;
        asked = r.asked;
      }
]

test_number : (i j k : ℕ) (d : Dependency) (ns : List Numbered) → i ≡ j → Among (test i k d) ns → Among (test j k d) ns
test_number i j k d ns e h = subst (λ i. Among (test i k d) ns) e h

test_candidate : (i j k : ℕ) (d : Dependency) (ns : List Numbered) → j ≡ k → Among (test i j d) ns → Among (test i k d) ns
test_candidate i j k d ns e h = subst (λ j. Among (test i j d) ns) e h

candidate_tested : (c : Case) (i : ℕ) (stem : List ℕ) (k : ℕ) (os : List (Option Parts)) (j : ℕ) (o : Option Parts) (d : Dependency)
    → slice_get os j ≡ Some o → Among d (dependencies_of c stem o) → Among (test i (k + j) d) (tests_of_candidates c i stem k os)
candidate_tested c i stem k [] j o d e h = absurd (none-some o e)
candidate_tested c i stem k (p ∷ os) zero o d e h =
    let here = subst (λ q. Among d (dependencies_of c stem q)) (sym (same_Some p o e)) h in
    let all = among_left (test i k d) (numbered i k (dependencies_of c stem p)) (tests_of_candidates c i stem (k + 1) os) (among_map (test i k) d (dependencies_of c stem p) here) in
    test_candidate i k (k + 0) d (tests_of_candidates c i stem k (p ∷ os)) (omega arith) all
candidate_tested c i stem k (p ∷ os) (suc j) o d e h =
    let rest = candidate_tested c i stem (k + 1) os j o d e h in
    test_candidate i (k + 1 + j) (k + suc j) d (tests_of_candidates c i stem k (p ∷ os)) (omega arith)
    (among_right (test i (k + 1 + j) d) (numbered i k (dependencies_of c stem p)) (tests_of_candidates c i stem (k + 1) os) rest)

-- each dependency of a candidate is a test
pub tested : (c : Case) (i : ℕ) (stems : List (List ℕ)) (j : ℕ) (stem : List ℕ) (k : ℕ) (o : Option Parts) (d : Dependency)
    → slice_get stems j ≡ Some stem → slice_get (candidates c stem) k ≡ Some o → Among d (dependencies_of c stem o) → Among (test (i + j) k d) (tests_from c i stems)
tested c i [] j stem k o d at e h = absurd (none-some stem at)
tested c i (s ∷ stems) zero stem k o d at e h =
    let same = same_Some s stem at in
    let own = candidate_tested c i s 0 (candidates c s) k o d (ap (λ s. slice_get (candidates c s) k) same ∙ e) (subst (λ s. Among d (dependencies_of c s o)) (sym same) h) in
    let named = test_candidate i (0 + k) k d (tests_of_candidates c i s 0 (candidates c s)) (omega arith) own in
    test_number i (i + 0) k d (tests_from c i (s ∷ stems)) (omega arith)
    (among_left (test i k d) (tests_of_candidates c i s 0 (candidates c s)) (tests_from c (i + 1) stems) named)
tested c i (s ∷ stems) (suc j) stem k o d at e h =
    test_number (i + 1 + j) (i + suc j) k d (tests_from c i (s ∷ stems)) (omega arith)
    (among_right (test (i + 1 + j) k d) (tests_of_candidates c i s 0 (candidates c s)) (tests_from c (i + 1) stems) (tested c (i + 1) stems j stem k o d at e h))
