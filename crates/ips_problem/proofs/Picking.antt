-- The selection that a choice makes.
use Rattle.std.proofs.Common.{◌≡◌, ℕ, zero, suc, ◌+◌, true, false, ◌==◌, ◌&&◌, ◌||◌, List, [], ◌∷◌, map, position, slice_get, Option, Some, None, is_some, option_map, option_and_then, refl, ap, ◌∙◌, arith, eq-eqb, eqb-true, ne_eqb, bytes_eq}
use Rattle.std.specs.List.{list_any, list_all}
use Rattle.std.proofs.lemmas.Bool.{both_ways, cond-true, cond-false, or_right}
use Rattle.std.proofs.lemmas.Option.{slice_get-map}
use Rattle.ips_fmri.specs.Version.{Parts}
use Rattle.ips_fmri.specs.declared.fmri.Fmri.{Fmri}
use Rattle.ips_refute.specs.declared.nogoods.Pair.{Pair}
use Rattle.ips_refute.specs.Meaning.{pairs_from, pairs}
use Rattle.ips_depend.specs.Selection.{Selection, Spared, is_present}
use Rattle.ips_depend.specs.Dependency.{Dependency, Require, Optional, Incorporate, Exclude, Conditional, RequireAny, Group, GroupAny, Parent, Origin, wanted, stems}
use Rattle.ips_depend.specs.Holds.{holds}
use Rattle.ips_request.specs.Stems.{has}
use Rattle.ips_request.specs.Case.{Case, installed_version}
use Rattle.ips_request.specs.Candidates.{candidates, is_spared}
use Rattle.ips_request.specs.Laws.{has_first}
use Rattle.ips_request.proofs.StemLists.{number_found, number_none}
use Rattle.ips_problem.specs.Posed.{offer_of, row_of, posed, candidate_of, version_of, version_at, picked, version_before, before, tells_spared, spared_at, spared, is_number}

-- the candidate of a choice's pairs is the number that stands in the choice
chosen_from : (first : ℕ) (choice : List ℕ) (i : ℕ) → candidate_of (pairs_from first choice) (first + i) ≡ slice_get choice i
chosen_from first [] i = refl
chosen_from first (c ∷ choice) zero = cond-true (first == first + 0) (Some c) (candidate_of (pairs_from (first + 1) choice) (first + 0)) (eq-eqb first (first + 0) (omega arith))
chosen_from first (c ∷ choice) (suc i) =
    let apart : first ≡ first + suc i → ⊥ = λ e. omega arith in
    let on : first + suc i ≡ first + 1 + i = omega arith in
    cond-false (first == first + suc i) (Some c) (candidate_of (pairs_from (first + 1) choice) (first + suc i)) (ne_eqb first (first + suc i) apart)
    ∙ ap (candidate_of (pairs_from (first + 1) choice)) on ∙ chosen_from (first + 1) choice i

pub chosen_at : (choice : List ℕ) (i : ℕ) → candidate_of (pairs choice) i ≡ slice_get choice i
chosen_at choice i = let same : i ≡ 0 + i = omega arith in ap (candidate_of (pairs choice)) same ∙ chosen_from 0 choice i

-- a number that is this one
pub is_number_true : (o : Option ℕ) (k : ℕ) → is_number o k ≡ true → o ≡ Some k
is_number_true None k e = absurd (both_ways false refl e)
is_number_true (Some j) k e = ap (λ n. Some n) (eqb-true j k e)

-- an offer has the version of its candidate
offered_version : (c : Case) (stem : List ℕ) (o : Option Parts) → version_of (Some (offer_of c stem o)) ≡ o
offered_version c stem None = refl
offered_version c stem (Some v) = refl

-- what is known of the stem with a number
pub row_at : (c : Case) (reach : List (List ℕ)) (i : ℕ) (stem : List ℕ) → slice_get reach i ≡ Some stem → slice_get (map (row_of c) reach) i ≡ Some (row_of c stem)
row_at c reach i stem at = slice_get-map (row_of c) reach i ∙ ap (option_map (row_of c)) at

-- the version of a candidate of a stem
pub version_offered : (c : Case) (stem : List ℕ) (k : ℕ) (o : Option Parts) → slice_get (candidates c stem) k ≡ Some o → version_at (Some (row_of c stem)) (Some k) ≡ o
version_offered c stem k o e = ap version_of (slice_get-map (offer_of c stem) (candidates c stem) k ∙ ap (option_map (offer_of c stem)) e) ∙ offered_version c stem o

-- what is picked of a stem is the candidate with the number that the choice has for it
pub picked_at : (c : Case) (reach : List (List ℕ)) (choice : List ℕ) (stem : List ℕ) (i k : ℕ) (o : Option Parts)
    → position (bytes_eq stem) reach ≡ Some i → slice_get reach i ≡ Some stem → slice_get choice i ≡ Some k → slice_get (candidates c stem) k ≡ Some o
    → picked (posed c reach) (pairs choice) stem ≡ o
picked_at c reach choice stem i k o number at chosen offered =
    let p = posed c reach in
    ap (option_and_then (λ j. version_at (slice_get p.rows j) (candidate_of (pairs choice) j))) number
    ∙ ap (λ r. version_at r (candidate_of (pairs choice) i)) (row_at c reach i stem at)
    ∙ ap (version_at (Some (row_of c stem))) (chosen_at choice i ∙ chosen)
    ∙ version_offered c stem k o offered

-- a stem out of reach is picked at no version
pub picked_apart : (c : Case) (reach : List (List ℕ)) (set : List Pair) (stem : List ℕ) → has stem reach ≡ false → picked (posed c reach) set stem ≡ None
picked_apart c reach set stem h = let p = posed c reach in ap (option_and_then (λ j. version_at (slice_get p.rows j) (candidate_of set j))) (number_none stem reach h)

-- in reach, the puzzle's old selection is what is installed
pub before_in_reach : (c : Case) (reach : List (List ℕ)) (stem : List ℕ) → has stem reach ≡ true → before (posed c reach) stem ≡ installed_version c stem
before_in_reach c reach stem h =
    let (i, number, at) = number_found stem reach h in
    ap (option_and_then (λ j. version_before (slice_get (posed c reach).rows j))) number ∙ ap version_before (row_at c reach i stem at)

pub before_apart : (c : Case) (reach : List (List ℕ)) (stem : List ℕ) → has stem reach ≡ false → before (posed c reach) stem ≡ None
before_apart c reach stem h = ap (option_and_then (λ j. version_before (slice_get (posed c reach).rows j))) (number_none stem reach h)

-- in reach, the puzzle spares just what the case spares
pub spared_in_reach : (c : Case) (reach : List (List ℕ)) (stem : List ℕ) → has stem reach ≡ true → spared (posed c reach) stem ≡ is_spared c stem
spared_in_reach c reach stem h =
    let (i, number, at) = number_found stem reach h in
    ap (spared_at (posed c reach)) number ∙ ap tells_spared (row_at c reach i stem at)

-- what is spared of the stems of FMRIs
spared_alike : (sp sv : Spared) (fs : List Fmri) → ((y : List ℕ) → has y (stems fs) ≡ true → sp y ≡ sv y) → list_all (λ (f : Fmri). sp f.stem) fs ≡ list_all (λ (f : Fmri). sv f.stem) fs
spared_alike sp sv [] v = refl
spared_alike sp sv (f ∷ fs) v =
    let first = v f.stem (has_first f.stem (stems fs)) in
    let rest = spared_alike sp sv fs (λ y e. v y (or_right (bytes_eq y f.stem) (has y (stems fs)) e)) in
    λ i. first i && rest i

-- a dependency is judged by the selection and the old one, and by what is spared among the stems that it wants
pub judged_by_wanted : (s t old before : Selection) (sp sv : Spared) (d : Dependency) → ((y : List ℕ) → s y ≡ t y) → ((y : List ℕ) → old y ≡ before y) → ((y : List ℕ) → has y (stems (wanted d)) ≡ true → sp y ≡ sv y)
    → holds s old sp d ≡ holds t before sv d
judged_by_wanted s t old before sp sv (Require f) w u v = λ i. holds (λ y. w y i) old sp (Require f)
judged_by_wanted s t old before sp sv (Optional f) w u v = λ i. holds (λ y. w y i) old sp (Optional f)
judged_by_wanted s t old before sp sv (Incorporate f) w u v = λ i. holds (λ y. w y i) old sp (Incorporate f)
judged_by_wanted s t old before sp sv (Exclude f) w u v = λ i. holds (λ y. w y i) old sp (Exclude f)
judged_by_wanted s t old before sp sv (Conditional p f) w u v = λ i. holds (λ y. w y i) old sp (Conditional p f)
judged_by_wanted s t old before sp sv (RequireAny fs) w u v = λ i. holds (λ y. w y i) old sp (RequireAny fs)
judged_by_wanted s t old before sp sv (Group f) w u v = λ i. is_some (w f.stem i) || v f.stem (has_first f.stem []) i
judged_by_wanted s t old before sp sv (GroupAny fs) w u v = let saved = spared_alike sp sv fs v in λ i. list_any (is_present (λ y. w y i)) fs || saved i
judged_by_wanted s t old before sp sv (Parent fs) w u v = refl
judged_by_wanted s t old before sp sv (Origin rooted f) w u v = λ i. holds s (λ y. u y i) sp (Origin rooted f)
