-- A selection with the stems out of reach left out.
use Rattle.std.proofs.Common.{◌≡◌, ℕ, true, false, List, Contains, None, sym, subst, inl, inr}
use Rattle.std.specs.List.{AllByRecursion}
use Rattle.std.proofs.lemmas.Bool.{both_ways, cases_Bool, cond-true, cond-false}
use Rattle.ips_depend.specs.Selection.{Selection, Spared}
use Rattle.ips_depend.specs.Dependency.{Dependency, wanted, stems}
use Rattle.ips_depend.specs.Holds.{holds}
use Rattle.ips_depend.proofs.Absence.{holds_without}
use Rattle.ips_request.specs.Stems.{has}
use Rattle.ips_request.specs.Case.{Case, installed_version}
use Rattle.ips_request.specs.Candidates.{candidates, is_spared}
use Rattle.ips_problem.specs.Reach.{dependencies_of, IsReach}
use Rattle.ips_problem.specs.Selecting.{IsAdmissible, restricted, IsWithin}
use Rattle.ips_problem.specs.Laws.{has_contained}
use Rattle.ips_problem.proofs.Members.{Among, contained_at, among_at, all_from_among, all_at_among}
use Rattle.ips_problem.proofs.Reached.{absence_offered, wanted_in_reach}

-- a stem that is left in keeps its version
left_in : (reach : List (List ℕ)) (s : Selection) (x : List ℕ) → has x reach ≡ true → restricted reach s x ≡ s x
left_in reach s x e = cond-true (has x reach) (s x) None e

left_out : (reach : List (List ℕ)) (s : Selection) (x : List ℕ) → has x reach ≡ false → restricted reach s x ≡ None
left_out reach s x e = cond-false (has x reach) (s x) None e

-- what a dependency wants is left in
abbrev LeavesWanted : List (List ℕ) → Dependency → Type 0
LeavesWanted reach d = (y : List ℕ) → has y (stems (wanted d)) ≡ true → has y reach ≡ true

-- a dependency isn't broken where what it wants is left in
still_holds : (reach : List (List ℕ)) (s old : Selection) (sp : Spared) (d : Dependency) → LeavesWanted reach d → holds s old sp d ≡ true → holds (restricted reach s) old sp d ≡ true
still_holds reach s old sp d w = holds_without d (restricted reach s) s old sp (λ y mentioned. elim (cases_Bool (has y reach)) [
  | inl e ↦ inl (left_in reach s y e)
  | inr e ↦ inr (left_out reach s y e, λ wants. both_ways (has y reach) e (w y (has_contained (stems (wanted d)) y wants)))
])

-- an admissible selection stays admissible without the stems that are out of reach
pub restricted_admissible : (c : Case) (reach : List (List ℕ)) (s : Selection) → IsReach c reach → IsAdmissible c s → IsAdmissible c (restricted reach s)
restricted_admissible c reach s r a = record {
  offered = λ x. elim (cases_Bool (has x reach)) [
    | inl e ↦ subst (Contains (candidates c x)) (sym (left_in reach s x e)) (a.offered x)
    | inr e ↦ subst (Contains (candidates c x)) (sym (left_out reach s x e)) (absence_offered c reach x r e)
  ];
  holds = λ x. elim (cases_Bool (has x reach)) [
    | inl e ↦
        let (k, at) = contained_at (candidates c x) (s x) (a.offered x) in
        let still = λ (d : Dependency) (b : Among d (dependencies_of c x (s x))).
        still_holds reach s (installed_version c) (is_spared c) d (λ y w. wanted_in_reach c reach x y (s x) d r e (among_at (candidates c x) k (s x) at) b w)
        (all_at_among (λ d. holds s (installed_version c) (is_spared c) d ≡ true) d (dependencies_of c x (s x)) (a.holds x) b) in
        subst (λ o. AllByRecursion (λ d. holds (restricted reach s) (installed_version c) (is_spared c) d ≡ true) (dependencies_of c x o)) (sym (left_in reach s x e))
        (all_from_among (λ d. holds (restricted reach s) (installed_version c) (is_spared c) d ≡ true) (dependencies_of c x (s x)) still)
    | inr e ↦ subst (λ o. AllByRecursion (λ d. holds (restricted reach s) (installed_version c) (is_spared c) d ≡ true) (dependencies_of c x o)) (sym (left_out reach s x e)) tt
  ];
}

pub restricted_within : (reach : List (List ℕ)) (s : Selection) → IsWithin reach (restricted reach s)
restricted_within reach s x e = left_out reach s x e
