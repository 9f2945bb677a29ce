-- A plan of two states that are lent is the plan of these states.
use Rattle.std.proofs.Common.{◌≡◌, ℕ, Bool, List, Result, map, refl, [], ◌∷◌, ap, sym, subst}
use Rattle.std.specs.List.Sorted.{IsStrictlySortedBy}
use Rattle.std.specs.Ordering.{nat_cmp}
use Rattle.std.specs.Cmp.Lexicographic.{slice_cmp}
use Rattle.ips_text.specs.declared.refusal.Or.{Or}
use Rattle.ips_outside.specs.Outside.{Outside}
use Rattle.ips_manifest.specs.declared.package.Package.{Package}
use Rattle.ips_state.specs.State.{Ascend, Installed, installed}
use Rattle.ips_plan.specs.image_plan.Between.{given}
use Rattle.ips_plan.specs.declared.image_plan.between.Between.{Between}
use Rattle.ips_plan.specs.request_plan.Plans.{ComesBetween, ComesOfPlan, IsPlanBetween, IsRequestPlan, NonePlanned, PlansBetween, PlansRequest}
use Rattle.ips_plan.specs.declared.request_plan.fault.PlanFault.{PlanFault}
use Rattle.ips_plan.specs.declared.request_plan.planning.Plan.{Plan}
use Rattle.ips_plan.proofs.request_plan.Calls.{plan_as}

pub plans_lent : {F S : Type 0} (o : Outside F) (q : Outside S) (moment : List ℕ) (b : Between) (accept : Bool) (folder later : F) (source after : S) (answer : Result Plan (Or PlanFault))
    → PlansBetween o q moment b accept folder later source after answer → PlansRequest o q moment b.old.now b.new.now accept folder later source after answer
plans_lent o q moment b accept folder later source after answer is =
    let g = given o q folder source b in
    plan_as o q (IsPlanBetween g moment b accept) (IsRequestPlan g moment b.old.now b.new.now accept) (ComesBetween g moment b accept) (ComesOfPlan g moment b.old.now b.new.now accept) folder later source after answer
    (λ p h. record { between = b; is_between = record { old_is = refl; new_is = refl }; is_plan = h }) (λ why comes. NonePlanned b (record { old_is = refl; new_is = refl }) comes) is

stems_of : (packages : List Package) → map (λ (p : Installed). p.stem) (map installed packages) ≡ map (λ (p : Package). p.stem) packages
stems_of [] = refl
stems_of (p ∷ packages) = ap (λ (l : List (List ℕ)). p.stem ∷ l) (stems_of packages)

-- packages that are lent stand in the order of their stems
pub in_order : (packages lent : List Package) → lent ≡ packages → Ascend (map (λ (p : Installed). p.stem) (map installed packages)) → IsStrictlySortedBy (slice_cmp nat_cmp) (map (λ (p : Package). p.stem) lent)
in_order packages lent same order = subst (λ (l : List Package). IsStrictlySortedBy (slice_cmp nat_cmp) (map (λ (p : Package). p.stem) l)) (sym same) (subst (λ (l : List (List ℕ)). IsStrictlySortedBy (slice_cmp nat_cmp) l) (stems_of packages) order)
