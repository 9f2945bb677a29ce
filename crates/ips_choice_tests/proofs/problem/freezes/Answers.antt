use Rattle.std.proofs.Common.{◌≡◌, ◌++◌, ◌∷◌, [], ◌∙◌, List, ap, map, subst, sym}
use Rattle.std.specs.List.Sorted.{IsStrictlySortedBy}
use Rattle.ips_fmri.specs.declared.fmri.Fmri.{Fmri}
use Rattle.ips_state.specs.State.{Ascend}
use Rattle.ips_choice_tests.proofs.problem.freezes.Goals as goal

none_ascend : (fs : List Fmri) → fs ≡ [] → Ascend (map (λ (f : Fmri). f.stem) fs)
unfolding IsStrictlySortedBy
none_ascend fs e = subst (λ (fs : List Fmri). Ascend (map (λ (f : Fmri). f.stem) fs)) (sym e) tt

one_ascends : (fs : List Fmri) (f : Fmri) → fs ≡ f ∷ [] → Ascend (map (λ (f : Fmri). f.stem) fs)
unfolding IsStrictlySortedBy
one_ascends fs f e = subst (λ (fs : List Fmri). Ascend (map (λ (f : Fmri). f.stem) fs)) (sym e) (tt, tt)

pub returns-then-is_empty-clause-order : goal.returns-then-is_empty-clause-order
returns-then-is_empty-clause-order c = none_ascend c.new-freezes.result.items c.new-freezes.ensures.items

pub returns-clause-order : goal.returns-clause-order
returns-clause-order c =
    one_ascends c.push.new.self.items c.in_ok-freeze.freeze (c.in_ok-push.ensures.items ∙ ap (λ (fs : List Fmri). fs ++ c.in_ok-freeze.freeze ∷ []) c.new-freezes.ensures.items)
