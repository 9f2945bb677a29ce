use Rattle.std.proofs.Common.{◌≡◌, ◌++◌, ◌∷◌, [], ◌∙◌, ℕ, List, ap, subst, sym}
use Rattle.std.specs.List.Sorted.{IsStrictlySortedBy}
use Rattle.std.specs.Ordering.{nat_cmp}
use Rattle.std.specs.Cmp.Lexicographic.{slice_cmp}
use Rattle.std.specs.declared.cmp.Ordering.{Ordering}
use Rattle.std.specs.declared.cmp.Ordering.TheVariants.{Less}
use Rattle.ips_state.specs.State.{Ascend}
use Rattle.ips_choice_tests.proofs.problem.stems_of.Goals as goal
use Rattle.ips_text.proofs.Orders.{less_is}

none_ascends : (ss : List (List ℕ)) → ss ≡ [] → Ascend ss
unfolding IsStrictlySortedBy
none_ascends ss e = subst Ascend (sym e) tt

one_ascends : (ss : List (List ℕ)) (s : List ℕ) → ss ≡ s ∷ [] → Ascend ss
unfolding IsStrictlySortedBy
one_ascends ss s e = subst Ascend (sym e) (tt, tt)

two_ascend : (ss : List (List ℕ)) (first second : List ℕ) → ss ≡ first ∷ second ∷ [] → slice_cmp nat_cmp first second ≡ Less → Ascend ss
unfolding IsStrictlySortedBy
two_ascend ss first second e less = subst Ascend (sym e) ((less, tt), (tt, tt))

pub returns-then-is_empty : goal.returns-then-is_empty
returns-then-is_empty c = none_ascends c.new-stems.result.items c.new-stems.ensures.items

pub returns-in_default : goal.returns-in_default
returns-in_default c = one_ascends c.push.new.self.items c.in_ok-new.field-0 (c.in_ok-push.ensures.items ∙ ap (λ (ss : List (List ℕ)). ss ++ c.in_ok-new.field-0 ∷ []) c.new-stems.ensures.items)

pub returns : goal.returns
returns c =
    two_ascend c.push-3.new.self.items c.in_ok-first.first c.in_ok-second.second
    (c.in_ok-push-3.ensures.items ∙ ap (λ (ss : List (List ℕ)). ss ++ c.in_ok-second.second ∷ []) (c.in_ok-push-2.ensures.items ∙ ap (λ (ss : List (List ℕ)). ss ++ c.in_ok-first.first ∷ []) c.new-stems.ensures.items))
    (sym c.cmp.ensures ∙ less_is c.cmp.result (sym c.is_lt.ensures ∙ c.if-not-is_lt.false))
