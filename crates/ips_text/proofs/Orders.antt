-- Orders: of two texts one comes first.
use Rattle.std.proofs.Common.{◌≡◌, ◌≢◌, ℕ, true, List, refl, sym, ap, ◌∙◌, subst, ◌<◌}
use Rattle.std.specs.declared.cmp.Ordering.{Ordering}
use Rattle.std.specs.declared.cmp.Ordering.TheVariants.{Less, Equal, Greater}
use Rattle.std.specs.Ordering.{nat_cmp, is_lt, ordering_then, ordering_reverse, MatchOrdering}
use Rattle.std.specs.Cmp.{ranks}
use Rattle.std.specs.Cmp.Lexicographic.{slice_cmp}
use Rattle.std.proofs.lemmas.Bool.{true≢false}
use Rattle.std.proofs.lemmas.Cmp.{nat_list_cmp_total}

pub one_way : (x y : List ℕ) → slice_cmp nat_cmp x y ≡ Less → slice_cmp nat_cmp y x ≡ Less → ⊥
one_way x y h g = let back = nat_list_cmp_total.antisymm x y in let turned = ap ordering_reverse g in cc

pub less_is : (o : Ordering) → is_lt o ≡ true → o ≡ Less
less_is Less e = refl
less_is Equal e = absurd (true≢false (sym e))
less_is Greater e = absurd (true≢false (sym e))

pub less_not_greater : (o : Ordering) → o ≡ Less → o ≢ Greater
less_not_greater o less greater = let same : Less ≡ Greater = sym less ∙ greater in absurd cc

-- where two orders in turn call a pair equal, the second does
pub last_tie : (o p : Ordering) → ordering_then o p ≡ Equal → p ≡ Equal
last_tie Less p e = absurd cc
last_tie Equal p e = e
last_tie Greater p e = absurd cc

pub number_tie : (r s : ℕ) → nat_cmp r s ≡ Equal → r ≡ s
number_tie r s e = subst (λ (o : Ordering). MatchOrdering o (r < s) (r ≡ s) (s < r)) e (ranks r s)
