-- Numbers of steps, one more at the end.
use Rattle.std.proofs.Common.{◌≡◌, ℕ, ◌+◌, ◌≤◌, Bool, true, false, cond, List, [], ◌∷◌, ◌++◌, length, refl, ◌∙◌, ap, arith}
use Rattle.ips_steps.specs.Steps.{Step}
use Rattle.ips_steps.specs.View.{sort_of}
use Rattle.ips_steps.specs.declared.step.Sort.{Sort}
use Rattle.ips_kinds.specs.Acts.{same_sort}
use Rattle.ips_kinds.specs.Tallies.{count_of_sort}

-- one more where this holds
abbrev pub one_more_if : Bool → ℕ → ℕ
one_more_if b n = cond b (n + 1) n

swapped : (a b : Bool) (n : ℕ) → one_more_if a (one_more_if b n) ≡ one_more_if b (one_more_if a n)
swapped true true n = refl
swapped true false n = refl
swapped false true n = refl
swapped false false n = refl

pub number_behind : (s : Sort) (steps : List Step) (x : Step) → count_of_sort s (steps ++ x ∷ []) ≡ one_more_if (same_sort s (sort_of x)) (count_of_sort s steps)
number_behind s [] x = refl
number_behind s (y ∷ steps) x =
    ap (one_more_if (same_sort s (sort_of y))) (number_behind s steps x) ∙ swapped (same_sort s (sort_of y)) (same_sort s (sort_of x)) (count_of_sort s steps)

at_most : (b : Bool) (n : ℕ) → one_more_if b n ≤ n + 1
at_most true n = omega (arith)
at_most false n = omega (arith)

pub number_bound : (s : Sort) (steps : List Step) → count_of_sort s steps ≤ length steps
number_bound s [] = omega (arith)
number_bound s (y ∷ steps) = let rest = number_bound s steps in let first = at_most (same_sort s (sort_of y)) (count_of_sort s steps) in omega (arith, rest, first)
