-- The numbers of calls.
use Rattle.std.proofs.Common.{◌≡◌, ℕ, suc, ◌<◌, Bool, false, ◌||◌, ◌==◌, List, [], ◌∷◌, get_or, refl, ◌∙◌, ap, arith}
use Rattle.std.specs.List.{list_any}
use Rattle.std.proofs.lemmas.Bool.{ne_eqb}

-- a number above all of a list isn't in it
pub none_so_great : (xs : List ℕ) (m : ℕ) → ((i : ℕ) → get_or xs i 0 < m) → list_any (λ n. n == m) xs ≡ false
none_so_great [] m below = refl
none_so_great (x ∷ xs) m below =
    let first = below 0 in
    ap (λ (b : Bool). b || list_any (λ n. n == m) xs) (ne_eqb x m (λ e. omega arith)) ∙ none_so_great xs m (λ i. below (suc i))
