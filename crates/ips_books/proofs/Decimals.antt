-- Numbers in fields.
use Rattle.std.proofs.Common.{◌≡◌, ℕ, ◌<◌, ◌≤◌, ◌^◌, Bool, cond, ltb, ◌&&◌, List, Option, Some, None, ap, ◌∙◌, arith}
use Rattle.std.specs.Fmt.{decimal}
use Rattle.std.proofs.lemmas.Fmt.{decimal_is_IsNumeral}
use Rattle.std.proofs.lemmas.Bool.{lt-ltb, le-ltb}
use Rattle.std.proofs.lemmas.Cmp.{nat_list_eq_equiv}
use Rattle.ips_action.specs.Attrs.{is_same}
use Rattle.ips_books.specs.Accounts.{number_in}

abbrev decide : List ℕ → ℕ → Option ℕ
decide bytes n = cond (is_same bytes (decimal n) && ltb n (2 ^ 32)) (Some n) None

-- The number that the bytes spell is theirs, where it is below 2 ^ 32.
pub number_spelled : (bytes : List ℕ) (n : ℕ) → n < 2 ^ 64 → bytes ≡ decimal n → number_in bytes ≡ cond (ltb n (2 ^ 32)) (Some n) None
number_spelled bytes n lt e =
    ap number_in e
    ∙ ap (decide (decimal n)) (decimal_is_IsNumeral n lt).1
    ∙ ap (λ (t : Bool). cond (t && ltb n (2 ^ 32)) (Some n) None) (nat_list_eq_equiv.refl (decimal n))

pub number_small : (bytes : List ℕ) (n : ℕ) → n < 2 ^ 32 → bytes ≡ decimal n → number_in bytes ≡ Some n
number_small bytes n lt e = number_spelled bytes n (omega arith) e ∙ ap (λ (t : Bool). cond t (Some n) None) (lt-ltb n (2 ^ 32) lt)

pub number_large : (bytes : List ℕ) (n : ℕ) → n < 2 ^ 64 → 2 ^ 32 ≤ n → bytes ≡ decimal n → number_in bytes ≡ None
number_large bytes n lt le e = number_spelled bytes n lt e ∙ ap (λ (t : Bool). cond t (Some n) None) (le-ltb n (2 ^ 32) le)
