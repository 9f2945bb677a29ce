-- Each key below the sizes has a number.
use Rattle.std.proofs.Common.{◌≡◌, ℕ, ◌+◌, ◌*◌, ◌^◌, ◌<◌, ◌≤◌, List, [], ◌∷◌, length, slice_index, refl, subst, arith}
use Rattle.std.proofs.Math.Nat.{mod-eq_of_lt}
use Rattle.std.proofs.lemmas.Nat.{div-mul-add, mod-mul-add, mul-le}
use Rattle.ips_cases.specs.Cases.{IsKey}
use Rattle.ips_cases.specs.Numbering.{key_at, key_count}

-- a digit behind a number that is below a bound
cat_small : (q r m w : ℕ) → q < m → r < w → q * w + r < m * w
cat_small q r m w hq hr =
    let more : (q + 1) * w ≤ m * w = mul-le (q + 1) w m w (omega arith) (omega arith) in
    omega (arith, more)

-- the number of a key
abbrev number_of : List ℕ → List ℕ → ℕ
number_of sizes key =
    ((slice_index key 0 * slice_index sizes 1 + slice_index key 1) * slice_index sizes 2 + slice_index key 2)
    * slice_index sizes 3 + slice_index key 3

number_of-small : (sizes key : List ℕ) → IsKey sizes key → number_of sizes key < key_count sizes
number_of-small sizes key h =
    cat_small _ _ _ _ (cat_small _ _ _ _ (cat_small _ _ _ _ (h.below 0 (omega arith)) (h.below 1 (omega arith))) (h.below 2 (omega arith)))
    (h.below 3 (omega arith))

-- a list of four, element by element
pub four : (key : List ℕ) → length key ≡ 4
    → slice_index key 0 ∷ slice_index key 1 ∷ slice_index key 2 ∷ slice_index key 3 ∷ [] ≡ key
four [] h = absurd (omega arith)
four (a ∷ []) h = absurd (omega arith)
four (a ∷ b ∷ []) h = absurd (omega arith)
four (a ∷ b ∷ c ∷ []) h = absurd (omega arith)
four (a ∷ b ∷ c ∷ d ∷ []) h = refl
four (a ∷ b ∷ c ∷ d ∷ e ∷ rest) h = absurd (omega arith)

key_at-number_of : (sizes key : List ℕ) → IsKey sizes key → key_at sizes (number_of sizes key) ≡ key
key_at-number_of sizes key h =
    let k0 = slice_index key 0 in
    let k1 = slice_index key 1 in
    let k2 = slice_index key 2 in
    let k3 = slice_index key 3 in
    let b = slice_index sizes 1 in
    let c = slice_index sizes 2 in
    let d = slice_index sizes 3 in
    let two : ℕ = k0 * b + k1 in
    let three : ℕ = two * c + k2 in
    let h0 = h.below 0 (omega arith) in
    let h1 = h.below 1 (omega arith) in
    let h2 = h.below 2 (omega arith) in
    let h3 = h.below 3 (omega arith) in
    rw (div-mul-add three d k3 h3, mod-mul-add three d k3 h3, div-mul-add two c k2 h2, mod-mul-add two c k2 h2, div-mul-add k0 b k1 h1, mod-mul-add k0 b k1 h1, mod-eq_of_lt h0)
    (four key h.places)

-- what holds at each number's key holds at each key
pub at_each_key : (P : List ℕ → Type 0) (sizes : List ℕ)
    → ((number : ℕ) → number < key_count sizes → P (key_at sizes number))
    → (key : List ℕ) → IsKey sizes key → P key
at_each_key P sizes all key h =
    subst P (key_at-number_of sizes key h) (all (number_of sizes key) (number_of-small sizes key h))

-- there are few keys
pub key_count-small : (a b c d : ℕ) → a ≤ 32 → b ≤ 32 → c ≤ 32 → d ≤ 32 → a * b * c * d < 2 ^ 32
key_count-small a b c d ha hb hc hd =
    let e = mul-le (a * b * c) d (32 * 32 * 32) 32 (mul-le (a * b) c (32 * 32) 32 (mul-le a b 32 32 ha hb) hc) hd in
    omega (arith, e)
