-- A test of every key below given sizes, which computes: at written-out rows and sizes, `refl` proves that it passes.
use Rattle.std.proofs.Common.{◌≡◌, ℕ, ◌<◌, ◌==◌, Bool, true, false, List, [], ◌∷◌, slice_index, refl, arith}
use mir.Val.{bool_byte}
use Rattle.std.proofs.lemmas.Bool.{agree_below, agree_below_at, eqb-true}
use Rattle.ips_cases.specs.Cases.{IsKey, IsTable, meeting, value_at}
use Rattle.ips_cases.specs.declared.row.Row.{Row}
use Rattle.ips_cases.proofs.Numbers.{four}

-- each number below the size passes the test
abbrev pub each_below : ℕ → (ℕ → Bool) → Bool
each_below size test = agree_below test (λ n. true) size

-- each key below the sizes passes the test
abbrev pub each_key : ℕ → ℕ → ℕ → ℕ → (List ℕ → Bool) → Bool
each_key a b c d test =
    each_below a (λ i. each_below b (λ j. each_below c (λ k. each_below d (λ l. test (i ∷ j ∷ k ∷ l ∷ [])))))

-- a key passes what each key passes
pub each_key-at : (a b c d : ℕ) (test : List ℕ → Bool) → each_key a b c d test ≡ true
    → (key : List ℕ) → IsKey (a ∷ b ∷ c ∷ d ∷ []) key → test key ≡ true
each_key-at a b c d test all key h =
    let i = slice_index key 0 in
    let j = slice_index key 1 in
    let k = slice_index key 2 in
    let l = slice_index key 3 in
    let first = agree_below_at (λ i. each_below b (λ j. each_below c (λ k. each_below d (λ l. test (i ∷ j ∷ k ∷ l ∷ []))))) (λ n. true) a i all (h.below 0 (omega arith)) in
    let second = agree_below_at (λ j. each_below c (λ k. each_below d (λ l. test (i ∷ j ∷ k ∷ l ∷ [])))) (λ n. true) b j first (h.below 1 (omega arith)) in
    let third = agree_below_at (λ k. each_below d (λ l. test (i ∷ j ∷ k ∷ l ∷ []))) (λ n. true) c k second (h.below 2 (omega arith)) in
    let fourth = agree_below_at (λ l. test (i ∷ j ∷ k ∷ l ∷ [])) (λ n. true) d l third (h.below 3 (omega arith)) in
    rw (four key h.places) at fourth

-- rows that pass the test of a table are one
pub IsTable-from_test : (rows : List Row) (a b c d : ℕ) → each_key a b c d (λ key. meeting rows key == 1) ≡ true
    → IsTable rows (a ∷ b ∷ c ∷ d ∷ [])
IsTable-from_test rows a b c d all key h =
    eqb-true (meeting rows key) 1 (each_key-at a b c d (λ key. meeting rows key == 1) all key h)

-- rows that pass the test of a decision answer it at each key
pub value_at-from_test : (rows : List Row) (a b c d : ℕ) (decision : List ℕ → ℕ)
    → each_key a b c d (λ key. value_at rows key == decision key) ≡ true
    → (key : List ℕ) → IsKey (a ∷ b ∷ c ∷ d ∷ []) key → value_at rows key ≡ decision key
value_at-from_test rows a b c d decision all key h =
    eqb-true (value_at rows key) (decision key) (each_key-at a b c d (λ key. value_at rows key == decision key) all key h)

-- the place of an answer: 0 for no, 1 for yes
pub byte_below : (b : Bool) → bool_byte b < 2
byte_below true = omega arith
byte_below false = omega arith

pub byte_back : (b : Bool) → (bool_byte b == 1) ≡ b
byte_back true = refl
byte_back false = refl
