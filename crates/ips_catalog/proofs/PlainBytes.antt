-- Bytes that a pointer writes as they are.
use Rattle.std.proofs.Common.{◌≡◌, ℕ, ◌+◌, ◌/◌, ◌%◌, ◌<◌, ◌^◌, ◌≤◌, Bool, true, false, cond, ltb, List, [], ◌∷◌, refl, subst, arith}
use Rattle.std.specs.List.{flat_map, AllByRecursion}
use Rattle.std.specs.Fmt.{decimal}
use Rattle.std.proofs.lemmas.Bool.Decides.{nat_tests}
use Rattle.std.proofs.lemmas.Fmt.{decimal_is_IsNumeral}
use Rattle.std.specs.Str.Parse.{AllDigits}
use Rattle.std.specs.Char.{digit_value}
use Rattle.std.proofs.Math.Utf8.{encode}
use Rattle.ips_catalog.specs.Pointer.{escaped}

-- the byte is neither `~` nor `/`
abbrev pub IsPlain : ℕ → Type 0
IsPlain b = (b ≡ 126 → ⊥) × (b ≡ 47 → ⊥)

pub plain_byte : (b : ℕ) → IsPlain b → escaped b ≡ b ∷ []
plain_byte b plain = grind (arith, nat_tests, plain.0, plain.1)

pub plain_bytes : (bytes : List ℕ) → AllByRecursion IsPlain bytes → flat_map escaped bytes ≡ bytes
plain_bytes [] all = refl
plain_bytes (b ∷ bytes) all = rw (plain_byte b all.0, plain_bytes bytes all.1) refl

-- a byte of more than seven bits
high : (b : ℕ) → 128 ≤ b → IsPlain b
high b h = (λ e. omega arith, λ e. omega arith)

pub plain_character : (c : ℕ) → IsPlain c → flat_map escaped (encode c) ≡ encode c
unfolding encode
plain_character c plain = plain_bytes (encode c) (go (ltb c 128) (ltb c 2048) (ltb c 65536))
  where
    go : (x y z : Bool) → AllByRecursion IsPlain (cond x (c ∷ []) (cond y ((192 + c / 64) ∷ (128 + c % 64) ∷ []) (cond z ((224 + c / 4096) ∷ (128 + c / 64 % 64) ∷ (128 + c % 64) ∷ []) ((240 + c / 262144) ∷ (128 + c / 4096 % 64) ∷ (128 + c / 64 % 64) ∷ (128 + c % 64) ∷ []))))
    go true y z = (plain, tt)
    go false true z = (high (192 + c / 64) (omega arith), (high (128 + c % 64) (omega arith), tt))
    go false false true = (high (224 + c / 4096) (omega arith), (high (128 + c / 64 % 64) (omega arith), (high (128 + c % 64) (omega arith), tt)))
    go false false false = (high (240 + c / 262144) (omega arith), (high (128 + c / 4096 % 64) (omega arith), (high (128 + c / 64 % 64) (omega arith), (high (128 + c % 64) (omega arith), tt))))

digits_plain : (ds : List ℕ) → AllDigits 10 ds → AllByRecursion IsPlain ds
digits_plain [] all = tt
digits_plain (d ∷ ds) all = ((λ e. let h = subst (λ (b : ℕ). digit_value b < 10) e all.0 in omega arith, λ e. let h = subst (λ (b : ℕ). digit_value b < 10) e all.0 in omega arith), digits_plain ds all.1)

pub plain_decimal : (n : ℕ) → n < 2 ^ 64 → flat_map escaped (decimal n) ≡ decimal n
plain_decimal n fits = plain_bytes (decimal n) (digits_plain (decimal n) (decimal_is_IsNumeral n fits).0.1)
