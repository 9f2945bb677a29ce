-- Whether a text is a number, or numbers joined by dots, is decided.
use Rattle.std.proofs.Common.{◌≡◌, ◌⊎◌, inl, inr, ℕ, zero, suc, ◌<◌, ◌^◌, Bool, true, false, eqb, List, [], ◌∷◌, length, Result, Ok, Err, refl, sym, ◌∙◌, true≢false, arith}
use Rattle.std.specs.Fmt.{decimal}
use Rattle.std.specs.List.{AllWithin, HoldsAt, slice_split}
use Rattle.std.proofs.lemmas.Fmt.{decimal_injective}
use Rattle.ips_text.specs.declared.refusal.Stop.{Stop}
use Rattle.ips_text.specs.Number.{number_at}
use Rattle.ips_text.proofs.Numbers.{Reads-number, whole_number, no_number_before, no_number}
use Rattle.ips_action.specs.Check.{IsNumber, IsNumerals, IsId}
use Rattle.ips_action.proofs.Numbers.{numerals_are}
use Rattle.ips_grammar.proofs.Decided.{Decided, is_below}

-- a reader's word for where it stops; it is told nothing
abbrev kind : ℕ
kind = 0

abbrev Read : Type 0
Read = Result (ℕ × List ℕ) (Stop ℕ)

is_number : (value : List ℕ) → Decided (IsNumber value)
is_number value = go (number_at kind value) refl
  where
    ended : (n : ℕ) (rest : List ℕ) → number_at kind value ≡ Ok (n, rest) → (t : Bool) → eqb (length rest) 0 ≡ t → Decided (IsNumber value)
    ended n rest e true empty = inl (n, ((Reads-number kind).takes value (n, rest) e).1, whole_number kind value n rest e empty)
    ended n rest e false more = inr (λ w. no_number_before kind value n rest e more w.0 w.1 w.2)

    go : (r : Read) → number_at kind value ≡ r → Decided (IsNumber value)
    go (Ok z) e = ended z.0 z.1 e (eqb (length z.1) 0) refl
    go (Err s) e = inr (λ w. no_number kind value s e w.0 w.1 w.2)

pub is_id : (value : List ℕ) → Decided (IsId value)
is_id value = go (is_number value)
  where
    small : (n : ℕ) → n < 2 ^ 64 → value ≡ decimal n → Decided (n < 2 ^ 32) → Decided (IsId value)
    small n fits e (inl lt) = inl (n, lt, e)
    small n fits e (inr large) = inr (λ w. let same : w.0 ≡ n = decimal_injective w.0 n (omega (arith, w.1)) fits (sym w.2 ∙ e) in large (omega (arith, w.1, same)))

    go : Decided (IsNumber value) → Decided (IsId value)
    go (inl n) = small n.0 n.1 n.2 (is_below n.0 (2 ^ 32))
    go (inr none) = inr (λ w. none (w.0, omega (arith, w.1), w.2))

-- ---- numbers joined by dots

abbrev AllNumbers : List (List ℕ) → Type 0
AllNumbers parts = AllWithin IsNumber parts 0 (length parts)

abbrev NoNumber : List (List ℕ) → Type 0
NoNumber parts = (k : ℕ) × (k < length parts) × HoldsAt (λ part. IsNumber part → ⊥) parts k

all_from : (part : List ℕ) (parts : List (List ℕ)) → IsNumber part → AllNumbers parts → AllNumbers (part ∷ parts)
all_from part parts n rest zero d low lt = n
all_from part parts n rest (suc k) d low lt = rest k d (omega arith) (omega arith)

numbers : (parts : List (List ℕ)) → AllNumbers parts ⊎ NoNumber parts
numbers [] = inl (λ k d low lt. absurd (omega arith))
numbers (part ∷ parts) = go (is_number part) (numbers parts)
  where
    go : Decided (IsNumber part) → AllNumbers parts ⊎ NoNumber parts → AllNumbers (part ∷ parts) ⊎ NoNumber (part ∷ parts)
    go (inr none) rest = inr (0, omega arith, λ d. none)
    go (inl n) (inl rest) = inl (all_from part parts n rest)
    go (inl n) (inr w) = inr (suc w.0, omega (arith, w.1), λ d. w.2 d)

pub are_numerals : (value : List ℕ) → Decided (IsNumerals value)
are_numerals value = go (numbers (slice_split (λ b. eqb b 46) value))
  where
    go : AllNumbers (slice_split (λ b. eqb b 46) value) ⊎ NoNumber (slice_split (λ b. eqb b 46) value) → Decided (IsNumerals value)
    go (inl all) = inl ((numerals_are value true all).0 refl)
    go (inr none) = inr (λ w. true≢false (sym ((numerals_are value false none).1 w)))
