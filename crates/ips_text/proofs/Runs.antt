-- The longest run of bytes that pass a test.
use Rattle.std.proofs.Common.{◌≡◌, ℕ, zero, suc, ◌≤◌, Bool, true, false, List, [], ◌∷◌, ◌++◌, length, take, drop, get_or, refl, ap, arith, inl, inr, ◌⊎◌}
use Rattle.std.specs.List.{list_all}
use Rattle.std.proofs.lemmas.Bool.{and_parts}
use Rattle.ips_text.specs.Reading.{run}

-- the next byte doesn't pass
abbrev pub Ends : (ℕ → Bool) → List ℕ → Type 0
Ends test [] = Unit {0}
Ends test (c ∷ rest) = test c ≡ false

pub record RunIs (test : ℕ → Bool) (bytes : List ℕ) : Type 0 where
  pub parts : bytes ≡ (run test bytes).0 ++ (run test bytes).1
  pub all : list_all test (run test bytes).0 ≡ true
  pub ends : Ends test (run test bytes).1

pub run_is : (test : ℕ → Bool) (bytes : List ℕ) → RunIs test bytes
run_is test [] = record { parts = refl; all = refl; ends = tt }
run_is test (b ∷ bytes) = go (test b) refl (run_is test bytes)
  where
    go : (t : Bool) → test b ≡ t → RunIs test bytes → RunIs test (b ∷ bytes)
    go true e h = record { parts = rw e (ap (λ (l : List ℕ). b ∷ l) h.parts); all = rw e (rw e h.all); ends = rw e h.ends }
    go false e h = record { parts = rw e refl; all = rw e refl; ends = rw e e }

pub run_again : (test : ℕ → Bool) (x rest : List ℕ) → list_all test x ≡ true → Ends test rest → run test (x ++ rest) ≡ (x, rest)
run_again test [] [] all ends = refl
run_again test [] (c ∷ rest) all ends = rw ends refl
run_again test (b ∷ x) rest all ends =
    let h = and_parts (test b) (list_all test x) all in
    let more = run_again test x rest h.1 ends in
    rw (h.0, more) refl

-- the run up to a place
pub run_at : (test : ℕ → Bool) (bytes : List ℕ) (i : ℕ) → i ≤ length bytes → list_all test (take i bytes) ≡ true → (i ≡ length bytes) ⊎ (test (get_or bytes i 0) ≡ false) → run test bytes ≡ (take i bytes, drop i bytes)
run_at test [] zero le all end = refl
run_at test [] (suc i) le all end = absurd (omega arith)
run_at test (b ∷ bytes) zero le all end = elim end [ inl w ↦ absurd (omega arith) | inr w ↦ rw w refl ]
run_at test (b ∷ bytes) (suc i) le all end =
    let h = and_parts (test b) (list_all test (take i bytes)) all in
    let more = run_at test bytes i (omega arith) h.1 (elim end [ inl w ↦ inl (omega arith) | inr w ↦ inr w ]) in
    rw (h.0, more) refl
