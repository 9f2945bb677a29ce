-- The first byte that passes.
use Rattle.std.proofs.Common.{◌≡◌, ℕ, zero, suc, ◌+◌, ◌<◌, Bool, true, false, not, ◌||◌, List, [], ◌∷◌, length, take, drop, Option, Some, None, refl, sym, subst, arith, inl, inr, ◌⊎◌}
use Rattle.std.specs.Prelude.{nat_lt}
use Rattle.std.specs.List.{list_all, list_any, position, prefix_len}
use Rattle.std.proofs.lemmas.Bool.{ltb-true, ltb-false, true≢false}
use Rattle.std.proofs.lemmas.List.{take_all}
use Rattle.ips_text.proofs.Readers.{chosen}
use Rattle.ips_text.proofs.Truths.{some_same}

-- the bytes at the front pass, and the next doesn't
record Fronts (test : ℕ → Bool) (xs : List ℕ) (n : ℕ) : Type 0 where
  all : list_all test (take n xs) ≡ true
  rest : (n ≡ length xs) ⊎ ((byte : ℕ) × (after : List ℕ) × (drop n xs ≡ byte ∷ after) × (test byte ≡ false))

front_is : (test : ℕ → Bool) (xs : List ℕ) → Fronts test xs (prefix_len test xs)
front_is test [] = record { all = refl; rest = inl refl }
front_is test (x ∷ xs) = go (test x) refl (front_is test xs)
  where
    go : (t : Bool) → test x ≡ t → Fronts test xs (prefix_len test xs) → Fronts test (x ∷ xs) (prefix_len test (x ∷ xs))
    go true e h =
        let one : suc (prefix_len test xs) ≡ 1 + prefix_len test xs = omega arith in
        let more : Fronts test (x ∷ xs) (suc (prefix_len test xs)) = record { all = rw e h.all; rest = elim h.rest [ inl w ↦ inl (omega arith) | inr w ↦ inr w ] } in
        rw e (subst (Fronts test (x ∷ xs)) one more)
    go false e h = rw e (record { all = refl; rest = inr (x, xs, refl, e) })

pub record FirstAt (test : ℕ → Bool) (xs : List ℕ) (i : ℕ) : Type 0 where
  pub before : list_all (λ b. not (test b)) (take i xs) ≡ true
  pub byte : ℕ
  pub after : List ℕ
  pub rest : drop i xs ≡ byte ∷ after
  pub passes : test byte ≡ true
  pub within : i < length xs

not_false : (x : Bool) → not x ≡ false → x ≡ true
not_false true e = refl
not_false false e = absurd (true≢false e)

pub first_passes : (test : ℕ → Bool) (xs : List ℕ) (i : ℕ) → position test xs ≡ Some i → FirstAt test xs i
first_passes test xs i e =
    let n = prefix_len (λ (b : ℕ). not (test b)) xs in
    elim (chosen (nat_lt n (length xs)) (Some n) None (Some i) e) [
      | inl w ↦
          let within = ltb-true n (length xs) w.0 in
          let f = front_is (λ (b : ℕ). not (test b)) xs in
          elim f.rest [
            | inl v ↦ absurd (omega arith)
            | inr v ↦ subst (FirstAt test xs) (some_same n i w.1) (record { before = f.all; byte = v.0; after = v.1; rest = v.2; passes = not_false (test v.0) v.3; within = within })
          ]
      | inr w ↦ absurd cc
    ]

pub none_passes : (test : ℕ → Bool) (xs : List ℕ) → position test xs ≡ None → list_all (λ b. not (test b)) xs ≡ true
none_passes test xs e =
    let n = prefix_len (λ (b : ℕ). not (test b)) xs in
    elim (chosen (nat_lt n (length xs)) (Some n) None None e) [
      | inl w ↦ absurd cc
      | inr w ↦
          let past = ltb-false n (length xs) w.0 in
          let f = front_is (λ (b : ℕ). not (test b)) xs in
          subst (λ (l : List ℕ). list_all (λ b. not (test b)) l ≡ true) (take_all n xs past) f.all
    ]

-- a place is told exactly where some byte passes
abbrev pub Told : Option ℕ → Bool → Type 0
Told None some = some ≡ false
Told (Some i) some = some ≡ true

none_any : (test : ℕ → Bool) (xs : List ℕ) → list_all (λ b. not (test b)) xs ≡ true → list_any test xs ≡ false
none_any test [] h = refl
none_any test (x ∷ xs) h = go (test x) refl h (none_any test xs)
  where
    go : (t : Bool) → test x ≡ t → list_all (λ b. not (test b)) (x ∷ xs) ≡ true → (list_all (λ b. not (test b)) xs ≡ true → list_any test xs ≡ false) → list_any test (x ∷ xs) ≡ false
    go true g h more = absurd (true≢false (sym (rw g at h)))
    go false g h more = rw g (more (rw g at h))

or_right : (x y : Bool) → y ≡ true → (x || y) ≡ true
or_right true y h = refl
or_right false y h = h

some_any : (test : ℕ → Bool) (xs : List ℕ) (i : ℕ) (byte : ℕ) (after : List ℕ) → drop i xs ≡ byte ∷ after → test byte ≡ true → list_any test xs ≡ true
some_any test [] zero byte after r p = absurd cc
some_any test [] (suc i) byte after r p = absurd cc
some_any test (x ∷ xs) zero byte after r p = let same : x ≡ byte = cc in rw same (rw p refl)
some_any test (x ∷ xs) (suc i) byte after r p = or_right (test x) (list_any test xs) (some_any test xs i byte after r p)

pub any_told : (test : ℕ → Bool) (xs : List ℕ) (place : Option ℕ) → place ≡ position test xs → Told place (list_any test xs)
any_told test xs None e = none_any test xs (none_passes test xs (sym e))
any_told test xs (Some i) e = let f = first_passes test xs i (sym e) in some_any test xs i f.byte f.after f.rest f.passes
