-- The least free number.
use Rattle.std.proofs.Common.{◌≡◌, ℕ, zero, suc, ◌+◌, ◌-◌, ◌^◌, ◌<◌, ◌≤◌, min, Bool, true, false, cond, List, length, sym, ap, ◌∙◌, arith}
use Rattle.ips_books.specs.Lines.{AccountLine}
use Rattle.ips_passwd.specs.Entries.{IsLeastFree}
use Rattle.ips_accounts.specs.Editing.{is_used, free_from, free_number}

-- Sought among so many, the number behind those that are used is found, where it is free or behind them all.
free_at : (lines : List AccountLine) (id more count : ℕ) → count ≤ more → ((k : ℕ) → k < count → is_used lines (id + k) ≡ true) → (count < more → is_used lines (id + count) ≡ false) → free_from lines id more ≡ id + count
unfolding free_from
free_at lines id zero count within used free = omega (arith, within)
free_at lines id (suc more) zero within used free = ap (λ (t : Bool). cond t (free_from lines (id + 1) more) id) (ap (is_used lines) (add_none id) ∙ free (omega arith)) ∙ add_none id
  where
    add_none : (id : ℕ) → id ≡ id + 0
    add_none id = omega arith
free_at lines id (suc more) (suc count) within used free =
    ap (λ (t : Bool). cond t (free_from lines (id + 1) more) id) (ap (is_used lines) (add_none id) ∙ used 0 (omega arith))
    ∙ free_at lines (id + 1) more count (omega (arith, within)) (λ k lt. ap (is_used lines) (next id k) ∙ used (suc k) (omega (arith, lt))) (λ lt. ap (is_used lines) (next id count) ∙ free (omega (arith, lt)))
    ∙ next id count
  where
    add_none : (id : ℕ) → id ≡ id + 0
    add_none id = omega arith

    next : (id k : ℕ) → id + 1 + k ≡ id + suc k
    next id k = omega arith

pub free_from_least : (lines : List AccountLine) (count : ℕ) → IsLeastFree lines count → free_from lines 1 (length lines) ≡ count + 1
free_from_least lines count is =
    free_at lines 1 (length lines) count is.within (λ k lt. ap (is_used lines) (swap k) ∙ is.used k lt) (λ lt. ap (is_used lines) (swap count) ∙ is.free lt) ∙ swap count
  where
    swap : (k : ℕ) → 1 + k ≡ k + 1
    swap k = omega arith

pub free_small : (lines : List AccountLine) (free : ℕ) → free_from lines 1 (length lines) ≡ free + 1 → free < 4294967295 → free + 1 ≡ free_number lines
free_small lines free is lt = sym (ap (λ (n : ℕ). min n (2 ^ 32 - 1)) is ∙ least (free + 1) (omega (arith, lt)))
  where
    least : (n : ℕ) → n ≤ 4294967295 → min n 4294967295 ≡ n
    least n le = omega arith

pub free_last : (lines : List AccountLine) (free : ℕ) → free_from lines 1 (length lines) ≡ free + 1 → 4294967295 ≤ free → 4294967295 ≡ free_number lines
free_last lines free is le = sym (ap (λ (n : ℕ). min n (2 ^ 32 - 1)) is ∙ most (free + 1) (omega (arith, le)))
  where
    most : (n : ℕ) → 4294967295 ≤ n → min n 4294967295 ≡ 4294967295
    most n le = omega arith
