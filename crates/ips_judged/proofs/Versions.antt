-- A version is sought among others.
use Rattle.std.proofs.Common.{◌≡◌, ℕ, zero, suc, ◌<◌, Bool, true, false, ◌||◌, List, [], ◌∷◌, length, refl, sym, ap, ◌∙◌, arith}
use Rattle.std.specs.Prelude.{slice_index_or}
use Rattle.std.specs.List.{Contains, list_any}
use Rattle.std.specs.Ordering.{MatchOrdering, is_eq}
use Rattle.std.specs.declared.cmp.Ordering.{Ordering}
use Rattle.std.specs.declared.cmp.Ordering.TheVariants.{Less, Equal, Greater}
use Rattle.std.proofs.lemmas.Bool.{true≢false}
use Rattle.ips_fmri.specs.Version.{Parts}
use Rattle.ips_fmri.specs.Order.{IsLess, IsAtMost, version_cmp}

abbrev Compared : Type 0
Compared = (v w : Parts) → MatchOrdering (version_cmp v w) (IsLess v w) (v ≡ w) (IsLess w v)

abbrev Reflexive : Type 0
Reflexive = (v : Parts) → IsAtMost v v

same_version : Compared → (x v : Parts) → is_eq (version_cmp x v) ≡ true → x ≡ v
same_version law x v e = go (version_cmp x v) (law x v) e
  where
    go : (r : Ordering) → MatchOrdering r (IsLess x v) (x ≡ v) (IsLess v x) → is_eq r ≡ true → x ≡ v
    go Less m e = absurd (true≢false (sym e))
    go Equal m e = m
    go Greater m e = absurd (true≢false (sym e))

itself : Compared → Reflexive → (v : Parts) → is_eq (version_cmp v v) ≡ true
itself law reflexive v = go (version_cmp v v) (law v v)
  where
    go : (r : Ordering) → MatchOrdering r (IsLess v v) (v ≡ v) (IsLess v v) → is_eq r ≡ true
    go Less m = absurd (reflexive v m)
    go Equal m = refl
    go Greater m = absurd (reflexive v m)

-- one that is found is among them
pub found_among : Compared → (xs : List Parts) (v : Parts) → list_any (λ x. is_eq (version_cmp x v)) xs ≡ true → Contains xs v
found_among law [] v e = absurd (true≢false (sym e))
found_among law (x ∷ xs) v e = go (is_eq (version_cmp x v)) refl e (found_among law xs v)
  where
    go : (t : Bool) → is_eq (version_cmp x v) ≡ t → (t || list_any (λ y. is_eq (version_cmp y v)) xs) ≡ true → (list_any (λ y. is_eq (version_cmp y v)) xs ≡ true → Contains xs v) → Contains (x ∷ xs) v
    go true is e more = (0, omega arith, same_version law x v is)
    go false is e more = let r = more e in (suc r.0, omega (arith, r.1), r.2)

-- and one that is among them is found
pub among_found : Compared → Reflexive → (xs : List Parts) (v : Parts) (i : ℕ) → i < length xs → slice_index_or xs i v ≡ v → list_any (λ x. is_eq (version_cmp x v)) xs ≡ true
among_found law reflexive [] v i lt e = absurd (omega arith)
among_found law reflexive (x ∷ xs) v zero lt e =
    let here : is_eq (version_cmp x v) ≡ true = ap (λ (y : Parts). is_eq (version_cmp y v)) e ∙ itself law reflexive v in
    ap (λ (t : Bool). t || list_any (λ y. is_eq (version_cmp y v)) xs) here
among_found law reflexive (x ∷ xs) v (suc i) lt e = go (is_eq (version_cmp x v)) (among_found law reflexive xs v i (omega arith) e)
  where
    go : (t : Bool) → list_any (λ y. is_eq (version_cmp y v)) xs ≡ true → (t || list_any (λ y. is_eq (version_cmp y v)) xs) ≡ true
    go true more = refl
    go false more = more
