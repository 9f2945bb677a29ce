-- What stands above a path is one.
use Rattle.std.proofs.Common.{◌≡◌, ℕ, true, not, ◌⊎◌, eqb, List, [], ◌∷◌, ◌++◌, inl, inr, refl, sym, ap, subst, arith}
use Rattle.std.proofs.lemmas.Bool.{eqb-true, false≢true}
use Rattle.ips_text.specs.Path.{IsPath}
use Rattle.std.specs.Prelude.{◌↔◌, codes}
use Rattle.std.proofs.lemmas.Bool.{and_parts, and_from, cases_Bool, not_from_false}
use Rattle.ips_text.specs.Ancestry.{covers, is_below, same_path}
use Rattle.ips_text.proofs.Ancestry.{same_path-true, covers-self}
use Rattle.ips_action.specs.Attrs.{is_same}
use Rattle.ips_conflict.proofs.Kept.{is_same_self}
use Rattle.ips_text.proofs.Fronts.{front_path, ascii_path}
use Rattle.ips_action.proofs.KeyOrder.{same_true}

-- ---- parts

-- the path is the other, or the other goes on behind it with a `/`
covers_cases : (p g : List ℕ) → covers p g ≡ true → (p ≡ g) ⊎ ((r : List ℕ) × (g ≡ p ++ 47 ∷ r))
covers_cases [] [] h = inl refl
covers_cases [] (b ∷ g) h = inr (g, ap (λ (x : ℕ). x ∷ g) (eqb-true b 47 h))
covers_cases (a ∷ p) [] h = absurd (false≢true h)
covers_cases (a ∷ p) (b ∷ g) h =
    let w = and_parts (eqb a b) (covers p g) h in
    let same : a ≡ b = eqb-true a b w.0 in
    elim (covers_cases p g w.1) [
      | inl e ↦ inl (rw (same, e) refl)
      | inr r ↦ inr (r.0, rw (← same) (ap (λ (l : List ℕ). a ∷ l) r.1))
    ]

-- a path that covers one is one
pub covers_path : (p g : List ℕ) → IsPath g → covers p g ≡ true → IsPath p
covers_path p g path h = elim (covers_cases p g h) [ inl e ↦ subst IsPath (sym e) path | inr r ↦ front_path p r.0 (subst IsPath r.1 path) ]

-- covered is the same, or below
pub covered : (p g : List ℕ) → (covers p g ≡ true) ↔ ((is_same p g ≡ true) ⊎ (is_below p g ≡ true))
covered p g = (
  λ h. elim (cases_Bool (same_path p g)) [
    | inl same ↦ inl (subst (λ (x : List ℕ). is_same p x ≡ true) (same_path-true p g same) (is_same_self p))
    | inr apart ↦ inr (and_from (covers p g) (not (same_path p g)) h (not_from_false (same_path p g) apart))
  ],
  λ w. elim w [
    | inl same ↦ subst (λ (x : List ℕ). covers p x ≡ true) (same_true p g same) (covers-self p)
    | inr below ↦ (and_parts (covers p g) (not (same_path p g)) below).0
  ],
)

pub legacy_path : IsPath (codes "var/sadm/pkg")
legacy_path = ascii_path (codes "var/sadm/pkg") refl refl refl refl refl (omega arith) (omega arith) refl
