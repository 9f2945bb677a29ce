-- What is reached at a path or above it, by the path's parent.
use Rattle.std.proofs.Common.{◌≡◌, ℕ, ◌==◌, Bool, true, false, cond, ◌&&◌, ◌||◌, List, [], ◌∷◌, Option, Some, None, refl, sym, ◌∙◌, ap}
use Rattle.ips_text.specs.Ancestry.{behind, parent}
use Rattle.ips_text.proofs.Truths.{or_false, or_swapped}
use Rattle.ips_after.specs.Change.{reached}

-- the test holds at the directory or at one above it, if there is one
abbrev pub reached_at : (List ℕ → Bool) → Option (List ℕ) → Bool
reached_at test (Some dir) = reached test dir
reached_at test None = false

pub reached_by : (test : List ℕ → Bool) (p : List ℕ) → reached test p ≡ (test p || reached_at test (parent p))
reached_by test [] = or_false (test [])
reached_by test (a ∷ p) =
    ap (λ (b : Bool). ((a == 47) && test []) || b) (reached_by (λ (q : List ℕ). test (a ∷ q)) p)
    ∙ or_swapped ((a == 47) && test []) (test (a ∷ p)) (reached_at (λ (q : List ℕ). test (a ∷ q)) (parent p))
    ∙ ap (λ (b : Bool). test (a ∷ p) || b) (go (parent p))
  where
    none : (b c : Bool) → ((b && c) || false) ≡ cond b c false
    none true true = refl
    none true false = refl
    none false c = refl

    root : (b : Bool) → cond b (test []) false ≡ reached_at test (cond b (Some []) None)
    root true = refl
    root false = refl

    go : (o : Option (List ℕ)) → (((a == 47) && test []) || reached_at (λ (q : List ℕ). test (a ∷ q)) o) ≡ reached_at test (behind a o)
    go (Some dir) = refl
    go None = none (a == 47) (test []) ∙ root (a == 47)

pub reached_here : (test : List ℕ → Bool) (p : List ℕ) → test p ≡ true → true ≡ reached test p
reached_here test p is = sym (reached_by test p ∙ ap (λ (b : Bool). b || reached_at test (parent p)) is)

pub reached_above : (test : List ℕ → Bool) (p : List ℕ) → test p ≡ false → reached test p ≡ reached_at test (parent p)
reached_above test p is = reached_by test p ∙ ap (λ (b : Bool). b || reached_at test (parent p)) is
