-- The last of the parts of a path.
use Rattle.std.proofs.Common.{◌≡◌, ℕ, List, ◌∷◌, sym, ◌∙◌, ap}
use Rattle.ips_text.specs.Path.{parts}
use Rattle.ips_action.specs.Check.{last_of}
use Rattle.ips_text.proofs.Fronts.{some_part}

-- a part before others isn't the last
pub last_on : (bytes part more : List ℕ) (last : List ℕ) → parts bytes ≡ part ∷ parts more → last_of (parts bytes) ≡ last → last_of (parts more) ≡ last
last_on bytes part more last cut is = go (some_part more)
  where
    go : (x : List ℕ) × (xs : List (List ℕ)) × (parts more ≡ x ∷ xs) → last_of (parts more) ≡ last
    go w =
        let shape : part ∷ parts more ≡ part ∷ (w.0 ∷ w.1) = ap (λ (l : List (List ℕ)). part ∷ l) w.2 in
        ap last_of w.2 ∙ ap last_of (sym (cut ∙ shape)) ∙ is
