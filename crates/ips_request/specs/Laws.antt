-- Stems are told apart by their bytes.
use Rattle.std.proofs.Common.{◌≡◌, ℕ, true, List, ◌∷◌, refl, bytes_eq}
use Rattle.std.proofs.lemmas.Bool.{or_left}
use Rattle.std.proofs.lemmas.Slice.Eq.{bytes_eq-Decides}
use Rattle.ips_request.specs.Stems.{has}

-- a stem is the same as itself
pub same_as_itself : (stem : List ℕ) → bytes_eq stem stem ≡ true
same_as_itself stem = (bytes_eq-Decides stem stem).1 refl

-- the first of stems is one of them
pub has_first : (stem : List ℕ) (others : List (List ℕ)) → has stem (stem ∷ others) ≡ true
has_first stem others = or_left (bytes_eq stem stem) (has stem others) (same_as_itself stem)
