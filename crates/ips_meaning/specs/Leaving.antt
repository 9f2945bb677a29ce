-- How a list grows by what is left of another. Only the search for the admitted actions uses it.
use Rattle.std.specs.Prelude.{◌≡◌, List, ◌++◌}
use Rattle.ips_meaning.specs.Taken.{Leaves}

-- What is left of the list was put behind the old one.
abbrev pub LeavesMore : {A : Type 0} → (A → Type 0) → List A → List A → List A → Type 0
LeavesMore {A} P xs old new = (left : List A) × Leaves P xs left × (new ≡ old ++ left)
