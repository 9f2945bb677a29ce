-- What is answered.
use Rattle.std.specs.Prelude.{◌⊎◌, ℕ, Result, Ok, Err}
use Rattle.ips_outside.specs.Outside.{Rose}
use Rattle.ips_text.specs.declared.refusal.Or.{Or}
use Rattle.ips_text.specs.declared.refusal.Or.TheVariants.{Bad, OutOfMemory}

-- the answer is a fault, and not that memory ran out
abbrev pub IsBad : {T E : Type 0} → Result T (Or E) → Type 0
IsBad (Ok x) = ⊥
IsBad (Err (Bad fault)) = Unit {0}
IsBad (Err OutOfMemory) = ⊥

-- a fact where memory ran out
abbrev pub IfStarved : {T E : Type 0} → Result T (Or E) → Type 0 → Type 0
IfStarved (Ok x) P = Unit {0}
IfStarved (Err (Bad fault)) P = Unit {0}
IfStarved (Err OutOfMemory) P = P

-- A failure, of which the count of an object went from one number to the other, is told as its own; or it is masked: another one
-- is told in its place.
abbrev pub IsToldOrMasked : ℕ → ℕ → Type 0 → Type 0 → Type 0
IsToldOrMasked before now own other = own ⊎ (other × Rose before now)
