-- The steps of wanted paths, with where their contents come from.
use Rattle.std.specs.Prelude.{ℕ, List, [], ◌∷◌, ◌++◌, get_or, map}
use Rattle.ips_outside.specs.Image.{Image}
use Rattle.ips_after.specs.Repaired.{Repair, repairs}
use Rattle.ips_change.specs.declared.change.Change.{Change}
use Rattle.ips_change.specs.declared.change.Change.TheVariants as told
use Rattle.ips_emit.specs.Emitted.{Provenance, Turn, provenances_told}

-- The paths with what a repair makes of each.
abbrev pub turns_mended : Repair → Image → List (List ℕ) → List Turn
turns_mended f t paths = map (λ p. (p, repairs f t p)) paths

-- Where the contents of the changes at these places come from, one after another.
abbrev pub sources_in : List Change → List ℕ → List Provenance
sources_in changes [] = []
sources_in changes (i ∷ order) = provenances_told (get_or changes i told.Kept) ++ sources_in changes order
