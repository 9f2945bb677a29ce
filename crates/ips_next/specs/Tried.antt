-- What there is to try of the stems of a puzzle.
use Rattle.std.specs.Prelude.{ℕ, List, [], ◌∷◌, map, Option, Some, None}
use Rattle.std.specs.Option.{option_map}
use Rattle.ips_fmri.specs.Version.{Parts}
use Rattle.ips_problem.specs.Posed.{Offer, StemRow}
use Rattle.ips_report.specs.declared.unsolved.Tried as declared

-- A stem, and its candidates in order; None is absence.
pub record Tried : Type 0 where
  pub stem : List ℕ
  pub candidates : List (Option Parts)

-- what is told of a stem
abbrev pub seen_tried : declared.Tried → Tried
seen_tried t = record { stem = t.stem; candidates = t.candidates.items }

-- the version that is offered
abbrev pub offered : Option Offer → Option Parts
offered o = option_map (λ (offer : Offer). offer.version) o

-- the versions that the candidates of a stem offer
abbrev pub offered_in : Option StemRow → List (Option Parts)
offered_in None = []
offered_in (Some row) = map offered row.candidates

-- what there is to try of the stems of a puzzle
abbrev pub tried_rows : List (List ℕ) → List StemRow → List Tried
tried_rows [] rows = []
tried_rows (stem ∷ stems) [] = record { stem = stem; candidates = [] } ∷ tried_rows stems []
tried_rows (stem ∷ stems) (row ∷ rows) = record { stem = stem; candidates = map offered row.candidates } ∷ tried_rows stems rows
