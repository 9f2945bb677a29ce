-- The steps of a table's rows in an order, with where their contents come from.
use Rattle.std.specs.Prelude.{ℕ, Bool, true, false, List, [], ◌∷◌, ◌++◌, get_or, map, Option, Some, None}
use Rattle.ips_outside.specs.Image.{Image}
use Rattle.ips_after.specs.After.{change_after}
use Rattle.ips_after.specs.Request.{Request}
use Rattle.ips_after.specs.Salvage.{Aside, change_saving}
use Rattle.ips_change.specs.Told.{naming}
use Rattle.ips_change.specs.declared.change.Change.{Change as Told}
use Rattle.ips_change.specs.declared.change.Change.TheVariants as told
use Rattle.ips_change.specs.declared.survey.said.Said.{Said}
use Rattle.ips_change.specs.declared.survey.said.Said.TheVariants.{Lays, Takes}
use Rattle.ips_laying.specs.Laying.{Laid, LaidDir, LaidFile, LaidPayload}
use Rattle.ips_emptied.specs.order.Chosen.{path_in}
use Rattle.ips_emit.specs.Emitted.{FromPayload, OwnBytes, Provenance, Turn, provenances_told}

-- The paths with what becomes of each after the request, where these directories are emptied.
abbrev pub turns_of : Request → Image → (List ℕ → Bool) → List (List ℕ) → List Turn
turns_of r t emptied paths = map (λ p. (p, change_after (naming r) t emptied p)) paths

-- The paths with what becomes of each after the request, with what is saved.
abbrev pub turns_saving : Request → Image → Aside → List (List ℕ) → List Turn
turns_saving r t a paths = map (λ p. (p, change_saving (naming r) t a p)) paths

-- where the content of an entry that account files and records lay comes from, if it has one: its bytes are its own, or a payload's
abbrev pub provenances_laid : Option Laid → List Provenance
provenances_laid (Some (LaidDir m)) = []
provenances_laid (Some (LaidFile m b)) = OwnBytes b ∷ []
provenances_laid (Some (LaidPayload m payload)) = FromPayload payload ∷ []
provenances_laid None = []

-- where the content of a path's step comes from, if it has one: where its directory is emptied or not, by what is said of it, what is laid there
-- and what becomes of it without
abbrev pub provenances_at : Bool → Option Said → Option Laid → Told → List Provenance
provenances_at true said laid c = []
provenances_at false (Some Takes) laid c = []
provenances_at false (Some Lays) laid c = provenances_laid laid
provenances_at false None laid c = provenances_told c

-- the same of the row at a place
abbrev pub provenances_of : (List ℕ → Option Laid) → List (List ℕ) → List (Option Said) → List Told → List Bool → ℕ → List Provenance
provenances_of laid paths said changes emptied i = provenances_at (get_or emptied i false) (get_or said i None) (laid (path_in paths i)) (get_or changes i told.Kept)

-- The same of the rows at these places, one after another.
abbrev pub provenances_in : (List ℕ → Option Laid) → List (List ℕ) → List (Option Said) → List Told → List Bool → List ℕ → List Provenance
provenances_in laid paths said changes emptied [] = []
provenances_in laid paths said changes emptied (i ∷ order) = provenances_of laid paths said changes emptied i ++ provenances_in laid paths said changes emptied order
