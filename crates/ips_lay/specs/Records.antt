-- The directories of the records.
use Rattle.std.specs.Prelude.{ℕ, Bool, false, List, [], ◌∷◌, Result, Ok, Err, codes}
use Rattle.ips_text.specs.declared.refusal.Or.{Or}
use Rattle.ips_text.specs.declared.refusal.Or.TheVariants.{Bad, OutOfMemory}
use Rattle.ips_outside.specs.State.{nowhere}
use Rattle.ips_outside.specs.Outside.{Outside}
use Rattle.ips_folder.specs.Calls.{ChangesOnly}
use Rattle.ips_sends.specs.Sends.{MakesRecords}
use Rattle.ips_ways.specs.Ways.{is_missing}
use Rattle.ips_ways.specs.declared.making.Unmade.{Unmade}

-- the directories that are made before anything else, one in the other
abbrev pub record_dirs : List (List ℕ)
record_dirs = codes "var" ∷ codes "var/pkg" ∷ []

-- it isn't done, and not for want of memory
abbrev pub HasFailed : {T E : Type 0} → Result T (Or E) → Type 0
HasFailed (Ok x) = ⊥
HasFailed (Err (Bad why)) = Unit {0}
HasFailed (Err OutOfMemory) = ⊥

-- whether a call was made that may change something, as it is answered
abbrev pub has_made : Result Bool (Or Unmade) → Bool
has_made (Ok made) = made
has_made (Err (Bad why)) = why.begun
has_made (Err OutOfMemory) = false

-- Directories of the records were to be made and made safe, which failed: until then a crash may leave anything at or below them.
pub record MakesInPart {F : Type 0} (o : Outside F) (old new : F) : Type 0 where
  pub makes : MakesRecords o old new
  pub only : ChangesOnly o (is_missing (o.state old).held record_dirs) nowhere old new
