-- What is written beside a repository.
use Rattle.std.specs.Prelude.{◌≡◌, ℕ, Bool, ◌||◌, IsTrue, List, slice_get, Some, Result, Ok, Err}
use Rattle.ips_text.specs.declared.refusal.Or.{Or}
use Rattle.ips_text.specs.declared.refusal.Or.TheVariants.{Bad, OutOfMemory}
use Rattle.ips_outside.specs.Image.{Image, Agrees}
use Rattle.ips_outside.specs.State.{nowhere}
use Rattle.ips_outside.specs.Outside.{Outside}
use Rattle.ips_folder.specs.Calls.{ChangesOnly}
use Rattle.ips_digest.specs.declared.name.PayloadName.{PayloadName}
use Rattle.ips_files.specs.Files.{file_at}
use Rattle.ips_ways.specs.Ways.{is_missing}
use Rattle.ips_lay.specs.Laid.{IsAtUnlaid, IsNotThere}
use Rattle.ips_lay.specs.Lists.{IsCounted}
use Rattle.ips_lay.specs.declared.content.Content.{Content}
use Rattle.ips_lay.specs.declared.content.LayFault.{LayFault}
use Rattle.ips_lay.specs.declared.content.LayFault.TheVariants as lay
use Rattle.ips_beside.specs.declared.fault.BesideFault.{BesideFault}
use Rattle.ips_beside.specs.declared.fault.BesideFault.TheVariants.{Lost, SourceFault, FolderFault}

-- At each moment only what is at or below missing directories on the way, or the places of contents that aren't intact once these are made, is changed and
-- touched.
pub record WritesBeside {F : Type 0} (o : Outside F) (publisher : List ℕ) (ways : List (List ℕ)) (names : List PayloadName) (old new : F) : Type 0 where
  pub mid : Image
  pub made : Agrees (is_missing (o.state old).held ways) nowhere (o.state old).held mid
  pub laid : List ℕ → Bool
  pub unlaid : (q : List ℕ) → IsTrue (laid q) → IsAtUnlaid publisher mid names q
  pub only : ChangesOnly o (λ q. is_missing (o.state old).held ways q || laid q) (λ q. is_missing (o.state old).held ways q || laid q) old new

-- but at the places of payloads that weren't intact the second image is the first
abbrev pub StaysOffLaid : List ℕ → Image → List PayloadName → Image → Type 0
StaysOffLaid publisher t names u = (q : List ℕ) → (IsAtUnlaid publisher t names q → ⊥) → u.look q ≡ t.look q

-- at the path of each content a file with its name stands, which isn't too large
abbrev pub AreThere : Image → List Content → Type 0
AreThere proto contents = (n : ℕ) (c : Content) → slice_get contents n ≡ Some c → IsNotThere c.name (file_at proto c.path.bytes) → ⊥

-- a content is lost
abbrev pub IsLost : {T : Type 0} → Result T (Or BesideFault) → Type 0
IsLost (Ok x) = ⊥
IsLost (Err (Bad (Lost text))) = Unit {0}
IsLost (Err (Bad SourceFault)) = ⊥
IsLost (Err (Bad FolderFault)) = ⊥
IsLost (Err OutOfMemory) = ⊥

-- the content that a fault tells of is one of so many
abbrev pub IsCountedFault : ℕ → Or LayFault → Type 0
IsCountedFault count (Bad why) = IsCounted count why
IsCountedFault count OutOfMemory = Unit {0}

-- it is answered that a content is lost, unless memory ran out
abbrev pub SaysLost : Or BesideFault → Type 0
SaysLost (Bad (Lost text)) = Unit {0}
SaysLost (Bad SourceFault) = ⊥
SaysLost (Bad FolderFault) = ⊥
SaysLost OutOfMemory = Unit {0}

-- why contents aren't laid, as it is answered
abbrev pub SaysUnlaid : Or LayFault → Or BesideFault → Type 0
SaysUnlaid (Bad (lay.Missing at)) e = SaysLost e
SaysUnlaid (Bad lay.SourceFault) e = e ≡ Bad SourceFault
SaysUnlaid (Bad lay.FolderFault) e = e ≡ Bad FolderFault
SaysUnlaid OutOfMemory e = e ≡ OutOfMemory
