-- Why contents aren't laid, as it is told of what is written.
use Rattle.std.proofs.Common.{◌≡◌, ℕ, Result, Err, refl, subst}
use Rattle.std.specs.Prelude.{List}
use Rattle.ips_text.specs.declared.refusal.Or.{Or}
use Rattle.ips_text.specs.declared.refusal.Or.TheVariants.{Bad, OutOfMemory}
use Rattle.ips_text.specs.Reading.{IfBad}
use Rattle.ips_outside.specs.Image.{Image}
use Rattle.ips_lay.specs.declared.content.Content.{Content}
use Rattle.ips_lay.specs.declared.content.LayFault.{LayFault}
use Rattle.ips_lay.specs.declared.content.LayFault.TheVariants as lay
use Rattle.ips_lay.specs.Lists.{IsCounted, SaysOfLay}
use Rattle.ips_beside.specs.declared.fault.BesideFault.{BesideFault}
use Rattle.ips_beside.specs.declared.fault.BesideFault.TheVariants.{SourceFault, FolderFault}
use Rattle.ips_beside.specs.Writing.{AreThere, IsCountedFault, IsLost, SaysLost, SaysUnlaid}

-- this is answered of laying
abbrev pub OfLay : Or LayFault → LayFault → Type 0
OfLay e f = (let r : Result (Unit {0}) (Or LayFault) = Err e in r) ≡ Err (Bad f)

-- this is answered of what is written
abbrev pub OfBeside : Or BesideFault → BesideFault → Type 0
OfBeside e f = (let r : Result (Unit {0}) (Or BesideFault) = Err e in r) ≡ Err (Bad f)

pub counted_fault : (count : ℕ) (why : Or LayFault) → IfBad {X = Unit {0}} (Err why) (IsCounted count) → IsCountedFault count why
counted_fault count (Bad why) h = h
counted_fault count OutOfMemory h = tt

-- what is lost is no failed call
not_source : (e : Or BesideFault) → SaysLost e → OfBeside e SourceFault → ⊥
not_source e says is = let same : e ≡ Bad SourceFault = cc in subst SaysLost same says

not_folder : (e : Or BesideFault) → SaysLost e → OfBeside e FolderFault → ⊥
not_folder e says is = let same : e ≡ Bad FolderFault = cc in subst SaysLost same says

told_as : (e : Or BesideFault) (f : BesideFault) → e ≡ Bad f → OfBeside e f
told_as e f is = cc

pub source_to : (why : Or LayFault) (e : Or BesideFault) → SaysUnlaid why e → OfLay why lay.SourceFault → OfBeside e SourceFault
source_to (Bad (lay.Missing at)) e says h = cc
source_to (Bad lay.SourceFault) e says h = told_as e SourceFault says
source_to (Bad lay.FolderFault) e says h = cc
source_to OutOfMemory e says h = cc

pub source_from : (why : Or LayFault) (e : Or BesideFault) → SaysUnlaid why e → OfBeside e SourceFault → OfLay why lay.SourceFault
source_from (Bad (lay.Missing at)) e says h = absurd (not_source e says h)
source_from (Bad lay.SourceFault) e says h = refl
source_from (Bad lay.FolderFault) e says h = let same : e ≡ Bad FolderFault = says in cc
source_from OutOfMemory e says h = let same : e ≡ OutOfMemory = says in cc

pub folder_to : (why : Or LayFault) (e : Or BesideFault) → SaysUnlaid why e → OfLay why lay.FolderFault → OfBeside e FolderFault
folder_to (Bad (lay.Missing at)) e says h = cc
folder_to (Bad lay.SourceFault) e says h = cc
folder_to (Bad lay.FolderFault) e says h = told_as e FolderFault says
folder_to OutOfMemory e says h = cc

pub folder_from : (why : Or LayFault) (e : Or BesideFault) → SaysUnlaid why e → OfBeside e FolderFault → OfLay why lay.FolderFault
folder_from (Bad (lay.Missing at)) e says h = absurd (not_folder e says h)
folder_from (Bad lay.SourceFault) e says h = let same : e ≡ Bad SourceFault = says in cc
folder_from (Bad lay.FolderFault) e says h = refl
folder_from OutOfMemory e says h = let same : e ≡ OutOfMemory = says in cc

-- where each content is there, none is lost
pub none_lost : (proto : Image) (contents : List Content) (why : Or LayFault) (e : Or BesideFault) → IfBad {X = Unit {0}} (Err why) (SaysOfLay proto contents) → SaysUnlaid why e → AreThere proto contents → IsLost {T = Unit {0}} (Err e) → ⊥
none_lost proto contents (Bad (lay.Missing at)) e says is there lost = there at says.0 says.1 says.2
none_lost proto contents (Bad lay.SourceFault) e says is there lost = subst (λ (x : Or BesideFault). IsLost {T = Unit {0}} (Err x)) is lost
none_lost proto contents (Bad lay.FolderFault) e says is there lost = subst (λ (x : Or BesideFault). IsLost {T = Unit {0}} (Err x)) is lost
none_lost proto contents OutOfMemory e says is there lost = subst (λ (x : Or BesideFault). IsLost {T = Unit {0}} (Err x)) is lost
