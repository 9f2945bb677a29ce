-- How the fault of one content is told of a list.
use Rattle.std.proofs.Common.{◌≡◌, ℕ, ◌<◌, List, Some, Result, Ok, Err, refl}
use Rattle.std.specs.Prelude.{slice_get}
use Rattle.ips_text.specs.declared.refusal.Or.{Or}
use Rattle.ips_text.specs.declared.refusal.Or.TheVariants.{Bad, OutOfMemory}
use Rattle.ips_text.specs.Reading.{IfBad}
use Rattle.ips_outside.specs.Image.{Image}
use Rattle.ips_files.specs.Files.{file_at}
use Rattle.ips_lay.specs.declared.content.Content.{Content}
use Rattle.ips_lay.specs.declared.content.ContentFault.{ContentFault}
use Rattle.ips_lay.specs.declared.content.ContentFault.TheVariants as one
use Rattle.ips_lay.specs.declared.content.LayFault.{LayFault}
use Rattle.ips_lay.specs.declared.content.LayFault.TheVariants.{Missing, SourceFault, FolderFault}
use Rattle.ips_lay.specs.Laid.{IsNotThere}
use Rattle.ips_lay.specs.Lists.{SaysOfLay, IsCounted, fault_at}

abbrev pub OfOne : Or ContentFault → ContentFault → Type 0
OfOne e f = (let r : Result (Unit {0}) (Or ContentFault) = Err e in r) ≡ Err (Bad f)

abbrev pub OfList : Or LayFault → LayFault → Type 0
OfList e f = (let r : Result (Unit {0}) (Or LayFault) = Err e in r) ≡ Err (Bad f)

pub source_to : (n : ℕ) (e : Or ContentFault) → OfOne e one.SourceFault → OfList (fault_at n e) SourceFault
source_to n (Bad one.Missing) h = cc
source_to n (Bad one.SourceFault) h = refl
source_to n (Bad one.FolderFault) h = cc
source_to n OutOfMemory h = cc

pub source_from : (n : ℕ) (e : Or ContentFault) → OfList (fault_at n e) SourceFault → OfOne e one.SourceFault
source_from n (Bad one.Missing) h = cc
source_from n (Bad one.SourceFault) h = refl
source_from n (Bad one.FolderFault) h = cc
source_from n OutOfMemory h = cc

pub folder_to : (n : ℕ) (e : Or ContentFault) → OfOne e one.FolderFault → OfList (fault_at n e) FolderFault
folder_to n (Bad one.Missing) h = cc
folder_to n (Bad one.SourceFault) h = cc
folder_to n (Bad one.FolderFault) h = refl
folder_to n OutOfMemory h = cc

pub folder_from : (n : ℕ) (e : Or ContentFault) → OfList (fault_at n e) FolderFault → OfOne e one.FolderFault
folder_from n (Bad one.Missing) h = cc
folder_from n (Bad one.SourceFault) h = cc
folder_from n (Bad one.FolderFault) h = refl
folder_from n OutOfMemory h = cc

pub says_of_lay : (source : Image) (contents : List Content) (n : ℕ) (c : Content) → slice_get contents n ≡ Some c → (e : Or ContentFault) → (OfOne e one.Missing → IsNotThere c.name (file_at source c.path.bytes))
    → IfBad {X = Unit {0}} (Err (fault_at n e)) (SaysOfLay source contents)
says_of_lay source contents n c at (Bad one.Missing) says = (c, at, says refl)
says_of_lay source contents n c at (Bad one.SourceFault) says = tt
says_of_lay source contents n c at (Bad one.FolderFault) says = tt
says_of_lay source contents n c at OutOfMemory says = tt

pub counted_at : (n count : ℕ) → n < count → (e : Or ContentFault) → IfBad {X = Unit {0}} (Err (fault_at n e)) (IsCounted count)
counted_at n count lt (Bad one.Missing) = lt
counted_at n count lt (Bad one.SourceFault) = tt
counted_at n count lt (Bad one.FolderFault) = tt
counted_at n count lt OutOfMemory = tt
