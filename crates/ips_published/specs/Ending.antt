-- What is answered of a publication.
use Rattle.std.specs.Prelude.{◌≡◌, false, Result, Ok, Err}
use Rattle.ips_text.specs.declared.refusal.Or.{Or}
use Rattle.ips_text.specs.declared.refusal.Or.TheVariants.{Bad, OutOfMemory}
use Rattle.ips_judged.specs.declared.verdict.JudgeFault.{JudgeFault}
use Rattle.ips_judged.specs.declared.verdict.JudgeFault.TheVariants as judge
use Rattle.ips_published.specs.declared.fault.PublishFault.{PublishFault}
use Rattle.ips_published.specs.declared.fault.PublishFault.TheVariants.{Refused, Lost, SourceFault, FolderFault, BadJournal}

-- how a publication ends
abbrev pub Ending : Type 0
Ending = Result (Unit {0}) (Or PublishFault)

-- a call failed before that of the gate, or memory was refused
abbrev pub IsStopped : Ending → Type 0
IsStopped (Ok done) = ⊥
IsStopped (Err (Bad (Refused r))) = ⊥
IsStopped (Err (Bad (Lost text))) = ⊥
IsStopped (Err (Bad SourceFault)) = Unit {0}
IsStopped (Err (Bad (FolderFault unfinished))) = unfinished ≡ false
IsStopped (Err (Bad (BadJournal line))) = ⊥
IsStopped (Err OutOfMemory) = Unit {0}

-- a call on the repository failed
abbrev pub IsFolderFault : Ending → Type 0
IsFolderFault (Ok done) = ⊥
IsFolderFault (Err (Bad (Refused r))) = ⊥
IsFolderFault (Err (Bad (Lost text))) = ⊥
IsFolderFault (Err (Bad SourceFault)) = ⊥
IsFolderFault (Err (Bad (FolderFault unfinished))) = Unit {0}
IsFolderFault (Err (Bad (BadJournal line))) = ⊥
IsFolderFault (Err OutOfMemory) = ⊥

-- it is refused by what was judged
abbrev pub IsRefusal : PublishFault → Type 0
IsRefusal (Refused r) = Unit {0}
IsRefusal (Lost text) = ⊥
IsRefusal SourceFault = ⊥
IsRefusal (FolderFault unfinished) = ⊥
IsRefusal (BadJournal line) = ⊥

-- it isn't refused
abbrev pub IsUnrefused : PublishFault → Type 0
IsUnrefused (Refused r) = ⊥
IsUnrefused (Lost text) = Unit {0}
IsUnrefused SourceFault = Unit {0}
IsUnrefused (FolderFault unfinished) = Unit {0}
IsUnrefused (BadJournal line) = Unit {0}

-- why it isn't judged that it can be published, as it is answered
abbrev pub unjudged_as : Or JudgeFault → Or PublishFault
unjudged_as (Bad (judge.Refused r)) = Bad (Refused r)
unjudged_as (Bad judge.SourceFault) = Bad SourceFault
unjudged_as (Bad judge.FolderFault) = Bad (FolderFault false)
unjudged_as OutOfMemory = OutOfMemory
