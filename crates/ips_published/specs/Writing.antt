-- How what is ready is carried out.
use Rattle.std.specs.Prelude.{ℕ, false, true, IsTrue, List, Result, Ok, Err, codes}
use Rattle.std.specs.List.{Contains}
use Rattle.ips_text.specs.declared.refusal.Or.{Or}
use Rattle.ips_text.specs.declared.refusal.Or.TheVariants.{Bad, OutOfMemory}
use Rattle.ips_outside.specs.Children.{path_bytes}
use Rattle.ips_outside.specs.Image.{Image, is_dir}
use Rattle.ips_outside.specs.State.{IsSettled}
use Rattle.ips_outside.specs.Outside.{Outside}
use Rattle.ips_digest.specs.declared.name.PayloadName.{PayloadName}
use Rattle.ips_steps.specs.Steps.{Step}
use Rattle.ips_steps.specs.Private.{records_name}
use Rattle.ips_journal.specs.declared.staged.Staged.{Staged}
use Rattle.ips_commit.specs.declared.fault.CommitFault.{CommitFault}
use Rattle.ips_commit.specs.declared.fault.CommitFault.TheVariants as commit
use Rattle.ips_ways.specs.Ways.{CanHave, with_dirs}
use Rattle.ips_lay.specs.Lists.{AreAllIntact}
use Rattle.ips_put.specs.Putting.{IsMeant, Puts, PutsNothing, is_done}
use Rattle.ips_ready.specs.declared.planning.Plan.{Plan}
use Rattle.ips_beside.specs.declared.fault.BesideFault.{BesideFault}
use Rattle.ips_beside.specs.declared.fault.BesideFault.TheVariants as beside
use Rattle.ips_beside.specs.Writing.{WritesBeside, StaysOffLaid}
use Rattle.ips_published.specs.Ending.{Ending, IsStopped}
use Rattle.ips_published.specs.declared.fault.PublishFault.{PublishFault}
use Rattle.ips_published.specs.declared.fault.PublishFault.TheVariants.{Refused, Lost, SourceFault, FolderFault, BadJournal}

-- each of these is a directory
abbrev pub AreDirectories : Image → List (List ℕ) → Type 0
AreDirectories t paths = (path : List ℕ) → Contains paths path → IsTrue (is_dir (t.look path))

-- What is ready can be written on the image: its directories can be made, and then each stands; those of the records stand already.
pub record CanWrite (plan : Plan) (t : Image) : Type 0 where
  pub can : CanHave t (path_bytes plan.ways.items)
  pub dirs : AreDirectories (with_dirs (path_bytes plan.ways.items) t) (path_bytes plan.ways.items)
  pub var : IsTrue (is_dir (t.look (codes "var")))
  pub records : IsTrue (is_dir (t.look records_name))

-- why not all is written beside, as it is answered
abbrev pub unwritten_as : Or BesideFault → Or PublishFault
unwritten_as (Bad (beside.Lost text)) = Bad (Lost text)
unwritten_as (Bad beside.SourceFault) = Bad SourceFault
unwritten_as (Bad beside.FolderFault) = Bad (FolderFault false)
unwritten_as OutOfMemory = OutOfMemory

-- a content is lost
abbrev pub IsLost : {T : Type 0} → Result T (Or PublishFault) → Type 0
IsLost (Ok x) = ⊥
IsLost (Err (Bad (Refused r))) = ⊥
IsLost (Err (Bad (Lost text))) = Unit {0}
IsLost (Err (Bad SourceFault)) = ⊥
IsLost (Err (Bad (FolderFault unfinished))) = ⊥
IsLost (Err (Bad (BadJournal line))) = ⊥
IsLost (Err OutOfMemory) = ⊥

-- why nothing more is put, as it is answered
abbrev pub unput_as : Or CommitFault → Or PublishFault
unput_as (Bad commit.Unchanged) = Bad (FolderFault false)
unput_as (Bad commit.Unfinished) = Bad (FolderFault true)
unput_as (Bad (commit.BadJournal line)) = Bad (BadJournal line)
unput_as OutOfMemory = OutOfMemory

-- why nothing is put, or not all
abbrev pub IsOfPutting : PublishFault → Type 0
IsOfPutting (Refused r) = ⊥
IsOfPutting (Lost text) = ⊥
IsOfPutting SourceFault = ⊥
IsOfPutting (FolderFault unfinished) = Unit {0}
IsOfPutting (BadJournal line) = Unit {0}

-- it is put, or the folder failed, or memory ran out
abbrev pub IsPutEnding : Ending → Type 0
IsPutEnding (Ok done) = Unit {0}
IsPutEnding (Err (Bad (Refused r))) = ⊥
IsPutEnding (Err (Bad (Lost text))) = ⊥
IsPutEnding (Err (Bad SourceFault)) = ⊥
IsPutEnding (Err (Bad (FolderFault unfinished))) = Unit {0}
IsPutEnding (Err (Bad (BadJournal line))) = ⊥
IsPutEnding (Err OutOfMemory) = Unit {0}

-- How what is ready is written: it ends beside; or, once all beside is written, safe and intact, the steps are put.
pub data Goes {F : Type 0} (o : Outside F) (publisher : List ℕ) (ways : List (List ℕ)) (names : List PayloadName) (steps : List Step) (staged : List Staged) (old new : F) : Ending → Type 0 where
  GoesBeside : (x : Ending) → IsStopped x → WritesBeside o publisher ways names old new → Goes o publisher ways names steps staged old new x
  GoesPutting : (x : Ending) (mid : F) → WritesBeside o publisher ways names old mid → IsSettled (o.state mid) → StaysOffLaid publisher (with_dirs ways (o.state old).held) names (o.state mid).held
      → AreAllIntact publisher (o.state mid).held names → Puts o (IsMeant steps staged (o.state mid).held) (is_done x) mid new → (IsStopped x → PutsNothing o mid new) → IsPutEnding x
      → Goes o publisher ways names steps staged old new x
