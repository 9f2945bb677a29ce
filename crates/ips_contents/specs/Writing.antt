-- What a call that writes contents promises.
use Rattle.std.specs.Prelude.{◌≡◌, ◌⊎◌, ℕ, ◌≤◌, Bool, IsTrue, OnOk, List, length, Result, Err}
use Rattle.ips_text.specs.Reading.{IfBad}
use Rattle.ips_text.specs.Ancestry.{covers}
use Rattle.ips_text.specs.declared.refusal.Or.{Or}
use Rattle.ips_text.specs.declared.refusal.Or.TheVariants.{Bad}
use Rattle.ips_outside.specs.State.{State}
use Rattle.ips_outside.specs.Outside.{Outside, HasCause, Reads}
use Rattle.ips_folder.specs.Calls.{ChangesOnly, Throughout}
use Rattle.ips_steps.specs.declared.step.Step.{Step}
use Rattle.ips_journal.specs.declared.staged.Staged.{Staged}
use Rattle.ips_rehearse.specs.Rehearsed.{IsRehearsed}
use Rattle.ips_contents.specs.Contents.{AreIntactContents, SaysOfStage}
use Rattle.ips_contents.specs.declared.fault.StageFault.{StageFault}
use Rattle.ips_contents.specs.declared.fault.StageFault.TheVariants as stage

-- One content is written: nothing is changed but the path, what is below it and these modes, the source is only read, and a
-- fault of either is told just where a call on it failed.
pub record WritesAt {S F : Type 0} (q : Outside S) (o : Outside F) (path : List ℕ) (loose : List ℕ → Bool) (source_old source_new : S) (old new : F) (result : Result (Unit {0}) (Or StageFault)) : Type 0 where
  pub any_moment : IsTrue (o.tells old) → ChangesOnly o (covers path) loose old new
  pub reads : Reads q source_old source_new (result ≡ Err (Bad stage.SourceFault))
  pub cause : HasCause (o.faults old) (o.faults new) (result ≡ Err (Bad stage.FolderFault))
  pub same_kind : o.tells new ≡ o.tells old
  pub changes : o.changes old ≤ o.changes new

-- What these steps ask of a file system was tried in these calls, beside so many contents, between two moments; P was so at each moment before
-- the first and behind the second. Where there is no step nothing is tried.
pub record WasRehearsed {F : Type 0} (o : Outside F) (steps : List Step) (contents : ℕ) (P : State → Type 0) (old new : F) : Type 0 where
  pub from : F
  pub to : F
  pub since : Throughout o old from P
  pub tried : (length steps ≡ 0) ⊎ IsRehearsed o steps contents from to
  pub until : Throughout o to new P

-- Contents are staged out of a source that is only read: once that is done each payload of the list is intact, a payload that is
-- refused is the first that isn't, a fault of the folder is told just where a call on it failed, and one of the source as is said.
pub record Stages {S F T : Type 0} (q : Outside S) (o : Outside F) (publisher : List ℕ) (staged : List Staged) (is_sources : Type 0) (source_old source_new : S) (old new : F) (result : Result T (Or StageFault)) : Type 0 where
  pub intact : IsTrue (q.tells source_old) → OnOk result (AreIntactContents (q.state source_old).held publisher staged)
  pub refused : IfBad result (SaysOfStage (q.tells source_old) (q.state source_old).held publisher staged)
  pub reads : Reads q source_old source_new is_sources
  pub cause : HasCause (o.faults old) (o.faults new) (result ≡ Err (Bad stage.FolderFault))
  pub same_kind : o.tells new ≡ o.tells old
  pub changes : o.changes old ≤ o.changes new
