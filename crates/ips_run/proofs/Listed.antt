-- A change that is done came from a journal that listed just its steps.
use Rattle.std.proofs.Common.{◌≡◌, ℕ, arith, Bool, true, false, cond, List, [], refl, ◌∙◌, ap, subst}
use Rattle.ips_outside.specs.Image.{Image}
use Rattle.ips_outside.specs.Running.{Run}
use Rattle.ips_outside.specs.Outside.{Outside}
use Rattle.ips_steps.specs.Steps.{Step}
use Rattle.ips_kinds.specs.Tallies.{Carrier, all_counted}
use Rattle.ips_run.specs.declared.operation.Decision.{Decision}
use Rattle.ips_run.specs.declared.ending.Ending.{Ending}
use Rattle.ips_run.specs.declared.ending.Ending.TheVariants as ending
use Rattle.ips_run.specs.Ending.{is_done}
use Rattle.ips_run.specs.Comes.{IsCarriedTo}
use Rattle.ips_actuate.specs.declared.running.ActFault.{ActFault}
use Rattle.ips_commit.specs.declared.fault.CommitFault.{CommitFault}
use Rattle.ips_commit.specs.declared.fault.CommitFault.TheVariants as commit_fault
use Rattle.ips_run.specs.Phases.{IsUnrun, Failed, Spawn, uncommitted_as, IsNotBefore, HasListed}
use Rattle.ips_run.specs.Creating.{AreUnmade}

-- each step was counted, whether or not each actuator behind the commit was run
module _ {T : Type 0} (steps : List Step) (before behind : List (List (List ℕ))) (told : T) (old now : List Carrier) (Ran : List Run → Type 0) where
  pub counted_of : (x : Ending T) → is_done x ≡ true → IsCarriedTo steps before behind told old now Ran x → now ≡ all_counted steps old
  counted_of (ending.Done is) done carried = carried.1.counted
  counted_of (ending.ActuatorFailed after words status) done carried = carried.counted ∙ ap (λ (b : Bool). all_counted (cond b steps []) old) done
  counted_of (ending.SpawnFault after) done carried = carried.counted ∙ ap (λ (b : Bool). all_counted (cond b steps []) old) done
  counted_of (ending.Shown is) done carried = absurd carried
  counted_of (ending.Refused is) done carried = absurd carried
  counted_of ending.NothingToDo done carried = absurd carried
  counted_of ending.Unfinished done carried = absurd carried
  counted_of (ending.BadJournal line) done carried = absurd carried
  counted_of (ending.Recovered forward) done carried = absurd carried
  counted_of (ending.NotDirectory path) done carried = absurd carried
  counted_of (ending.BadPayload name fault) done carried = absurd carried
  counted_of ending.SourceFault done carried = absurd carried
  counted_of (ending.FolderFault unfinished) done carried = cc
  counted_of ending.OutOfMemory done carried = absurd carried

-- nothing is done where an actuator before the commit wasn't run to its end
pub unrun_undone : {T : Type 0} (list : List (List (List ℕ))) (why : ActFault) (x : Ending T) → IsUnrun list false why x → is_done x ≡ false
unrun_undone list why x (Failed at) = refl
unrun_undone list why x Spawn = refl

-- nor where the commit failed
pub uncommitted_undone : {T : Type 0} (why : CommitFault) (x : Ending T) → x ≡ uncommitted_as why → is_done x ≡ false
uncommitted_undone commit_fault.Unchanged x is = ap (λ (e : Ending _). is_done e) is
uncommitted_undone commit_fault.Unfinished x is = ap (λ (e : Ending _). is_done e) is
uncommitted_undone (commit_fault.BadJournal line) x is = ap (λ (e : Ending _). is_done e) is

-- nothing is done where the directories of the records aren't made
pub unmade_undone : {F T : Type 0} (o : Outside F) (old new : F) (x : Ending T) → AreUnmade o old new x → is_done x ≡ true → ⊥
unmade_undone o old new (ending.FolderFault unfinished) says done = cc
unmade_undone o old new (ending.NotDirectory path) says done = cc
unmade_undone o old new ending.OutOfMemory says done = cc
unmade_undone o old new (ending.Done told) says done = says
unmade_undone o old new (ending.Shown told) says done = says
unmade_undone o old new (ending.Refused told) says done = says
unmade_undone o old new ending.NothingToDo says done = says
unmade_undone o old new ending.Unfinished says done = says
unmade_undone o old new (ending.BadJournal line) says done = says
unmade_undone o old new (ending.Recovered forward) says done = says
unmade_undone o old new (ending.BadPayload name fault) says done = says
unmade_undone o old new (ending.ActuatorFailed after words status) says done = says
unmade_undone o old new (ending.SpawnFault after) says done = says
unmade_undone o old new ending.SourceFault says done = says

-- what a run listed was listed in one that began earlier
pub listed_since : {F T : Type 0} (o : Outside F) (D : Decision T → Type 0) (x : Ending T) (before now : List Carrier) (old at new : F) → IsNotBefore o old at → HasListed o D x before now at new → HasListed o D x before now old new
listed_since o D x before now old at new since listed = record {
  change = listed.change;
  decided = listed.decided;
  told = listed.told;
  ready = listed.ready;
  after = listed.after;
  staged = listed.staged;
  since = record { time = omega (arith, since.time, listed.since.time); faults = omega (arith, since.faults, listed.since.faults); changes = omega (arith, since.changes, listed.since.changes) };
  opened = listed.opened;
  counted = listed.counted;
  ended = listed.ended;
}

-- the same of a decision on an image that is the same
pub listed_on : {F T : Type 0} (o : Outside F) (D : Image → Decision T → Type 0) (x : Ending T) (before now : List Carrier) (old new : F) (t u : Image) → t ≡ u → HasListed o (D t) x before now old new → HasListed o (D u) x before now old new
listed_on o D x before now old new t u same listed = subst (λ (i : Image). HasListed o (D i) x before now old new) same listed
