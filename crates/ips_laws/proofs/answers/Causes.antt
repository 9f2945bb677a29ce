-- What a run tells has its cause.
use Rattle.std.proofs.Common.{inl, inr, ℕ, Bool, true, IsTrue, List, map, subst}
use Rattle.ips_outside.specs.Image.{Image}
use Rattle.ips_outside.specs.Outside.{Outside}
use Rattle.ips_outside.specs.Running.{Run, Running}
use Rattle.ips_steps.specs.Steps.{Step}
use Rattle.ips_steps.specs.View.{step_of}
use Rattle.ips_kinds.specs.Tallies.{Carrier}
use Rattle.ips_history.specs.Directories.{image_for}
use Rattle.ips_history.specs.declared.effect.Effect.{Effect}
use Rattle.ips_history.specs.declared.effect.Effect.TheVariants as effect
use Rattle.ips_report.specs.declared.outcome.Outcome.{Outcome}
use Rattle.ips_run.specs.declared.operation.Decision.{Decision}
use Rattle.ips_run.specs.declared.ending.Ending.{Ending}
use Rattle.ips_run.specs.declared.ending.Ending.TheVariants as ending
use Rattle.ips_run.specs.Comes.{Comes, HasRun, IsCarriedTo, Back, Carried, NotDirectory, Unfinished, Unopened, Unready}
use Rattle.ips_words.specs.declared.command.Command.{Command}
use Rattle.ips_showing.specs.Shows as showing
use Rattle.ips_operations.specs.changing.Decides.{Decides, asked_of}
use Rattle.ips_operations.specs.changing.Leads.{LeadsWhere}
use Rattle.ips_operations.specs.creating.Decides as creating
use Rattle.ips_operations.specs.fixing.Decides as fixing
use Rattle.ips_tell.specs.performing.Performed.{At, IsPerformed}
use Rattle.ips_top.specs.Runs.{Does, Answers, Changes, Creates, Fixes, Shows, Tries}
use Rattle.ips_laws.specs.answers.Causes.{CanCome, CauseStands, Answering, Changing, Creating, Fixing, Showing, Trying}

-- ---- whichever actuators were run

module _ (steps : List Step) (before behind : List (List (List ℕ))) (told : Outcome) (old now : List Carrier) (Ran : List Run → Type 0) where
  carried_too : (x : Ending Outcome) → IsCarriedTo steps before behind told old now Ran x → IsCarriedTo steps before behind told old now (λ runs. Unit {0}) x
  carried_too (ending.Done is) says = (says.0, record { counted = says.1.counted; ran = tt })
  carried_too (ending.ActuatorFailed after words status) says = record { index = says.index; stands = says.stands; failed = says.failed; counted = says.counted; ran = tt }
  carried_too (ending.SpawnFault after) says = record { index = says.index; within = says.within; counted = says.counted; ran = tt }
  carried_too (ending.FolderFault unfinished) (inl (is, part)) = inl (is, record { laid = part.laid; few = part.few; counted = part.counted; ran = tt })
  carried_too (ending.FolderFault unfinished) (inr (is, inl (words, status, failed))) = inr (is, inl (words, status, record { index = failed.index; stands = failed.stands; failed = failed.failed; counted = failed.counted; ran = tt }))
  carried_too (ending.FolderFault unfinished) (inr (is, inr unrun)) = inr (is, inr (record { index = unrun.index; within = unrun.within; counted = unrun.counted; ran = tt }))
  carried_too ending.SourceFault says = absurd says
  carried_too ending.OutOfMemory says = absurd says
  carried_too (ending.Shown text) says = absurd says
  carried_too (ending.Refused why) says = absurd says
  carried_too ending.NothingToDo says = absurd says
  carried_too ending.Unfinished says = absurd says
  carried_too (ending.BadJournal line) says = absurd says
  carried_too (ending.Recovered forward) says = absurd says
  carried_too (ending.NotDirectory path) says = absurd says
  carried_too (ending.BadPayload name why) says = absurd says

module _ (e : Effect) (decides : Decision Outcome → Type 0) (repository held left : Image) (old now : List Carrier) (Ran : List Run → Type 0) where
  comes_too : (x : Ending Outcome) → Comes e decides true repository held left old now Ran x → Comes e decides true repository held left old now (λ runs. Unit {0}) x
  comes_too x (Unopened why leaves same ran) = Unopened why leaves same tt
  comes_too x (Unfinished unfixed there kept same ran) = Unfinished unfixed there kept same tt
  comes_too x (Back fixing stopped says ran) = Back fixing stopped says tt
  comes_too x (NotDirectory {path = path} creating shut way kept same ran) = NotDirectory {path = path} creating shut way kept same tt
  comes_too x (Unready decide says leaves same ran) = Unready decide says leaves same tt
  comes_too x (Carried c changes decide decided intact leaves says) =
      Carried c changes decide decided intact leaves (carried_too (map step_of c.steps.items) c.before.items c.after.items c.told old now Ran x says)

-- ---- the cause of what is told

module _ {F S P : Type 0} (o : Outside F) (q : Outside S) (r : Running P) (old new : At F S P) (tells : IsTrue (o.tells old.folder)) (reads : IsTrue (q.tells old.source)) (told : Outcome) where
  came : (e : Effect) (decides : Bool → Image → Image → Decision Outcome → Type 0) (means : Bool → Image → Image → Image → Type 0) → IsPerformed o q r e decides means old new told
      → CanCome e (decides true (q.state old.source).held) (q.state old.source).held (o.state old.folder).held told
  came e decides means x =
      let (ends, is, comes) = x.comes tells in
      let held = (o.state old.folder).held in
      let repository = (q.state old.source).held in
      let left = (o.state new.folder).held in
      let there = subst (λ (v : Bool). Comes e (decides v repository (image_for e held)) v repository held left old.counted new.counted (HasRun r old.spawner new.spawner) ends) reads comes in
      record { left = left; before = old.counted; now = new.counted; comes = (ends, is, comes_too e (decides true repository (image_for e held)) repository held left old.counted new.counted (HasRun r old.spawner new.spawner) ends there) }

  pub cause_of : (c : Command) (moment : ℕ) → Does o q r c moment old new told → CauseStands c moment (q.state old.source).held (o.state old.folder).held told
  cause_of c moment (Shows a is x) = Showing a is (came effect.Shows (λ t repository image d. showing.Shows image a d) _ x)
  cause_of c moment (Changes is x) = Changing is (came effect.Changes (λ t repository image d. Decides (asked_of c moment t repository image) d) (LeadsWhere c moment) x)
  cause_of c moment (Creates a is x) = Creating a is (came effect.Creates (λ t repository image d. creating.Decides a image d) (creating.makes_of a) x)
  cause_of c moment (Fixes a is x) = Fixing a is (came effect.Fixes (λ t repository image d. fixing.Decides a image d) (fixing.repairs_of a) x)
  cause_of c moment (Tries number is x left) = Trying number is old.counted new.counted x
  cause_of c moment (Answers x left) = Answering x
