-- The steps of planning: what they are given, and what they promise.
use Rattle.std.specs.Prelude.{◌≡◌, ℕ, Bool, IsTrue, List, map, None, Result, Err, IfOk}
use Rattle.std.specs.List.{AllByRecursion}
use Rattle.ips_text.specs.Reading.{IfBad}
use Rattle.ips_text.specs.declared.refusal.Or.{Or}
use Rattle.ips_text.specs.declared.refusal.Or.TheVariants.{Bad}
use Rattle.ips_outside.specs.Image.{Image, is_dir}
use Rattle.ips_outside.specs.Outside.{Outside, Reads}
use Rattle.ips_steps.specs.Private.{records_name}
use Rattle.ips_steps.specs.View.{step_of}
use Rattle.ips_state.specs.State.{Recorded}
use Rattle.ips_state.specs.declared.state.State.{State}
use Rattle.ips_aside.specs.lost_and_found.Moments.{NamesMoment}
use Rattle.ips_meaning.specs.declared.entry.Entry.{Entry}
use Rattle.ips_change.specs.survey.Rows.{AreRows, HasLooked, row_pair}
use Rattle.ips_change.specs.declared.survey.row.Row.{Row}
use Rattle.ips_emit.specs.declared.emitting.Emitted.{Emitted}
use Rattle.ips_image_steps.specs.Answers.{CanBeListed}
use Rattle.ips_plan_limits.specs.Limits.{first_excess}
use Rattle.ips_plan.specs.declared.created.fault.CreateFault.{CreateFault}
use Rattle.ips_plan.specs.declared.created.fault.CreateFault.TheVariants as fault
use Rattle.ips_plan.specs.created.Creating.{AreStepsToMake, ComesOfMaking}
use Rattle.ips_plan.specs.created.Made.{IsBlank}

-- An image of this state can be made in the folder at the moment of this text: that can stand in a name, nothing is installed, and the folder of the records stands.
pub record CanCreate {F : Type 0} (o : Outside F) (text : List ℕ) (new : State) (folder : F) : Type 0 where
  pub moment : NamesMoment text
  pub blank : IsBlank new
  pub records : IsTrue (o.tells folder) → IsTrue (is_dir ((o.state folder).held.look records_name))

-- The rows are those of what is wanted, each with what stands at its path.
pub record AreSurveyed {F : Type 0} (o : Outside F) (want : List (List ℕ × Entry)) (folder : F) (rows : List Row) : Type 0 where
  pub are : AreRows want want (map row_pair rows)
  pub looked : IsTrue (o.tells folder) → AllByRecursion (HasLooked (o.state folder).held) rows

-- Steps are answered that a journal can list and that are within the limits, or why there are none; the folder is only looked at.
pub record AnswersSteps {F : Type 0} (o : Outside F) (old new : F) (result : Result Emitted (Or CreateFault)) : Type 0 where
  pub lists : IfOk result CanBeListed
  pub within : IfOk result (λ e. first_excess (map step_of e.steps.items) e.staged.items ≡ None)
  pub reads : Reads o old new (result ≡ Err (Bad fault.FolderFault))

-- The image with these records is planned, where no packages mean this: the steps make it, or the cause is told for which there are none.
pub record PlansImage (text : List ℕ) (new : Recorded) (want : List (List ℕ × Entry)) (told : Bool) (t : Image) (result : Result Emitted (Or CreateFault)) : Type 0 where
  pub laid : IsTrue told → IfOk result (AreStepsToMake text new want t)
  pub refused : IfBad result (ComesOfMaking told t text new want)
