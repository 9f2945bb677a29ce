-- What an ending says of the tallies: how far they rise where a change is done, and that they stay where something is shown or refused.
use Rattle.std.proofs.Common.{◌≡◌, ◌∙◌, ℕ, Bool, List, sym, ap, map}
use Rattle.std.specs.declared.vec.Vec.{Vec}
use Rattle.std.specs.declared.alloc.Global.{Global}
use Rattle.ips_text.specs.declared.text.Text.{Text}
use Rattle.ips_outside.specs.Image.{Image}
use Rattle.ips_outside.specs.Running.{Run}
use Rattle.ips_counts.specs.declared.counts.Counts.{Counts}
use Rattle.ips_counts.specs.declared.sorts.Sorts.{Sorts}
use Rattle.ips_steps.specs.View.{step_of}
use Rattle.ips_kinds.specs.Tallies.{Carrier, all_counted}
use Rattle.ips_history.specs.declared.effect.Effect.{Effect}
use Rattle.ips_report.specs.declared.outcome.Outcome.{Outcome}
use Rattle.ips_report.specs.declared.outcome.Outcome.TheVariants.{Done}
use Rattle.ips_run.specs.declared.operation.Change.{Change}
use Rattle.ips_run.specs.declared.operation.Decision.{Decision}
use Rattle.ips_run.specs.declared.operation.Decision.TheVariants as decision
use Rattle.ips_run.specs.declared.ending.Ending.{Ending}
use Rattle.ips_run.specs.declared.ending.Ending.TheVariants as ending
use Rattle.ips_run.specs.Comes.{Comes, IsBackTo, IsCarriedTo, IsUnopened, IsUnready, Unopened, Unfinished, Back, NotDirectory, Unready, Carried}
use Rattle.ips_tell.specs.told.Laying.{TellsItsSteps, sorts_among}
use Rattle.ips_trial.specs.Carried.{AreFinished, number_in}
use Rattle.ips_trial.proofs.Numbers.{number_among}

module _ (effect : Effect) (decides : Decision Outcome → Type 0) (tells : Bool) (repository held left : Image) (old now : List Carrier) (Ran : List Run → Type 0) where
  -- A change that was decided on is told, and each of its steps was counted.
  record IsDone (told : Outcome) : Type 0 where
    change : Change Outcome
    decided : decides (decision.Change change)
    is : told ≡ change.told
    counted : now ≡ all_counted (map step_of change.steps.items) old

  -- What an ending says of the tallies.
  abbrev Counted : Ending Outcome → Type 0
  Counted (ending.Done told) = IsDone told
  Counted (ending.Shown told) = now ≡ old
  Counted (ending.Refused told) = now ≡ old
  Counted other = Unit {0}

  unopened : (x : Ending Outcome) → IsUnopened x → now ≡ old → Counted x
  unopened (ending.Done told) un same = absurd un
  unopened (ending.Shown told) un same = same
  unopened (ending.Refused told) un same = same
  unopened other un same = tt

  back : (x : Ending Outcome) → IsBackTo held left old now x → Counted x
  back (ending.Done told) is = absurd is
  back (ending.Shown told) is = absurd is
  back (ending.Refused told) is = absurd is
  back other is = tt

  unready : (x : Ending Outcome) → IsUnready effect decides tells repository x → now ≡ old → Counted x
  unready (ending.Done told) un same = absurd un
  unready (ending.Shown told) un same = same
  unready (ending.Refused told) un same = same
  unready other un same = tt

  carried : (c : Change Outcome) → decides (decision.Change c) → (x : Ending Outcome) → IsCarriedTo (map step_of c.steps.items) c.before.items c.after.items c.told old now Ran x → Counted x
  carried c decided (ending.Done told) is = record { change = c; decided = decided; is = is.0; counted = is.1.counted }
  carried c decided (ending.Shown told) is = absurd is
  carried c decided (ending.Refused told) is = absurd is
  carried c decided other is = tt

  counted_by : (x : Ending Outcome) → Comes effect decides tells repository held left old now Ran x → Counted x
  counted_by x (Unopened un leaves same none) = unopened x un same
  counted_by x (Unfinished unfixed there kept same none) = tt
  counted_by x (Back fixing stopped is none) = back x is
  counted_by x (NotDirectory creating shut way kept same none) = tt
  counted_by x (Unready decide un leaves same none) = unready x un same
  counted_by x (Carried c changes decide decided intact leaves is) = carried c decided x is

  -- A change that is done, and tells its steps by their sorts, has finished so many.
  pub done_finished : ((d : Decision Outcome) → decides d → TellsItsSteps d) → (told : Outcome) (counts : Counts) (sorts : Sorts) (licenses : Vec Text Global) (n : ℕ) → told ≡ Done counts sorts licenses → n ≡ number_in sorts
      → Comes effect decides tells repository held left old now Ran (ending.Done told) → AreFinished n old now
  done_finished by told counts sorts licenses n is number comes =
      let done = counted_by (ending.Done told) comes in
      let steps = map step_of done.change.steps.items in
      let (said, shown, so) = by (decision.Change done.change) done.decided in
      record { steps = steps; many = number ∙ ap number_in (same said shown (sorts_among steps) (sym is ∙ done.is ∙ so)) ∙ number_among steps; counted = done.counted }
    where
      same : (said : Counts) (shown : Vec Text Global) (s : Sorts) → Done counts sorts licenses ≡ Done said s shown → sorts ≡ s
      same said shown s h = cc

  -- Where something is shown, nothing is counted.
  pub shown_uncounted : (told : Outcome) → Comes effect decides tells repository held left old now Ran (ending.Shown told) → now ≡ old
  shown_uncounted told comes = counted_by (ending.Shown told) comes

  -- Nor is where something is refused.
  pub refused_uncounted : (told : Outcome) → Comes effect decides tells repository held left old now Ran (ending.Refused told) → now ≡ old
  refused_uncounted told comes = counted_by (ending.Refused told) comes
