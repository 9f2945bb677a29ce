-- The words that the actuator of an image is run with.
use Rattle.std.specs.Prelude.{◌≡◌, ℕ, List, [], map, Option, Some, None}
use Rattle.ips_action.specs.Action.{Fields}
use Rattle.ips_actuate.specs.Actuators.{AreWords}
use Rattle.ips_conflict.specs.declared.placed.Placed.{Placed}
use Rattle.ips_meaning.specs.Taken.{AreAdmitted}
use Rattle.ips_state.specs.declared.state.State.{State}

-- The actions are the admitted ones of the state's packages.
pub record AreActions (s : State) (actions : List Fields) : Type 0 where
  pub admitted : List Placed
  pub are_admitted : AreAdmitted s.settings s.installed.items admitted
  pub are : actions ≡ map (λ (p : Placed). p.action) admitted

-- The program is run with these words before and after a change from the old state to the new one, by the admitted actions of both.
pub record AreRunsOf (program : List ℕ) (old new : State) (before after : List (List (List ℕ))) : Type 0 where
  pub was : List Fields
  pub were_actions : AreActions old was
  pub is : List Fields
  pub are_actions : AreActions new is
  pub words : AreWords program was is before after

-- The same of a program that may be set; none is run where none is.
abbrev pub RunsWhere : Option (List ℕ) → State → State → List (List (List ℕ)) → List (List (List ℕ)) → Type 0
RunsWhere (Some program) old new before after = AreRunsOf program old new before after
RunsWhere None old new before after = (before ≡ []) × (after ≡ [])

-- The actuator of the new state is run with these words before and after a change from the old state to it.
abbrev pub AreRuns : State → State → List (List (List ℕ)) → List (List (List ℕ)) → Type 0
AreRuns old new before after = RunsWhere new.actuator old new before after
