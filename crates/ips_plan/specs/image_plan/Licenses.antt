-- The licenses that a request from one state of an image to another newly delivers.
use Rattle.std.specs.Prelude.{◌≡◌, ◌<◌, ℕ, Bool, false, List, [], length}
use Rattle.ips_state.specs.declared.state.State.{State}
use Rattle.ips_delivered.specs.new_licenses.New.{AreNewlyDelivered}

-- By the settings of both states, the new packages newly deliver these licenses: some are to be shown, and some must be accepted.
abbrev pub AreNewBetween : State → State → List (List ℕ) → List (List ℕ) → Type 0
AreNewBetween old new shown asked = AreNewlyDelivered old.settings old.installed.items new.settings new.installed.items shown asked

-- These are to be shown, and all that must be accepted are.
pub record AreDisplayed (old new : State) (accept : Bool) (shown : List (List ℕ)) : Type 0 where
  pub asked : List (List ℕ)
  pub delivered : AreNewBetween old new shown asked
  pub accepted : accept ≡ false → asked ≡ []

-- These must be accepted, and aren't.
pub record AreNeeded (old new : State) (accept : Bool) (asked : List (List ℕ)) : Type 0 where
  pub shown : List (List ℕ)
  pub delivered : AreNewBetween old new shown asked
  pub refused : accept ≡ false
  pub some : 0 < length asked
