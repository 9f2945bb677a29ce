-- How far a request has come: whether its gate was ever open, and whether it is at its end.
use Rattle.std.specs.Prelude.{◌≡◌, Option, Some, None}
use Rattle.ips_outside.specs.Image.{Image}
use Rattle.ips_outside.specs.State.{State, IsSettled}
use Rattle.ips_outside.specs.Outside.{Outside}
use Rattle.ips_folder.specs.Calls.{Throughout}
use Rattle.ips_steps.specs.Private.{visible}
use Rattle.ips_commit.specs.Pending.{IsBare}
use Rattle.ips_commit.specs.Due.{IsSafelyOpen, DueOnceOpen}

-- at no moment the gate is safely open
abbrev pub NeverOpen : {F : Type 0} → Outside F → F → F → Type 0
NeverOpen o old new = Throughout o old new (λ s. IsSafelyOpen s → ⊥)

-- the commit point of a request: without an image that it means the gate is never safely open, and with one the image is due
-- once it is
abbrev pub DueOnceMeant : {F : Type 0} → Outside F → Image → Option Image → F → F → Type 0
DueOnceMeant o b None old new = NeverOpen o old new
DueOnceMeant o b (Some a) old new = DueOnceOpen o b a old new

-- A request has come to its end: the image that it means is seen, nothing stands at the updater's own names, and nothing is
-- touched.
pub record HasEnded (a : Option Image) (s : State) : Type 0 where
  pub seen : a ≡ Some (visible s.held)
  pub bare : IsBare s.held
  pub safe : IsSettled s
