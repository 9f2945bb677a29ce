-- Which endings exclude each other.
use Rattle.std.specs.Prelude.{◌≡◌, ℕ, Bool, true, false, slice_get, Some}
use Rattle.ips_digest.specs.declared.name.PayloadName.{PayloadName}
use Rattle.ips_journal.specs.declared.staged.Staged.TheVariants.{Payload}
use Rattle.ips_run.specs.declared.operation.Change.{Change}
use Rattle.ips_run.specs.declared.operation.Decision.{Decision}
use Rattle.ips_run.specs.declared.operation.Decision.TheVariants as decision
use Rattle.ips_run.specs.declared.ending.Ending.{Ending}
use Rattle.ips_run.specs.declared.ending.Ending.TheVariants as ending

-- the ways in which a run ends
pub data Way : Type 0 where
  AtGate : Way
  Recovering : Way
  InTheWay : Way
  Showing : Way
  Refusing : Way
  Needless : Way
  Damaged : Way
  Carrying : Way
  Faulty : Way

-- In which way a run ends: it refuses at an open gate; it recovers, or finds a bad journal; something stands in the way of the directories
-- of the records; something is shown; the operation refuses; nothing is to do; a payload has a fault; a change is carried out, whether or
-- not each actuator ran to its end; or a call failed, or memory ran out.
abbrev pub way_of : {T : Type 0} → Ending T → Way
way_of ending.Unfinished = AtGate
way_of (ending.BadJournal line) = Recovering
way_of (ending.Recovered forward) = Recovering
way_of (ending.NotDirectory path) = InTheWay
way_of (ending.Shown told) = Showing
way_of (ending.Refused told) = Refusing
way_of ending.NothingToDo = Needless
way_of (ending.BadPayload name fault) = Damaged
way_of (ending.Done told) = Carrying
way_of (ending.ActuatorFailed after words status) = Carrying
way_of (ending.SpawnFault after) = Faulty
way_of ending.SourceFault = Faulty
way_of (ending.FolderFault unfinished) = Faulty
way_of ending.OutOfMemory = Faulty

-- a call failed, or memory ran out: that may come at any time, and the counts of faults tell whether it did
abbrev pub is_faulty : {T : Type 0} → Ending T → Bool
is_faulty (ending.SpawnFault after) = true
is_faulty ending.SourceFault = true
is_faulty (ending.FolderFault unfinished) = true
is_faulty ending.OutOfMemory = true
is_faulty other = false

-- The second change puts each payload that the first puts, from the same publisher and at the same place of its list.
pub record PutsPayloadsOf {T : Type 0} (c d : Change T) : Type 0 where
  pub publisher : d.publisher ≡ c.publisher
  pub payloads : (n : ℕ) (name : PayloadName) → slice_get c.staged.items n ≡ Some (Payload name) → slice_get d.staged.items n ≡ Some (Payload name)

-- two decisions are of one sort, and two changes put the same payloads
abbrev pub AreAlike : {T : Type 0} → Decision T → Decision T → Type 0
AreAlike (decision.Change c) (decision.Change d) = PutsPayloadsOf c d × PutsPayloadsOf d c
AreAlike decision.Nothing decision.Nothing = Unit {0}
AreAlike (decision.Shown a) (decision.Shown b) = Unit {0}
AreAlike (decision.Refused a) (decision.Refused b) = Unit {0}
AreAlike a b = ⊥

-- all that is decided is alike
abbrev pub DecidesAlike : {T : Type 0} → (Decision T → Type 0) → Type 0
DecidesAlike decides = (a b : Decision _) → decides a → decides b → AreAlike a b
