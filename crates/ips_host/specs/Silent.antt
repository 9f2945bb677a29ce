-- What the host tells to proofs: how often it failed, and nothing of what it holds or took.
use Rattle.std.specs.Prelude.{◌≡◌, ℕ, false, [], refl}
use Rattle.std.proofs.lemmas.Bool.{false≢true}
use Rattle.ips_outside.specs.Image.{nothing}
use Rattle.ips_outside.specs.State.{State, untouched}
use Rattle.ips_outside.specs.Outside.{Outside, IsOutside}
use Rattle.ips_outside.specs.Taking.{Taking}
use Rattle.ips_outside.specs.Running.{Running}

-- A state that stands for the one that isn't told. No clause speaks of it, since the host never tells.
abbrev pub untold : State
untold = untouched nothing

-- A source or folder that tells its count of faults, and of calls that may change something, and nothing else.
abbrev pub silent : {F : Type 0} → (F → ℕ) → (F → ℕ) → Outside F
silent faults changes = record {
  tells = λ f. false;
  state = λ f. untold;
  clock = λ f. 0;
  states = λ f t s. s ≡ untold;
  faults = faults;
  changes = changes;
}

-- A sink that tells its count of faults alone.
abbrev pub silent_sink : {S : Type 0} → (S → ℕ) → Taking S
silent_sink faults = record { tells = λ s. false; taken = λ s. []; faults = faults }

-- A spawner that tells its count of faults alone.
abbrev pub silent_spawner : {S : Type 0} → (S → ℕ) → Running S
silent_spawner faults = record { tells = λ s. false; ran = λ s. []; faults = faults }

-- What holds of each source and folder holds of these.
pub silent_is_sane : {F : Type 0} (faults changes : F → ℕ) → IsOutside (silent faults changes)
silent_is_sane faults changes = record {
  formed = λ f told. absurd (false≢true told);
  only_now = λ f s was. was;
  counts_now = λ f t le. refl;
}
