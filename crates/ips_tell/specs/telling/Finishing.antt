-- What is told of an outcome at the end of a run.
use Rattle.std.specs.Prelude.{◌≡◌, ◌⊎◌, ◌++◌, ℕ, Bool, List}
use Rattle.ips_outside.specs.Taking.{Taking}
use Rattle.ips_report.specs.declared.outcome.Outcome.{Outcome}
use Rattle.ips_report.specs.declared.outcome.Outcome.TheVariants as outcome
use Rattle.ips_tell.specs.told.Told.{Manner, Wording, Showing, Refusing, Needless, manner_of}
use Rattle.ips_files.specs.Telling.{Tells}

-- Whatever was told before, this piece is told behind it.
abbrev pub Adds : {O : Type 0} → Taking O → List ℕ → O → Bool → O → Bool → Type 0
Adds t piece old was new is = (o : _) (front : List ℕ) → Tells t front o old was → Tells t (front ++ piece) o new is

-- In this manner a run ends before anything is changed and with no call that failed, so that want of memory for its report may still be told in its place.
abbrev pub IsEarly : Manner → Type 0
IsEarly Wording = Unit {0}
IsEarly Showing = Unit {0}
IsEarly Refusing = Unit {0}
IsEarly Needless = Unit {0}
IsEarly other = ⊥

-- The outcome is told, or, where memory for the report of an early one is wanted, that.
abbrev pub IsToldFor : Outcome → Outcome → Type 0
IsToldFor o told = (told ≡ o) ⊎ (IsEarly (manner_of o) × (told ≡ outcome.OutOfMemory))
