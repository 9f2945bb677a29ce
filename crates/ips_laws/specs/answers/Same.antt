-- When two outcomes say the same, and which are fixed by what a run is given.
use Rattle.std.specs.Prelude.{◌≡◌, ℕ, List, ◌++◌, codes}
use Rattle.ips_report.specs.Report.{line, outcome_number, report_text, tried_texts}
use Rattle.ips_report.specs.declared.outcome.Outcome.{Outcome}
use Rattle.ips_report.specs.declared.outcome.Outcome.TheVariants.{ActuatorFailed, FolderFault, NoSolution, OutOfMemory, SearchSpent, SourceFault, SpawnFault}

-- The report of an outcome without the refutation of 'no solution', of which each that a checker accepts will do.
abbrev pub said_text : Outcome → List ℕ
said_text (NoSolution stems refutation) = line (codes "no solution") ++ tried_texts 0 stems.items
said_text o = report_text o

-- Two outcomes say the same: the program ends with one number, and prints one report but for a refutation.
pub record SayTheSame (a b : Outcome) : Type 0 where
  pub number : outcome_number a ≡ outcome_number b
  pub text : said_text a ≡ said_text b

-- What a run is given leaves one such outcome. So it isn't where a call failed, memory ran out, a program of the actuator failed or the search spent its limit.
abbrev pub IsFixed : Outcome → Type 0
IsFixed SourceFault = ⊥
IsFixed (FolderFault unfinished) = ⊥
IsFixed (SpawnFault after) = ⊥
IsFixed (ActuatorFailed after words status) = ⊥
IsFixed OutOfMemory = ⊥
IsFixed (SearchSpent limit) = ⊥
IsFixed o = Unit {0}
