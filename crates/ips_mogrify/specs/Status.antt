-- The number that a run ends with.
use Rattle.std.specs.Prelude.{ℕ, ◌==◌, if◌then◌else◌}
use Rattle.ips_mogrify.specs.declared.status.MogrifyOutcome.TheVariants.{Usage, FileMissing, TooLarge, BadRule, BadPattern, BadManifest, BadResult, SourceFault, Written, OutOfMemory}
use Rattle.ips_mogrify.specs.declared.status.MogrifyOutcome.{MogrifyOutcome}
use Rattle.ips_mogrify.specs.declared.status.MogrifyStatus.{MogrifyStatus}

-- the number of an outcome of which all was told
abbrev pub told_number : MogrifyOutcome → ℕ
told_number (Usage place why) = 2
told_number (FileMissing path) = 1
told_number (TooLarge which count) = 1
told_number (BadRule line) = 1
told_number (BadPattern line) = 1
told_number (BadManifest fault) = 1
told_number (BadResult line) = 1
told_number SourceFault = 1
told_number Written = 0
told_number OutOfMemory = 99

-- the number of an outcome of which not all was told
abbrev pub untold_number : MogrifyOutcome → ℕ
untold_number o = if told_number o == 0 then 1 else told_number o

-- the number of a run
abbrev pub exit_number : MogrifyStatus → ℕ
exit_number s = if s.told then told_number s.outcome else untold_number s.outcome
