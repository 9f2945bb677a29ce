-- What is told of a repository that is made, installed and verified in memory.
use Rattle.std.specs.Prelude.{◌≡◌, ℕ, ◌+◌, ◌*◌, List, ◌++◌, codes}
use Rattle.std.specs.Fmt.{decimal}
use Rattle.ips_records.specs.Lines.{ended}
use Rattle.ips_kinds.specs.Tallies.{Carrier}
use Rattle.ips_report.specs.declared.outcome.Outcome.{Outcome}
use Rattle.ips_report.specs.declared.outcome.Outcome.TheVariants as outcome
use Rattle.ips_trial.specs.Counted.{HaveFinished}

-- The summary: how many packages there are beside `all`, and how many were installed, with how many steps, and how many findings there are.
abbrev pub summary_text : ℕ → ℕ → ℕ → ℕ → List ℕ
summary_text number packages steps findings = ended (codes "gen " ++ decimal number ++ codes ": packages " ++ decimal packages ++ codes ", steps " ++ decimal steps ++ codes ", findings " ++ decimal findings)

-- So many packages and `all` are made, installed and verified: the summary is that of one package more, with three steps for each and four more, and no finding; and the
-- kinds have finished these steps and the ten of the image that was made for them. Or memory was wanted.
pub data IsTried (n : ℕ) (old new : List Carrier) : Outcome → Type 0 where
  Summed : HaveFinished (3 * n + 14) old new → IsTried n old new (outcome.Shown (summary_text n (n + 1) (3 * n + 4) 0))
  Starved : IsTried n old new outcome.OutOfMemory
