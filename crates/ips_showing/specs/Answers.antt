-- What is answered of texts and names.
use Rattle.std.specs.Prelude.{Result, Ok, Err}
use Rattle.std.specs.declared.alloc.AllocError.{AllocError}
use Rattle.ips_text.specs.declared.text.Text.{Text}
use Rattle.ips_text.specs.declared.refusal.Or.TheVariants.{OutOfMemory}
use Rattle.ips_tell.specs.refusals.Told.{Answer}
use Rattle.ips_shown.specs.declared.naming.NamingFault.{NamingFault}
use Rattle.ips_shown.specs.declared.naming.NamingFault.TheVariants as naming
use Rattle.ips_report.specs.declared.outcome.Outcome.{Outcome}
use Rattle.ips_report.specs.declared.outcome.Outcome.TheVariants as outcome
use Rattle.ips_run.specs.declared.operation.Decision.{Decision}
use Rattle.ips_run.specs.declared.operation.Decision.TheVariants.{Shown, Refused}

-- The text is shown, unless memory ran out.
abbrev pub text_told : Result Text AllocError → Answer
text_told (Ok text) = Ok (Shown (outcome.Shown text))
text_told (Err none) = Err OutOfMemory

-- Why a pattern names no package, as it is refused.
abbrev pub unnamed_told : NamingFault → Decision Outcome
unnamed_told (naming.NoMatch pattern) = Refused (outcome.NoMatch pattern)
unnamed_told (naming.Ambiguous pattern stems) = Refused (outcome.Ambiguous pattern stems)
