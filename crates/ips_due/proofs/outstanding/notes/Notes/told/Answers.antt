use Rattle.std.proofs.Common.{◌∙◌, None, Option, ap}
use Rattle.std.specs.Option.{unwrap_or}
use Rattle.ips_conflict.proofs.Kept.{found_at}
use Rattle.ips_due.specs.declared.outstanding.verdict.Verdict.{Verdict}
use Rattle.ips_due.proofs.outstanding.notes.Notes.told.Goals as goal

pub returns-in-Some : goal.returns-in-Some
returns-in-Some c = ap (λ (o : Option (Option Verdict)). unwrap_or o None) (c.in-Some.ensures.value ∙ found_at c.args.path.now c.args.self.now.verdicts.entries)

pub returns-in-None : goal.returns-in-None
returns-in-None c = ap (λ (o : Option (Option Verdict)). unwrap_or o None) (c.in-None.ensures.value ∙ found_at c.args.path.now c.args.self.now.verdicts.entries)
