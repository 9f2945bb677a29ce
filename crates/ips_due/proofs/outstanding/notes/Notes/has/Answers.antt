use Rattle.std.proofs.Common.{◌∙◌, ℕ, List, Option, ap}
use Rattle.std.specs.Prelude.{is_some}
use Rattle.ips_conflict.proofs.Kept.{found_at}
use Rattle.ips_due.specs.declared.outstanding.verdict.Verdict.{Verdict}
use Rattle.ips_due.specs.outstanding.Noted.{noted}
use Rattle.ips_due.proofs.outstanding.notes.Notes.has.Goals as goal

pub returns : goal.returns
returns c = c.contains_key.ensures ∙ ap (λ (o : Option (Option Verdict)). is_some o) (found_at c.bytes.result.now c.args.self.now.verdicts.entries) ∙ ap (λ (q : List ℕ). is_some (noted c.args.self.now q)) c.bytes.ensures.value
