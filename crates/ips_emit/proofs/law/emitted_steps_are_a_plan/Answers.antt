use Rattle.std.proofs.Common.{◌∙◌, ap, length, sym}
use Rattle.std.proofs.lemmas.List.{length-map}
use Rattle.ips_journal.specs.Reading.{puts_in}
use Rattle.ips_emit.specs.Emitted.{staged_bytes}
use Rattle.ips_emit.proofs.Adding.{contents_by, puts_counted, steps_by}
use Rattle.ips_emit.proofs.law.emitted_steps_are_a_plan.Goals as goal

pub returns : goal.returns
returns c = record {
  steps = λ change paths bytes t provenances e is. is.steps ∙ steps_by change 0 paths;
  staged = λ change paths bytes t provenances e is. is.staged ∙ contents_by change paths;
  counted = λ bytes t turns provenances e is. ap puts_in is.steps ∙ puts_counted 0 turns ∙ sym (ap length is.staged) ∙ length-map e.staged.items (staged_bytes bytes t);
}
