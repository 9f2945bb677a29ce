use Rattle.std.proofs.Common.{◌≡◌, Err, ap, sym, ◌∙◌, rules}
use Rattle.ips_line.specs.Seen.{seen}
use Rattle.ips_action.specs.declared.fault.ActionFault.{ActionFault}
use Rattle.ips_action.specs.Meaning.{word_fault}
use Rattle.ips_action.proofs.Lines.{keys_said, only_from, only_said, first_said}
use Rattle.ips_action.proofs.Told.{faults_read, faults_words}
use Rattle.ips_action.proofs.reading.parse_line.Goals as goal

pub action_of-requires : goal.action_of-requires
action_of-requires c = keys_said (seen c.in-Ok.words) c.args.line.now c.in-Ok.ensures.found

pub returns-in-Ok-clause-only : goal.returns-in-Ok-clause-only
returns-in-Ok-clause-only c =
    only_said (seen c.in-Ok.words) c.args.line.now c.action_of.result (only_from c.in-Ok.words c.args.line.now c.in-Ok.ensures.only) c.action_of.ensures.found c.action_of.ensures.first

pub returns-in-Ok-clause-first : goal.returns-in-Ok-clause-first
returns-in-Ok-clause-first c = first_said (seen c.in-Ok.words) c.args.line.now c.action_of.result c.in-Ok.ensures.found c.action_of.ensures.first

pub returns-in-Ok-clause-faults : goal.returns-in-Ok-clause-faults
returns-in-Ok-clause-faults c =
    faults_read (seen c.in-Ok.words) c.args.line.now c.action_of.result c.in-Ok.ensures.found (only_from c.in-Ok.words c.args.line.now c.in-Ok.ensures.only) c.action_of.ensures.found c.action_of.ensures.first

pub returns-in-Err-Bad-clause-faults : goal.returns-in-Err-Bad-clause-faults
returns-in-Err-Bad-clause-faults c = λ fault h.
    let told = rw c.in-Err-Bad.field-0-is at c.in-Err-Bad.ensures in
    let made : c.fault_of.result ≡ word_fault c.in-Err-Bad.fault = search rules in
    ap (λ (f : ActionFault). Err f) (sym (made ∙ faults_words c.args.line.now c.in-Err-Bad.fault told.exact told.fault fault h))
