use Rattle.std.proofs.Common.{ap, ◌∙◌, rules}
use Rattle.std.specs.Prelude.{ℕ, List}
use Rattle.ips_meaning.specs.declared.entry.Entry.{Entry}
use Rattle.ips_tell.specs.refusals.Told.{unmeant_told}
use Rattle.ips_operations.proofs.fixing.Decided.{told_by, unmeant_by}
use Rattle.ips_operations.proofs.fixing.deciding.stated.Goals as goal

pub returns-in-Err-Bad-clause-decided : goal.returns-in-Err-Bad-clause-decided
returns-in-Err-Bad-clause-decided g c = λ tells. record {
  decided = unmeant_by (List (List ℕ × Entry)) (record { command = c.args.command.now; moment = c.args.moment }) (g.F.Source.outside.state c.args.folder.now).held (told_by _ _ _ _ c.requires.can tells) _
      c.in-Err-Bad.fault c.unmeant.result c.in-Err-Bad.field-0-is c.in-Err-Bad.ensures.refused (c.unmeant.ensures.told ∙ ap unmeant_told c.in-Err-Bad.fault-is);
  planned = search rules;
}
