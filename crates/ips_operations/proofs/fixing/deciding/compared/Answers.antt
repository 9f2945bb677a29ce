use Rattle.std.proofs.Common.{sym, ◌∙◌}
use Rattle.ips_outside.specs.Image.{Image}
use Rattle.ips_operations.specs.fixing.Deciding.{IsDecisionOf}
use Rattle.ips_operations.specs.fixing.Decides.{Sound}
use Rattle.ips_operations.proofs.fixing.Decided.{none_found, told_before, told_by}
use Rattle.ips_operations.proofs.fixing.deciding.compared.Goals as goal

pub returns-in-Ok-clause-decided : goal.returns-in-Ok-clause-decided
returns-in-Ok-clause-decided g c = λ tells. record {
  decided = Sound (told_by _ _ _ _ c.requires.can tells) (record {
    want = c.args.want.now;
    means = c.requires.meant;
    found = none_found c.in-Ok.found.items _ (c.in-Ok.ensures.found tells) c.in-Ok.found.len (sym c.is_empty.ensures ∙ c.if-is_empty.true) c.in-Ok.found.ok.0;
  });
  planned = λ known repository. tt;
}

pub returns-in-Ok-2-clause-decided : goal.returns-in-Ok-2-clause-decided
returns-in-Ok-2-clause-decided g c =
    told_before g.F.Source.outside c.args.folder.now c.findings.new.folder _ c.findings.ensures.reads
    (λ (t : Image). IsDecisionOf (record { command = c.args.command.now; moment = c.args.moment }) t c.damaged.result) c.damaged.ensures.decided
