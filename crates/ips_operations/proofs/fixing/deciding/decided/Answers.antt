use Rattle.std.proofs.Common.{◌≡◌, rules}
use Rattle.ips_outside.specs.Image.{Image}
use Rattle.ips_state.specs.declared.state.State.{State}
use Rattle.ips_operations.specs.fixing.Deciding.{IsDecisionOf}
use Rattle.ips_operations.specs.fixing.Decides.{OldFormat}
use Rattle.ips_operations.proofs.fixing.Decided.{told_before, unread_by, words_kept}
use Rattle.ips_operations.proofs.fixing.deciding.decided.Goals as goal

pub stated-requires : goal.stated-requires
stated-requires g c = record {
  can = record {
    moment = c.requires.moment;
    kept = words_kept c.args.command.now.what c.args.command.now.history c.requires.fixes c.requires.formed.line;
    format = search rules;
    lawful = search rules;
    holds = search rules;
    shut = search rules;
  };
}

pub returns-in-Ok-clause-decided : goal.returns-in-Ok-clause-decided
returns-in-Ok-clause-decided g c = λ tells.
    let first : c.in-Ok.state.format ≡ 1 = search rules in
    record { decided = OldFormat c.in-Ok.state (c.in-Ok.ensures.found tells) first; planned = λ known repository. tt }

pub returns-in-Ok-2-clause-decided : goal.returns-in-Ok-2-clause-decided
returns-in-Ok-2-clause-decided g c =
    told_before g.F.Source.outside c.args.folder.now c.load.new.folder _ c.load.ensures.reads
    (λ (t : Image). IsDecisionOf (record { command = c.args.command.now; moment = c.args.moment }) t c.stated.result) c.stated.ensures.decided

pub returns-in-Err-clause-decided : goal.returns-in-Err-clause-decided
returns-in-Err-clause-decided g c = λ told. record {
  decided = unread_by State (record { command = c.args.command.now; moment = c.args.moment }) (g.F.Source.outside.state c.args.folder.now).held c.in-Err.fault c.unread.result c.unread.ensures.told
      (c.in-Err.ensures.fault told);
  planned = search rules;
}
