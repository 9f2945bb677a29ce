use Rattle.std.proofs.Common.{ap, ◌∙◌}
use Rattle.ips_state.specs.Records.{kept}
use Rattle.ips_next.proofs.Recorded.{history_lawful}
use Rattle.ips_next.proofs.line.add_line.Goals as goal

pub returns-clause-lawful : goal.returns-clause-lawful
returns-clause-lawful c =
    history_lawful c.args.moment c.args.words.now c.args.history.now.items c.keep_last.new.history.items (c.in_ok-line.line, c.in_ok-line.ensures, c.keep_last.ensures ∙ ap kept c.in_ok-push.ensures.items)
