use Rattle.std.proofs.Common.{ℕ, List, ◌++◌, codes, sym, ◌∙◌, subst}
use Rattle.ips_files.specs.Telling.{Tells}
use Rattle.ips_send_report.specs.Report.{line, send_text}
use Rattle.ips_send_report.specs.declared.outcome.SendOutcome.{SendOutcome}
use Rattle.ips_publish.proofs.telling.tell_late.Goals as goal

pub returns-in-Created-clause-late : goal.returns-in-Created-clause-late
returns-in-Created-clause-late g c =
    subst (λ (o : SendOutcome). Tells g.O.Sink.taking (send_text c.args.publisher.now o) c.args.out.now c.tell_line.new.out c.tell_line.result) (sym c.in-Created.is)
    (subst (λ (l : List ℕ). Tells g.O.Sink.taking (line (codes "created " ++ l)) c.args.out.now c.tell_line.new.out c.tell_line.result) c.as_bytes.ensures.value c.tell_line.ensures)

pub returns-in-Published-clause-late : goal.returns-in-Published-clause-late
returns-in-Published-clause-late g c =
    subst (λ (o : SendOutcome). Tells g.O.Sink.taking (send_text c.args.publisher.now o) c.args.out.now c.tell_line-in-Published.new.out c.tell_line-in-Published.result) (sym c.in-Published.is)
    (subst (λ (l : List ℕ). Tells g.O.Sink.taking (line (codes "published " ++ l)) c.args.out.now c.tell_line-in-Published.new.out c.tell_line-in-Published.result)
    (c.as_bytes-in-Published.ensures.value ∙ c.as_str.ensures) c.tell_line-in-Published.ensures)
