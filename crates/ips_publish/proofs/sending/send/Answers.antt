use Rattle.std.proofs.Common.{ℕ, List, subst}
use Rattle.ips_files.specs.Telling.{Tells}
use Rattle.ips_send_report.specs.Report.{send_text}
use Rattle.ips_publish.proofs.Promises.{told_so}
use Rattle.ips_publish.proofs.sending.send.Goals as goal

pub returns-clause-sent : goal.returns-clause-sent
returns-clause-sent g c =
    told_so g.S.Source.outside g.F.Source.outside g.met.F.Source.sane _ _ _ _ _ _ _ _ c.sent-outcome.result c.finish.result.outcome c.finish.ensures.outcome c.sent-outcome.ensures

pub returns-clause-told : goal.returns-clause-told
returns-clause-told g c =
    subst (λ (p : List ℕ). Tells g.O.Sink.taking (send_text p c.finish.result.outcome) c.args.out.now c.finish.new.out c.finish.result.told) c.named_publisher.ensures c.finish.ensures.told
