use Rattle.std.proofs.Common.{◌≡◌, ℕ, List, ◌++◌, codes, rules, subst}
use Rattle.std.specs.Fmt.{decimal}
use Rattle.ips_files.specs.Telling.{Tells}
use Rattle.ips_send_report.specs.Report.{line}
use Rattle.ips_publish.proofs.telling.tell_bad_journal.Goals as goal

pub returns : goal.returns
returns g c =
    let number : c.as_bytes.result.now ≡ decimal c.args.number = search rules in
    subst (λ (l : List ℕ). Tells g.O.Sink.taking (line (codes "bad journal line " ++ l)) c.args.out.now c.tell_line.new.out c.tell_line.result) number c.tell_line.ensures
