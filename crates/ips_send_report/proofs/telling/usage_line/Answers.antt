use Rattle.std.proofs.Common.{◌≡◌, ℕ, List, ◌++◌, IfOk, codes, rules, ap₂, subst}
use Rattle.std.specs.Fmt.{decimal}
use Rattle.ips_send_report.specs.Report.{line}
use Rattle.ips_send_report.proofs.telling.usage_line.Goals as goal

pub returns : goal.returns
returns c =
    let front : c.as_str.result.now ≡ codes "usage: word " ++ decimal c.args.place ++ codes ": " = search rules in
    subst (λ (l : List ℕ). IfOk c.text_line.result (λ text. text ≡ line l)) (ap₂ (λ (x y : List ℕ). x ++ y) front c.why_text.ensures) c.text_line.ensures
