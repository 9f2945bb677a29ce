use Rattle.std.proofs.Common.{◌++◌, ◌∙◌, ap, List, ℕ}
use Rattle.std.specs.Fmt.{decimal}
use lib.Chars.{codes}
use Rattle.ips_report.specs.Report.{line}
use Rattle.ips_report.proofs.telling.put_usage.Goals as goal

pub returns : goal.returns
returns c = c.put_number_text.ensures ∙ ap (λ (l : List ℕ). c.args.out.now.text ++ line (codes "usage: word " ++ decimal c.args.place ++ codes ": " ++ l)) c.why_name.ensures
