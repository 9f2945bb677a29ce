use Rattle.std.proofs.Common.{◌++◌, ◌∙◌, ap, List, ℕ}
use lib.Chars.{codes}
use Rattle.ips_report.specs.Report.{line}
use Rattle.ips_report.proofs.telling.put_spawn.Goals as goal

pub returns-clause-text : goal.returns-clause-text
returns-clause-text c = c.put_line.ensures.text ∙ ap (λ (l : List ℕ). c.args.out.now.text ++ line (codes "spawn fault " ++ l)) c.when_name.ensures
