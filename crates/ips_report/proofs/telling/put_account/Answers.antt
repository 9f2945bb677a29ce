use Rattle.std.proofs.Common.{◌++◌, ◌∙◌, ap, List, ℕ}
use Rattle.std.specs.Fmt.{decimal}
use lib.Chars.{codes}
use Rattle.ips_report.specs.Report.{line}
use Rattle.ips_report.proofs.telling.put_account.Goals as goal

pub returns : goal.returns
returns c = c.put_text_number.ensures ∙ ap (λ (l : List ℕ). c.args.out.now.text ++ line (codes "bad account line " ++ l ++ codes " " ++ decimal c.args.number)) c.book_name.ensures
