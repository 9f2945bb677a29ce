use Rattle.std.proofs.Common.{◌≡◌, take}
use Rattle.ips_books.specs.Lines.{account_text}
use Rattle.ips_books.proofs.files.text_of.Given as goal

abbrev pub invariant-loop-line : goal.invariant-loop-line
invariant-loop-line l = l.text.items ≡ account_text (take l.line-index l.lines)
