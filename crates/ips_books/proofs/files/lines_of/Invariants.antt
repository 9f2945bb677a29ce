use Rattle.std.proofs.Common.{◌≡◌, ◌++◌, length}
use Rattle.ips_books.specs.Lines.{account_lines}
use Rattle.ips_books.proofs.files.lines_of.Given as goal

abbrev pub invariant-loop-front : goal.invariant-loop-front
invariant-loop-front l = l.lines.items ++ account_lines l.rest ≡ account_lines l.text

abbrev pub decreases-loop-front : goal.decreases-loop-front
decreases-loop-front l = length l.rest
