use Rattle.ips_books.specs.Writing.{has_number}
use Rattle.ips_books.specs.Seen.{as_line}
use Rattle.ips_passwd.specs.Entries.{leads_by}
use Rattle.ips_passwd.proofs.Places.{Led}
use Rattle.ips_passwd.proofs.numbers.numbers.Given as goal

abbrev pub invariant-loop-i : goal.invariant-loop-i
invariant-loop-i l = Led (λ id text. has_number id (as_line text)) (leads_by l.numbers) l.i l.lines
