use Rattle.ips_books.specs.Accounts.{is_of}
use Rattle.ips_books.specs.Seen.{as_line}
use Rattle.ips_passwd.specs.Entries.{leads_up_to}
use Rattle.ips_passwd.proofs.Places.{Led}
use Rattle.ips_passwd.proofs.names.places.Given as goal

abbrev pub invariant-loop-i : goal.invariant-loop-i
invariant-loop-i l = Led (λ name text. is_of name (as_line text)) (leads_up_to l.places) l.i l.lines
