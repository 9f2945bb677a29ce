use Rattle.std.proofs.Common.{[], ap, ◌∙◌}
use Rattle.ips_books.specs.Lines.{account_lines}
use Rattle.ips_books.specs.Seen.{accounts}
use Rattle.ips_passwd.proofs.OwnerNumbers.{same_numbers}
use Rattle.ips_passwd.proofs.owners.Owners.new.Goals as goal

pub returns : goal.returns
returns c = λ owner group.
    same_numbers (record { passwd = c.in_ok-passwd.passwd; shadow = []; group = c.in_ok-group.group }) (accounts c.args.books.now) owner group (c.in_ok-passwd.ensures ∙ ap account_lines c.deref.ensures.value) (c.in_ok-group.ensures ∙ ap account_lines c.deref-2.ensures.value)
