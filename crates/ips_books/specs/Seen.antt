-- What the program holds, as the definitions see it.
use Rattle.std.specs.Prelude.{ℕ, true, List}
use Rattle.ips_books.specs.declared.books.Books.{Books}
use Rattle.ips_books.specs.declared.files.Files.{Files}
use Rattle.ips_books.specs.Lines.{AccountLine, account_lines}
use Rattle.ips_books.specs.Accounts.{Accounts}
use Rattle.ips_books.specs.Reading.{Texts}

-- The texts of the files.
abbrev pub texts : Books → Texts
texts books = record { passwd = books.passwd.items; shadow = books.shadow.items; group = books.group.items }

-- The files as lines.
abbrev pub accounts : Books → Accounts
accounts books = record { passwd = account_lines books.passwd.items; shadow = account_lines books.shadow.items; group = account_lines books.group.items }

-- The files that were read.
abbrev pub files_seen : Files → Accounts
files_seen files = record { passwd = files.passwd.items; shadow = files.shadow.items; group = files.group.items }

-- A line of this text.
abbrev pub as_line : List ℕ → AccountLine
as_line text = record { text = text; ended = true }
