-- The account files as lines, or what is wrong with them.
use Rattle.std.specs.Prelude.{ℕ, ◌+◌, if◌then◌else◌, List, is_some, unwrap_or, Result, Ok, Err}
use Rattle.ips_text.specs.Reading.{◌>>=◌}
use Rattle.ips_books.specs.declared.books.Book.{Book}
use Rattle.ips_books.specs.declared.books.Book.TheVariants.{Passwd, Shadow, Group}
use Rattle.ips_books.specs.declared.fault.AccountFault.{AccountFault}
use Rattle.ips_books.specs.declared.fault.AccountFault.TheVariants.{BadAccountLine}
use Rattle.ips_books.specs.Lines.{AccountLine, account_lines, account_text}
use Rattle.ips_books.specs.Accounts.{bad_line, Accounts}

-- The lines of a file, or the first that isn't one of it.
abbrev pub read_book : Book → List ℕ → Result (List AccountLine) AccountFault
read_book book text =
    let found = bad_line book (account_lines text) in
    if is_some found then Err (BadAccountLine book (unwrap_or found 0 + 1)) else Ok (account_lines text)

-- The texts of the files.
pub record Texts : Type 0 where
  pub passwd : List ℕ
  pub shadow : List ℕ
  pub group : List ℕ

-- The three files, or the first bad line, passwd before shadow before group.
abbrev pub read_books : Texts → Result Accounts AccountFault
read_books texts = do
  passwd ← read_book Passwd texts.passwd
  shadow ← read_book Shadow texts.shadow
  group ← read_book Group texts.group
  Ok (record { passwd = passwd; shadow = shadow; group = group })

-- The texts of three files.
abbrev pub texts_of : Accounts → Texts
texts_of books = record { passwd = account_text books.passwd; shadow = account_text books.shadow; group = account_text books.group }
