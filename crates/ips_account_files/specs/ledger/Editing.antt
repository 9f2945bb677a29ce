-- What an edit makes of account files where some can't be files, and which of them are due.
use Rattle.std.specs.Prelude.{ℕ, Bool, cond, if◌then◌else◌, List, [], ◌∷◌, ◌++◌, codes, Result, Ok, Err}
use Rattle.ips_text.specs.Ancestry.{same_path}
use Rattle.ips_text.specs.Reading.{◌>>=◌}
use Rattle.ips_action.specs.Action.{Fields}
use Rattle.ips_books.specs.declared.books.Book.{Book}
use Rattle.ips_books.specs.declared.books.Book.TheVariants.{Passwd, Shadow, Group}
use Rattle.ips_books.specs.declared.fault.AccountFault.{AccountFault}
use Rattle.ips_books.specs.declared.fault.AccountFault.TheVariants.{BadAccountLine}
use Rattle.ips_books.specs.Accounts.{Accounts}
use Rattle.ips_books.specs.Lines.{AccountLine}
use Rattle.ips_books.specs.Reading.{Texts, read_book, texts_of}
use Rattle.ips_accounts.specs.Editing.{edited_books}
use Rattle.ips_due.specs.Due.{DueFile}
use Rattle.ips_account_files.specs.declared.ledger.blocked.Blocked.{Blocked}
use Rattle.ips_account_files.specs.declared.ledger.outdated.Modes.{Modes}

-- The lines of a file or its first bad line, which is line 0 where its path is blocked.
abbrev pub placed_book : Book → Bool → List ℕ → Result (List AccountLine) AccountFault
placed_book book blocked text = if blocked then Err (BadAccountLine book 0) else read_book book text

-- The three files or the first bad line, passwd before shadow before group.
abbrev pub placed_books : Blocked → Texts → Result Accounts AccountFault
placed_books blocked texts = do
  passwd ← placed_book Passwd blocked.passwd texts.passwd
  shadow ← placed_book Shadow blocked.shadow texts.shadow
  group ← placed_book Group blocked.group texts.group
  Ok (record { passwd = passwd; shadow = shadow; group = group })

-- The texts after an edit, where the paths of some files are blocked.
abbrev pub edited_where : Blocked → Texts → List Fields → List Fields → Result Texts AccountFault
edited_where blocked base old new = do
  books ← placed_books blocked base
  done ← edited_books books old new
  Ok (texts_of done)

-- An account file is due where its text changes, with the mode that is left there.
abbrev pub due_book : List ℕ → ℕ → List ℕ → List ℕ → List DueFile
due_book path mode before after = cond (same_path before after) [] (record { path = path; mode = mode; bytes = after } ∷ [])

-- The account files that are due.
abbrev pub due_books : Modes → Texts → Texts → List DueFile
due_books modes before after = due_book (codes "etc/passwd") modes.passwd before.passwd after.passwd ++ due_book (codes "etc/shadow") modes.shadow before.shadow after.shadow ++ due_book (codes "etc/group") modes.group before.group after.group

-- The first bad line of these texts of passwd and shadow, or else line 0 of this file.
abbrev pub first_bad : Book → List ℕ → List ℕ → Result Accounts AccountFault
first_bad book passwd shadow = do
  lines ← read_book Passwd passwd
  others ← read_book Shadow shadow
  Err (BadAccountLine book 0)
