-- What the program holds, as the definitions see it.
use Rattle.std.specs.Prelude.{List, Result, Ok}
use Rattle.ips_text.specs.Reading.{◌>>=◌}
use Rattle.ips_action.specs.Action.{Fields}
use Rattle.ips_books.specs.declared.fault.AccountFault.{AccountFault}
use Rattle.ips_books.specs.Accounts.{Accounts}
use Rattle.ips_books.specs.Reading.{Texts, read_books}
use Rattle.ips_turnover.specs.Turnover.{after_gone, fresh_groups, fresh_users}
use Rattle.ips_accounts.specs.Editing.{each, with_group, with_user, if_known}
use Rattle.ips_accounts.specs.declared.tables.Tables.{Tables}

-- The lines of the files.
abbrev pub tables_seen : Tables → Accounts
tables_seen tables = record { passwd = tables.passwd; shadow = tables.shadow; group = tables.group }

-- The lines of these texts without gone names.
abbrev pub cleared : Texts → List Fields → List Fields → Result Accounts AccountFault
cleared base old new = do
  books ← read_books base
  Ok (after_gone old new books)

-- What the new groups and users make of files without gone names.
abbrev pub edited_from : Accounts → List Fields → List Fields → Result Accounts AccountFault
edited_from books old new = do
  grouped ← each with_group (fresh_groups old new) books
  done ← each with_user (fresh_users old new) grouped
  if_known (fresh_users old new) done
