-- What an edit does to the account files, step by step.
use Rattle.std.specs.Prelude.{ℕ, zero, suc, ◌+◌, ◌-◌, ◌^◌, min, Bool, if◌then◌else◌, List, [], ◌∷◌, ◌++◌, length, replicate, Option, option_map, is_some, unwrap_or, codes, Result, Ok, Err}
use Rattle.std.specs.List.{list_any}
use Rattle.std.specs.Option.{option_or}
use Rattle.std.specs.Fmt.{decimal}
use Rattle.ips_text.specs.Reading.{◌>>=◌}
use Rattle.ips_action.specs.Attrs.{is_same, values_of}
use Rattle.ips_action.specs.Action.{Fields}
use Rattle.ips_conflict.specs.Key.{value_of}
use Rattle.ips_books.specs.declared.fault.AccountFault.{AccountFault}
use Rattle.ips_books.specs.declared.fault.AccountFault.TheVariants.{IdTaken, UnknownGroup}
use Rattle.ips_books.specs.Lines.{AccountLine}
use Rattle.ips_books.specs.Accounts.{is_of, field, fields_text, number_of, members_of, line_at, gid_at, Accounts}
use Rattle.ips_books.specs.Reading.{Texts, read_books, texts_of}
use Rattle.ips_books.specs.Writing.{at_first, added, with_line, with_members, has_number, is_number_taken}
use Rattle.ips_turnover.specs.Turnover.{given_or, number_given, user_name, group_name, fresh_groups, fresh_users, after_gone}

-- ---- numbers

-- The number is that of a line.
abbrev pub is_used : List AccountLine → ℕ → Bool
is_used lines id = list_any (has_number id) lines

-- The least number from one on that no line has, sought among so many.
unfoldable pub free_from : List AccountLine → ℕ → ℕ → ℕ
free_from lines id zero = id
free_from lines id (suc more) = if is_used lines id then free_from lines (id + 1) more else id

-- The least free number from 1 on (of one more than there are lines, one is free), at most the last number of all.
abbrev pub free_number : List AccountLine → ℕ
free_number lines = min (free_from lines 1 (length lines)) (2 ^ 32 - 1)

-- The number of the name's line, where it stands.
abbrev pub standing_number : List AccountLine → List ℕ → Option ℕ
standing_number lines name = option_map (λ line. unwrap_or (number_of line) 0) (line_at lines name)

-- The number that an action wants: the one it gives, else that of the standing line, else the free one.
abbrev pub wanted_number : List AccountLine → List ℕ → Option ℕ → ℕ
wanted_number lines name id = unwrap_or (option_or id (standing_number lines name)) (free_number lines)

-- The number that an action wants, unless another name has it.
abbrev pub number_for : List AccountLine → List ℕ → Option ℕ → Result ℕ AccountFault
number_for lines name id =
    let wanted = wanted_number lines name id in
    if is_number_taken lines name wanted then Err (IdTaken wanted) else Ok wanted

-- ---- groups and users

-- The members of the group as it stands, as they are written.
abbrev pub standing_members : List AccountLine → List ℕ → List ℕ
standing_members lines name = unwrap_or (option_map (field 3) (line_at lines name)) []

-- The line of a group: its name, its number and its members.
abbrev pub group_text : List ℕ → ℕ → List ℕ → List ℕ
group_text name gid members = fields_text (name ∷ [] ∷ decimal gid ∷ members ∷ [])

-- The files with the group: its line has its number, and the members that stood.
abbrev pub with_group : Fields → Accounts → Result Accounts AccountFault
with_group a books = do
  gid ← number_for books.group (group_name a) (number_given (codes "gid") a)
  Ok (record books { group = with_line (group_name a) (group_text (group_name a) gid (standing_members books.group (group_name a))) books.group })

-- The line of a user in passwd.
abbrev pub passwd_text : Fields → ℕ → ℕ → List ℕ
passwd_text a uid gid = fields_text (user_name a ∷ codes "x" ∷ decimal uid ∷ decimal gid ∷ given_or (codes "& User") (codes "gcos-field") a ∷ given_or (codes "/") (codes "home-dir") a ∷ given_or [] (codes "login-shell") a ∷ [])

-- The line of a user in shadow: the password, and seven empty fields.
abbrev pub shadow_text : Fields → List ℕ
shadow_text a = fields_text (user_name a ∷ given_or (codes "*LK*") (codes "password") a ∷ replicate 7 [])

-- The lines of shadow with one for the user: a line that stands is left as it is.
abbrev pub with_shadow : Fields → List AccountLine → List AccountLine
with_shadow a lines = if list_any (is_of (user_name a)) lines then lines else added (shadow_text a) lines

-- The line of a group with the user as its last member, where it isn't one.
abbrev pub joined_by : List ℕ → AccountLine → AccountLine
joined_by user line = if list_any (λ member. is_same member user) (members_of line) then line else with_members (members_of line ++ user ∷ []) line

-- The lines of groups with the user in each of these groups that has a line.
abbrev pub in_groups : List ℕ → List (List ℕ) → List AccountLine → List AccountLine
in_groups user [] lines = lines
in_groups user (group ∷ groups) lines = in_groups user groups (at_first (is_of group) (joined_by user) lines)

-- The number of the group that the user names.
abbrev pub gid_of : List AccountLine → Fields → Option ℕ
gid_of group a = gid_at group (value_of (codes "group") a)

-- The files with the user. (A group without number is told when all numbers of users are.)
abbrev pub with_user : Fields → Accounts → Result Accounts AccountFault
with_user a books = do
  uid ← number_for books.passwd (user_name a) (number_given (codes "uid") a)
  Ok (record {
    passwd = with_line (user_name a) (passwd_text a uid (unwrap_or (gid_of books.group a) 0)) books.passwd;
    shadow = with_shadow a books.shadow;
    group = in_groups (user_name a) (values_of (codes "group-list") a.attrs) books.group;
  })

-- The files after each action in turn, or the first fault.
abbrev pub each : (Fields → Accounts → Result Accounts AccountFault) → List Fields → Accounts → Result Accounts AccountFault
each step [] books = Ok books
each step (a ∷ actions) books = step a books >>= each step actions

-- ---- the whole

-- The files, unless the group of a user has no number: the first such user is told.
abbrev pub if_known : List Fields → Accounts → Result Accounts AccountFault
if_known [] books = Ok books
if_known (a ∷ users) books = if is_some (gid_of books.group a) then if_known users books else Err (UnknownGroup (value_of (codes "group") a))

-- The files as lines after an edit: gone names go, then come the new groups, then the new users.
abbrev pub edited_books : Accounts → List Fields → List Fields → Result Accounts AccountFault
edited_books books old new = do
  grouped ← each with_group (fresh_groups old new) (after_gone old new books)
  done ← each with_user (fresh_users old new) grouped
  if_known (fresh_users old new) done

-- The texts after an edit.
abbrev pub edited : Texts → List Fields → List Fields → Result Texts AccountFault
edited base old new = do
  books ← read_books base
  done ← edited_books books old new
  Ok (texts_of done)
