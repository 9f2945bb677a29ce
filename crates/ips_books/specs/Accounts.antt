-- What the account files say: who is a user, who is a group, and who is in it.
use Rattle.std.specs.Prelude.{ℕ, ◌^◌, Bool, true, not, ◌&&◌, ◌||◌, ◌==◌, nat_lt, if◌then◌else◌, List, [], ◌∷◌, length, Option, Some, None, option_map, is_some, unwrap_or, slice_get, codes, Result, Ok, ok_or}
use Rattle.std.specs.List.{slice_split, join_with_byte, find, position}
use Rattle.std.specs.Fmt.{decimal}
use Rattle.std.specs.Str.Parse.{digits_value}
use Rattle.ips_text.specs.Path.{is_nothing}
use Rattle.ips_text.specs.Reading.{◌>>=◌}
use Rattle.ips_action.specs.Attrs.{is_same}
use Rattle.ips_action.specs.Check.{begins_with_mark}
use Rattle.ips_books.specs.declared.books.Book.{Book}
use Rattle.ips_books.specs.declared.books.Book.TheVariants.{Passwd, Shadow, Group}
use Rattle.ips_books.specs.declared.fault.Unknown.{Unknown}
use Rattle.ips_books.specs.declared.fault.Unknown.TheVariants as unknown
use Rattle.ips_books.specs.Lines.{AccountLine}

-- ---- a line

-- The line is kept as it is, and speaks of no one: it is empty, or begins with `#`, `+` or `-`.
abbrev pub is_kept : AccountLine → Bool
is_kept line = is_nothing line.text || begins_with_mark line.text

-- The fields of a line, as they stand between its `:`.
abbrev pub fields : AccountLine → List (List ℕ)
fields line = slice_split (λ b. b == 58) line.text

-- The field at a place, counted from 0.
abbrev pub field : ℕ → AccountLine → List ℕ
field i line = unwrap_or (slice_get (fields line) i) []

-- What stands on a line of these fields.
abbrev pub fields_text : List (List ℕ) → List ℕ
fields_text fields = join_with_byte 58 fields

-- The line speaks of this name.
abbrev pub is_of : List ℕ → AccountLine → Bool
is_of name line = not (is_kept line) && is_same name (field 0 line)

-- The number that a field spells in decimal, where it is below 2 ^ 32.
abbrev pub number_in : List ℕ → Option ℕ
number_in bytes = if is_same bytes (decimal (digits_value 10 bytes)) && nat_lt (digits_value 10 bytes) (2 ^ 32) then Some (digits_value 10 bytes) else None

-- The number of a line: of a user in passwd, of a group in group.
abbrev pub number_of : AccountLine → Option ℕ
number_of line = number_in (field 2 line)

-- A list of members: the names between its `,`.
abbrev pub members_in : List ℕ → List (List ℕ)
members_in bytes = if is_nothing bytes then [] else slice_split (λ b. b == 44) bytes

-- The members of the group of a line.
abbrev pub members_of : AccountLine → List (List ℕ)
members_of line = members_in (field 3 line)

-- ---- a file

-- How many fields the lines of a file have.
abbrev pub width : Book → ℕ
width Passwd = 7
width Shadow = 9
width Group = 4

-- The line has a number, where lines of this file have one.
abbrev pub is_numbered : Book → AccountLine → Bool
is_numbered Passwd line = is_some (number_of line)
is_numbered Shadow line = true
is_numbered Group line = is_some (number_of line)

-- The line is one of this file.
abbrev pub is_sound : Book → AccountLine → Bool
is_sound book line = is_kept line || ((length (fields line) == width book) && is_numbered book line)

-- The place of the first line that isn't one of this file.
abbrev pub bad_line : Book → List AccountLine → Option ℕ
bad_line book lines = position (λ line. not (is_sound book line)) lines

-- The first line of a name.
abbrev pub line_at : List AccountLine → List ℕ → Option AccountLine
line_at lines name = find (is_of name) lines

-- The three files, as lines.
pub record Accounts : Type 0 where
  pub passwd : List AccountLine
  pub shadow : List AccountLine
  pub group : List AccountLine

-- ---- numbers of owners

-- The users that are known without a line.
abbrev pub known_users : List (List ℕ × ℕ)
known_users = (codes "root", 0) ∷ (codes "daemon", 1) ∷ (codes "bin", 2) ∷ (codes "sys", 3) ∷ (codes "adm", 4) ∷ []

-- The groups that are known without a line.
abbrev pub known_groups : List (List ℕ × ℕ)
known_groups = (codes "root", 0) ∷ (codes "other", 1) ∷ (codes "bin", 2) ∷ (codes "sys", 3) ∷ (codes "adm", 4) ∷ (codes "mail", 6) ∷ (codes "tty", 7) ∷ []

-- The number of a known name.
abbrev pub known : List (List ℕ × ℕ) → List ℕ → Option ℕ
known names name = option_map (λ (entry : List ℕ × ℕ). entry.1) (find (λ (entry : List ℕ × ℕ). is_same entry.0 name) names)

-- The number of a name: that of its first line, else that of the known name.
abbrev pub number_by : Option AccountLine → Option ℕ → Option ℕ
number_by None other = other
number_by (Some line) other = number_of line

-- The number of a user.
abbrev pub uid_at : List AccountLine → List ℕ → Option ℕ
uid_at passwd name = number_by (line_at passwd name) (known known_users name)

-- The number of a group.
abbrev pub gid_at : List AccountLine → List ℕ → Option ℕ
gid_at group name = number_by (line_at group name) (known known_groups name)

-- The numbers of an owner and of a group, or which of them is unknown, the owner first.
abbrev pub resolved : Accounts → List ℕ → List ℕ → Result (ℕ × ℕ) Unknown
resolved books owner group = do
  uid ← ok_or (uid_at books.passwd owner) unknown.Owner
  gid ← ok_or (gid_at books.group group) unknown.Group
  Ok (uid, gid)
