-- What an edit leaves, in the terms of users and groups.
use Rattle.std.specs.Prelude.{◌≡◌, ℕ, ◌<◌, Bool, true, false, not, ◌&&◌, ◌||◌, List, [], ◌∷◌, length, map, filter, Option, Some, option_map, unwrap_or, IfSome, codes}
use Rattle.std.specs.List.{list_any, AllByRecursion}
use Rattle.std.specs.Option.{option_map_or}
use Rattle.ips_action.specs.Attrs.{is_same, values_of}
use Rattle.ips_action.specs.Action.{Fields}
use Rattle.ips_books.specs.Lines.{AccountLine}
use Rattle.ips_books.specs.Accounts.{is_kept, field, members_of, line_at, Accounts}
use Rattle.ips_books.specs.Writing.{is_number_taken}
use Rattle.ips_turnover.specs.Turnover.{users_in, groups_in, user_name, group_name, number_given, is_named_in, is_gone, left_by, fresh_users, fresh_groups}
use Rattle.ips_accounts.specs.Editing.{passwd_text, shadow_text, group_text, gid_of}

-- ---- names that go

-- The name is that of an old user and of no new one.
abbrev pub is_gone_user : List Fields → List Fields → List ℕ → Bool
is_gone_user old new name = is_gone user_name (users_in old) (users_in new) name

-- The name is that of an old group and of no new one.
abbrev pub is_gone_group : List Fields → List Fields → List ℕ → Bool
is_gone_group old new name = is_gone group_name (groups_in old) (groups_in new) name

-- The user is a member of some group.
abbrev pub is_member : List AccountLine → List ℕ → Bool
is_member group name = list_any (λ line. not (is_kept line) && list_any (λ member. is_same member name) (members_of line)) group

-- ---- what new actions ask for

-- No two of the actions have one name.
abbrev pub NamedOnce : (Fields → List ℕ) → List Fields → Type 0
NamedOnce name_of [] = Unit {0}
NamedOnce name_of (a ∷ actions) = (is_named_in name_of actions (name_of a) ≡ false) × NamedOnce name_of actions

-- What stands on the first line of a name.
abbrev pub text_at : List AccountLine → List ℕ → Option (List ℕ)
text_at lines name = option_map (λ (line : AccountLine). line.text) (line_at lines name)

-- The user is a member of the group of this name, where that has a line.
abbrev pub IsMemberOf : List AccountLine → List ℕ → List ℕ → Type 0
IsMemberOf group user name = IfSome (line_at group name) (λ line. list_any (λ member. is_same member user) (members_of line) ≡ true)

-- The user stands as the action says. Its line in passwd is that of the action, with the number that it gives, where it gives one, and the number of its group, and no other name has the user's number. Its line in shadow is the one that stood, or else that of the action. It is a member of each group that it asks for and that has a line.
pub record UserStands (before after : Accounts) (a : Fields) : Type 0 where
  pub uid : ℕ
  pub gid : ℕ
  pub line : text_at after.passwd (user_name a) ≡ Some (passwd_text a uid gid)
  pub given : IfSome (number_given (codes "uid") a) (λ id. uid ≡ id)
  pub alone : is_number_taken after.passwd (user_name a) uid ≡ false
  pub group : gid_of after.group a ≡ Some gid
  pub password : text_at after.shadow (user_name a) ≡ Some (unwrap_or (text_at before.shadow (user_name a)) (shadow_text a))
  pub members : AllByRecursion (IsMemberOf after.group (user_name a)) (values_of (codes "group-list") a.attrs)

-- The group stands as the action says: its line has its name, the number that the action gives, where it gives one, and some members, and no other name has its number.
pub record GroupStands (after : Accounts) (a : Fields) : Type 0 where
  pub gid : ℕ
  pub members : List ℕ
  pub line : text_at after.group (group_name a) ≡ Some (group_text (group_name a) gid members)
  pub given : IfSome (number_given (codes "gid") a) (λ id. gid ≡ id)
  pub alone : is_number_taken after.group (group_name a) gid ≡ false

-- ---- lines that the edit isn't about

-- The line of passwd or shadow is about no gone user and none that is written.
abbrev pub is_other_user : List Fields → List Fields → AccountLine → Bool
is_other_user old new line = is_kept line || not (is_gone_user old new (field 0 line) || is_named_in user_name (fresh_users old new) (field 0 line))

-- One of the users asks for the group of this name.
abbrev pub is_asked_for : List Fields → List ℕ → Bool
is_asked_for users name = list_any (λ (a : Fields). list_any (λ group. is_same name group) (values_of (codes "group-list") a.attrs)) users

-- The line of group is about no gone group, none that is written, and none that a new user asks for.
abbrev pub is_other_group : List Fields → List Fields → AccountLine → Bool
is_other_group old new line =
    is_kept line || not (is_gone_group old new (field 0 line) || (is_named_in group_name (fresh_groups old new) (field 0 line) || is_asked_for (fresh_users old new) (field 0 line)))

-- What stands on the lines that pass, in order.
abbrev pub bytes_of : (AccountLine → Bool) → List AccountLine → List (List ℕ)
bytes_of passes lines = map (λ (line : AccountLine). line.text) (filter passes lines)

-- Every other line stands as before, in the same order, but that lines of group are without gone members.
pub record OthersStay (old new : List Fields) (before after : Accounts) : Type 0 where
  pub passwd : bytes_of (is_other_user old new) after.passwd ≡ bytes_of (is_other_user old new) before.passwd
  pub shadow : bytes_of (is_other_user old new) after.shadow ≡ bytes_of (is_other_user old new) before.shadow
  pub group : bytes_of (is_other_group old new) after.group ≡ bytes_of (is_other_group old new) (map (left_by (is_gone_user old new)) before.group)

-- Every other line of passwd and shadow stands as before, in the same order.
pub record UsersStay (old new : List Fields) (before after : Accounts) : Type 0 where
  pub passwd : bytes_of (is_other_user old new) after.passwd ≡ bytes_of (is_other_user old new) before.passwd
  pub shadow : bytes_of (is_other_user old new) after.shadow ≡ bytes_of (is_other_user old new) before.shadow

-- ---- members that stay

-- The group of this name has a line, and the user is a member of it.
abbrev pub is_member_in : List AccountLine → List ℕ → List ℕ → Bool
is_member_in group user name = option_map_or (λ line. list_any (λ member. is_same member user) (members_of line)) (line_at group name) false

-- Who is a member of a group stays one, unless the user or the group goes.
abbrev pub MembersStay : List Fields → List Fields → Accounts → Accounts → Type 0
MembersStay old new before after = (user name : List ℕ) → 0 < length user → is_gone_user old new user ≡ false → is_gone_group old new name ≡ false → is_member_in before.group user name ≡ true → is_member_in after.group user name ≡ true
