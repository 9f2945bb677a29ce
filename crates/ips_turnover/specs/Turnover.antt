-- Which users and groups go as packages change, and which are new.
use Rattle.std.specs.Prelude.{ℕ, Bool, not, ◌&&◌, ◌||◌, if◌then◌else◌, List, [], ◌∷◌, map, filter, Option, unwrap_or, codes}
use Rattle.std.specs.List.{list_any}
use Rattle.std.specs.Option.{option_and_then}
use Rattle.std.specs.declared.cmp.Ordering.{Ordering}
use Rattle.std.specs.Ordering.{nat_cmp, is_lt, on, then_cmp}
use Rattle.std.specs.Cmp.Lexicographic.{slice_cmp}
use Rattle.ips_action.specs.Kind.{kind_name}
use Rattle.ips_action.specs.Attrs.{is_same}
use Rattle.ips_action.specs.Action.{Fields, line_text}
use Rattle.ips_conflict.specs.Key.{first_value, value_of}
use Rattle.ips_books.specs.Lines.{AccountLine}
use Rattle.ips_books.specs.Accounts.{is_kept, field, number_in, members_of, Accounts}
use Rattle.ips_books.specs.Writing.{with_members}

-- ---- what actions say

-- The value of an attribute, or what stands for it where it isn't given.
abbrev pub given_or : List ℕ → List ℕ → Fields → List ℕ
given_or other key a = unwrap_or (first_value key a) other

-- The number that an attribute gives.
abbrev pub number_given : List ℕ → Fields → Option ℕ
number_given key a = option_and_then number_in (first_value key a)

-- The actions are of this kind.
abbrev pub is_a : List ℕ → Fields → Bool
is_a kind a = is_same (kind_name a.kind) kind

-- The users among actions.
abbrev pub users_in : List Fields → List Fields
users_in actions = filter (is_a (codes "user")) actions

-- The groups among actions.
abbrev pub groups_in : List Fields → List Fields
groups_in actions = filter (is_a (codes "group")) actions

-- The name of a user.
abbrev pub user_name : Fields → List ℕ
user_name a = value_of (codes "username") a

-- The name of a group.
abbrev pub group_name : Fields → List ℕ
group_name a = value_of (codes "groupname") a

-- The name is that of one of the actions.
abbrev pub is_named_in : (Fields → List ℕ) → List Fields → List ℕ → Bool
is_named_in name_of actions name = list_any (λ a. is_same name (name_of a)) actions

-- The name is gone: an old action has it, and no new one.
abbrev pub is_gone : (Fields → List ℕ) → List Fields → List Fields → List ℕ → Bool
is_gone name_of old new name = is_named_in name_of old name && not (is_named_in name_of new name)

-- The line of the action differs from every old one.
abbrev pub is_fresh : List Fields → Fields → Bool
is_fresh old a = not (list_any (λ o. is_same (line_text a) (line_text o)) old)

-- ---- the order of actions

-- The actions, with one more at its place in order, behind those that tie with it.
abbrev pub by_place : (Fields → Fields → Ordering) → Fields → List Fields → List Fields
by_place cmp a [] = a ∷ []
by_place cmp a (b ∷ actions) = if is_lt (cmp a b) then a ∷ b ∷ actions else b ∷ by_place cmp a actions

-- The actions in order, with these more.
abbrev pub ordered_with : (Fields → Fields → Ordering) → List Fields → List Fields → List Fields
ordered_with cmp [] sorted = sorted
ordered_with cmp (a ∷ actions) sorted = ordered_with cmp actions (by_place cmp a sorted)

-- The actions in order.
abbrev pub ordered : (Fields → Fields → Ordering) → List Fields → List Fields
ordered cmp actions = ordered_with cmp actions []

-- How two actions stand to one another: by the bytes of the name, then of the line.
abbrev pub name_cmp : (Fields → List ℕ) → Fields → Fields → Ordering
name_cmp name_of = then_cmp (on name_of (slice_cmp nat_cmp)) (on line_text (slice_cmp nat_cmp))

-- The new groups whose line differs from every old one, by name.
abbrev pub fresh_groups : List Fields → List Fields → List Fields
fresh_groups old new = ordered (name_cmp group_name) (filter (is_fresh (groups_in old)) (groups_in new))

-- The new users whose line differs from every old one, by name.
abbrev pub fresh_users : List Fields → List Fields → List Fields
fresh_users old new = ordered (name_cmp user_name) (filter (is_fresh (users_in old)) (users_in new))

-- ---- gone names

-- The line is kept as it is, or its name isn't gone.
abbrev pub stays : (List ℕ → Bool) → AccountLine → Bool
stays gone line = is_kept line || not (gone (field 0 line))

-- The lines without those of gone names.
abbrev pub without : (List ℕ → Bool) → List AccountLine → List AccountLine
without gone lines = filter (stays gone) lines

-- The line of a group without the members that are gone.
abbrev pub left_by : (List ℕ → Bool) → AccountLine → AccountLine
left_by gone line = if not (is_kept line) && list_any gone (members_of line) then with_members (filter (λ member. not (gone member)) (members_of line)) line else line

-- The files without gone names: their lines go, and gone users leave all member lists.
abbrev pub after_gone : List Fields → List Fields → Accounts → Accounts
after_gone old new books =
    let gone_user = is_gone user_name (users_in old) (users_in new) in
    let gone_group = is_gone group_name (groups_in old) (groups_in new) in
    record {
      passwd = without gone_user books.passwd;
      shadow = without gone_user books.shadow;
      group = without gone_group (map (left_by gone_user) books.group);
    }
