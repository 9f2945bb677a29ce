-- Lines of group that an edit isn't about stay.
use Rattle.std.proofs.Common.{◌≡◌, ℕ, Bool, true, false, not, ◌||◌, List, [], ◌∷◌, map, filter, Ok, refl, sym, ap, subst, ◌∙◌}
use lib.Chars.{codes}
use Rattle.std.specs.List.{list_any, AllByRecursion}
use Rattle.std.proofs.lemmas.Bool.{and_parts}
use Rattle.ips_text.specs.Reading.{◌>>=◌}
use Rattle.ips_text.proofs.Truths.{or_true}
use Rattle.ips_action.proofs.KeyOrder.{same_true, same_self}
use Rattle.ips_action.specs.Attrs.{is_same, values_of}
use Rattle.ips_action.specs.Check.{IsAccount}
use Rattle.ips_action.specs.Action.{Fields}
use Rattle.ips_books.specs.Lines.{AccountLine}
use Rattle.ips_books.specs.Accounts.{is_kept, is_of, field, Accounts}
use Rattle.ips_books.specs.Writing.{at_first, with_line}
use Rattle.ips_turnover.specs.Turnover.{left_by, user_name, group_name, users_in, groups_in, name_cmp, is_fresh, is_named_in, fresh_groups, fresh_users, after_gone}
use Rattle.ips_accounts.specs.Editing.{joined_by, in_groups, edited_books, group_text, standing_members, with_group, with_user, each, if_known}
use Rattle.ips_accounts.specs.Laws.{is_gone_user, is_gone_group, is_asked_for, is_other_group, bytes_of, OthersStay}
use Rattle.ips_accounts.proofs.Lacking.{bind_ok, written_name, all_ordered, all_filtered}
use Rattle.ips_accounts.proofs.Others.{each_keeps, known_keeps, not_kept, stay_changed, stay_put, stay_without, users_stay}
use Rattle.ips_accounts.proofs.GroupNames.{group_gives, user_joins}
use Rattle.ips_accounts.proofs.Joined.{joined_speaks, of_kept}

-- The group has a name that can be written, and is one of those that are.
record WritesGroup (groups : List Fields) (a : Fields) : Type 0 where
  account : IsAccount (group_name a)
  named : is_named_in group_name groups (group_name a) ≡ true

all_more : (first : Fields) (groups actions : List Fields) → AllByRecursion (λ a. is_named_in group_name groups (group_name a) ≡ true) actions → AllByRecursion (λ a. is_named_in group_name (first ∷ groups) (group_name a) ≡ true) actions
all_more first groups [] all = tt
all_more first groups (a ∷ actions) all = (ap (λ (t : Bool). is_same (group_name a) (group_name first) || t) all.0 ∙ or_true (is_same (group_name a) (group_name first)), all_more first groups actions all.1)

all_named : (groups : List Fields) → AllByRecursion (λ a. is_named_in group_name groups (group_name a) ≡ true) groups
all_named [] = tt
all_named (a ∷ groups) = (ap (λ (t : Bool). t || is_named_in group_name groups (group_name a)) (same_self (group_name a) (group_name a) refl), all_more a groups groups (all_named groups))

all_write : (groups actions : List Fields) → AllByRecursion (λ a. IsAccount (group_name a)) actions → AllByRecursion (λ a. is_named_in group_name groups (group_name a) ≡ true) actions → AllByRecursion (WritesGroup groups) actions
all_write groups [] accounts named = tt
all_write groups (a ∷ actions) accounts named = (record { account = accounts.0; named = named.0 }, all_write groups actions accounts.1 named.1)

-- The user asks for groups that the users ask for.
record Asks (users : List Fields) (a : Fields) : Type 0 where
  asked : AllByRecursion (λ g. is_asked_for users g ≡ true) (values_of (codes "group-list") a.attrs)

in_more : (first : List ℕ) (groups names : List (List ℕ)) → AllByRecursion (λ g. list_any (λ h. is_same g h) groups ≡ true) names → AllByRecursion (λ g. list_any (λ h. is_same g h) (first ∷ groups) ≡ true) names
in_more first groups [] all = tt
in_more first groups (g ∷ names) all = (ap (λ (t : Bool). is_same g first || t) all.0 ∙ or_true (is_same g first), in_more first groups names all.1)

all_in : (groups : List (List ℕ)) → AllByRecursion (λ g. list_any (λ h. is_same g h) groups ≡ true) groups
all_in [] = tt
all_in (g ∷ groups) = (ap (λ (t : Bool). t || list_any (λ h. is_same g h) groups) (same_self g g refl), in_more g groups groups (all_in groups))

own_asked : (a : Fields) (users : List Fields) (groups : List (List ℕ)) → AllByRecursion (λ g. list_any (λ h. is_same g h) (values_of (codes "group-list") a.attrs) ≡ true) groups → AllByRecursion (λ g. is_asked_for (a ∷ users) g ≡ true) groups
own_asked a users [] all = tt
own_asked a users (g ∷ groups) all = (ap (λ (t : Bool). t || is_asked_for users g) all.0, own_asked a users groups all.1)

asked_more : (first : Fields) (users : List Fields) (groups : List (List ℕ)) → AllByRecursion (λ g. is_asked_for users g ≡ true) groups → AllByRecursion (λ g. is_asked_for (first ∷ users) g ≡ true) groups
asked_more first users [] all = tt
asked_more first users (g ∷ groups) all =
    (ap (λ (t : Bool). list_any (λ h. is_same g h) (values_of (codes "group-list") first.attrs) || t) all.0 ∙ or_true (list_any (λ h. is_same g h) (values_of (codes "group-list") first.attrs)), asked_more first users groups all.1)

all_ask_more : (first : Fields) (users actions : List Fields) → AllByRecursion (Asks users) actions → AllByRecursion (Asks (first ∷ users)) actions
all_ask_more first users [] all = tt
all_ask_more first users (a ∷ actions) all = (record { asked = asked_more first users (values_of (codes "group-list") a.attrs) all.0.asked }, all_ask_more first users actions all.1)

all_ask : (users : List Fields) → AllByRecursion (Asks users) users
all_ask [] = tt
all_ask (a ∷ users) = (record { asked = own_asked a users (values_of (codes "group-list") a.attrs) (all_in (values_of (codes "group-list") a.attrs)) }, all_ask_more a users users (all_ask users))

module _ (old new : List Fields) where
  abbrev passes : AccountLine → Bool
  passes = is_other_group old new

  abbrev told : List ℕ → Bool
  told name = is_gone_group old new name || (is_named_in group_name (fresh_groups old new) name || is_asked_for (fresh_users old new) name)

  no_other : (line : AccountLine) → is_kept line ≡ false → told (field 0 line) ≡ true → passes line ≡ false
  no_other line kept about = (λ i. kept i || not (about i))

  gone_told : (name : List ℕ) → is_gone_group old new name ≡ true → told name ≡ true
  gone_told name e = ap (λ (t : Bool). t || (is_named_in group_name (fresh_groups old new) name || is_asked_for (fresh_users old new) name)) e

  named_told : (name : List ℕ) → is_named_in group_name (fresh_groups old new) name ≡ true → told name ≡ true
  named_told name e = ap (λ (t : Bool). is_gone_group old new name || (t || is_asked_for (fresh_users old new) name)) e ∙ or_true (is_gone_group old new name)

  asked_told : (name : List ℕ) → is_asked_for (fresh_users old new) name ≡ true → told name ≡ true
  asked_told name e =
      ap (λ (t : Bool). is_gone_group old new name || (is_named_in group_name (fresh_groups old new) name || t)) e
      ∙ ap (λ (t : Bool). is_gone_group old new name || t) (or_true (is_named_in group_name (fresh_groups old new) name))
      ∙ or_true (is_gone_group old new name)

  first_field : (name : List ℕ) (line : AccountLine) → is_of name line ≡ true → field 0 line ≡ name
  first_field name line of = sym (same_true name (field 0 line) (and_parts (not (is_kept line)) (is_same name (field 0 line)) of).1)

  standing_told : (name : List ℕ) (line : AccountLine) → told name ≡ true → is_of name line ≡ true → passes line ≡ false
  standing_told name line about of = no_other line (of_kept name line of) (ap told (first_field name line of) ∙ about)

  group_stays : (a : Fields) (gid : ℕ) (members : List ℕ) (lines : List AccountLine) → WritesGroup (fresh_groups old new) a → bytes_of passes (with_line (group_name a) (group_text (group_name a) gid members) lines) ≡ bytes_of passes lines
  group_stays a gid members lines writes = stay_put passes (group_name a) (group_text (group_name a) gid members) lines (λ line. refl)
      (λ e. no_other (record { text = group_text (group_name a) gid members; ended = e }) (not_kept (group_name a) _ e writes.account) (ap told (written_name (group_name a) (group_text (group_name a) gid members) _ e writes.account.field refl) ∙ named_told (group_name a) writes.named))
      (λ line of. standing_told (group_name a) line (named_told (group_name a) writes.named) of)

  join_stays : (user group : List ℕ) (lines : List AccountLine) → is_asked_for (fresh_users old new) group ≡ true → bytes_of passes (at_first (is_of group) (joined_by user) lines) ≡ bytes_of passes lines
  join_stays user group lines asked = stay_changed passes (is_of group) (joined_by user) lines
      (λ line of.
      let same = joined_speaks user line (of_kept group line of) in
      no_other (joined_by user line) (same.kept ∙ of_kept group line of) (ap told (same.name ∙ first_field group line of) ∙ asked_told group asked))
      (λ line of. standing_told group line (asked_told group asked) of)

  joins_stay : (user : List ℕ) (groups : List (List ℕ)) (lines : List AccountLine) → AllByRecursion (λ g. is_asked_for (fresh_users old new) g ≡ true) groups → bytes_of passes (in_groups user groups lines) ≡ bytes_of passes lines
  joins_stay user [] lines asked = refl
  joins_stay user (group ∷ groups) lines asked = joins_stay user groups (at_first (is_of group) (joined_by user) lines) asked.1 ∙ join_stays user group lines asked.0

-- Every other line stands as before.
pub others_stay : (before after : Accounts) (old new : List Fields) → AllByRecursion (λ a. IsAccount (user_name a)) (users_in new) → AllByRecursion (λ a. IsAccount (group_name a)) (groups_in new) → edited_books before old new ≡ Ok after → OthersStay old new before after
others_stay before after old new accounts names e =
    let users = fresh_users old new in
    let groups = fresh_groups old new in
    let kept = bytes_of (is_other_group old new) in
    let base = map (left_by (is_gone_user old new)) before.group in
    let of_users = users_stay before after old new accounts e in
    let fresh = all_ordered (λ a. IsAccount (group_name a)) (name_cmp group_name) (filter (is_fresh (groups_in old)) (groups_in new)) (all_filtered (λ a. IsAccount (group_name a)) (is_fresh (groups_in old)) (groups_in new) names) in
    let first = bind_ok (each with_group groups (after_gone old new before)) (λ grouped. each with_user users grouped >>= if_known users) after e in
    let second = bind_ok (each with_user users first.0) (if_known users) after first.2 in
    let start : kept (after_gone old new before).group ≡ kept base = stay_without (is_other_group old new) (is_gone_group old new) base (λ line k g. no_other old new line k (gone_told old new (field 0 line) g)) in
    let grouped = each_keeps (WritesGroup groups) (λ (x : Accounts). kept x.group ≡ kept base) with_group (λ a b c p q s.
    let given = group_gives a b c s in
    ap kept given.1 ∙ group_stays old new a given.0 (standing_members b.group (group_name a)) b.group p ∙ q) groups (after_gone old new before) first.0 (all_write groups groups fresh (all_named groups)) start first.1 in
    let done = each_keeps (Asks users) (λ (x : Accounts). kept x.group ≡ kept base) with_user (λ a b c p q s.
    ap kept (user_joins a b c s) ∙ joins_stay old new (user_name a) (values_of (codes "group-list") a.attrs) b.group p.asked ∙ q) users first.0 second.0 (all_ask users) grouped second.1 in
    record { passwd = of_users.passwd; shadow = of_users.shadow; group = subst (λ (x : Accounts). kept x.group ≡ kept base) (known_keeps users second.0 after second.2) done }
