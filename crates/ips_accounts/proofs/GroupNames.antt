-- Names of groups that go stay away.
use Rattle.std.proofs.Common.{◌≡◌, ℕ, Bool, true, false, cond, not, ◌&&◌, ◌||◌, eqb, List, [], ◌∷◌, ◌++◌, filter, map, None, Result, Ok, Err, unwrap_or, slice_get, refl, sym, ap, subst, ◌∙◌}
use lib.Chars.{codes}
use Rattle.std.specs.List.{slice_split, onto_first, list_any, AllByRecursion}
use Rattle.std.proofs.lemmas.Bool.{or_parts, and_parts}
use Rattle.ips_text.specs.Reading.{◌>>=◌}
use Rattle.ips_text.proofs.Truths.{not_true}
use Rattle.ips_action.specs.Attrs.{is_same, values_of}
use Rattle.ips_action.specs.Action.{Fields}
use Rattle.ips_action.specs.Check.{IsField}
use Rattle.ips_books.specs.declared.fault.AccountFault.{AccountFault}
use Rattle.ips_books.specs.Lines.{AccountLine}
use Rattle.ips_books.specs.Accounts.{is_kept, is_of, field, fields, line_at, members_of, Accounts}
use Rattle.ips_books.specs.Writing.{at_first, with_line, with_members}
use Rattle.ips_turnover.specs.Turnover.{left_by, user_name, group_name, groups_in, name_cmp, is_fresh, is_named_in, fresh_groups, fresh_users, after_gone, number_given}
use Rattle.ips_accounts.specs.Editing.{joined_by, in_groups, edited_books, number_for, group_text, standing_members, passwd_text, with_shadow, gid_of, with_group, with_user, each, if_known}
use Rattle.ips_accounts.specs.Laws.{is_gone_user, is_gone_group}
use Rattle.ips_accounts.proofs.Lacking.{Lacks, lacks_put, lacks_without, not_of, written_name, none_at, all_ordered, all_filtered, ok_value, err_no, bind_ok, not_there}
use Rattle.ips_accounts.proofs.Others.{each_keeps, known_keeps, all_units}

-- ---- fields have no `:`

onto_plain : (b : ℕ) (parts : List (List ℕ)) → eqb b 58 ≡ false → AllByRecursion IsField parts → AllByRecursion IsField (onto_first b parts)
onto_plain b [] e all = (ap (λ (t : Bool). t || false) e, tt)
onto_plain b (p ∷ parts) e all = (ap (λ (t : Bool). t || list_any (λ b. eqb b 58) p) e ∙ all.0, all.1)

pub parts_plain : (bytes : List ℕ) → AllByRecursion IsField (slice_split (λ b. eqb b 58) bytes)
parts_plain [] = (refl, tt)
parts_plain (b ∷ bytes) = go (eqb b 58) refl (parts_plain bytes)
  where
    go : (t : Bool) → eqb b 58 ≡ t → AllByRecursion IsField (slice_split (λ b. eqb b 58) bytes) → AllByRecursion IsField (cond t ([] ∷ slice_split (λ b. eqb b 58) bytes) (onto_first b (slice_split (λ b. eqb b 58) bytes)))
    go true e all = (refl, all)
    go false e all = onto_plain b (slice_split (λ b. eqb b 58) bytes) e all

first_plain : (parts : List (List ℕ)) → AllByRecursion IsField parts → IsField (unwrap_or (slice_get parts 0) [])
first_plain [] all = refl
first_plain (p ∷ parts) all = all.0

pub name_plain : (line : AccountLine) → IsField (field 0 line)
name_plain line = first_plain (fields line) (parts_plain line.text)

-- ---- lines of groups

pub apart_of : (k s : Bool) → k ≡ false → (not k && s) ≡ false → s ≡ false
apart_of k s kept e = sym (ap (λ (t : Bool). not t && s) kept) ∙ e

-- A line with other members speaks of the name that it spoke of.
pub with_apart : (name : List ℕ) (members : List (List ℕ)) (line : AccountLine) → is_kept line ≡ false → is_of name line ≡ false → is_of name (with_members members line) ≡ false
with_apart name members line kept apart =
    not_of name (with_members members line) (field 0 line) (written_name (field 0 line) (with_members members line).text _ line.ended (name_plain line) refl) (apart_of (is_kept line) (is_same name (field 0 line)) kept apart)

pub joined_apart : (name user : List ℕ) (line : AccountLine) → is_kept line ≡ false → is_of name line ≡ false → is_of name (joined_by user line) ≡ false
joined_apart name user line kept apart = go (list_any (λ member. is_same member user) (members_of line)) (with_apart name (members_of line ++ user ∷ []) line kept apart)
  where
    go : (t : Bool) → is_of name (with_members (members_of line ++ user ∷ []) line) ≡ false → is_of name (cond t line (with_members (members_of line ++ user ∷ []) line)) ≡ false
    go true e = apart
    go false e = e

lacks_joined : (name user group : List ℕ) (lines : List AccountLine) → Lacks name lines → Lacks name (at_first (is_of group) (joined_by user) lines)
lacks_joined name user group [] lacks = tt
lacks_joined name user group (line ∷ lines) lacks = go (is_of group line) refl (lacks_joined name user group lines lacks.1)
  where
    go : (t : Bool) → is_of group line ≡ t → Lacks name (at_first (is_of group) (joined_by user) lines) → Lacks name (cond t (joined_by user line ∷ lines) (line ∷ at_first (is_of group) (joined_by user) lines))
    go true e rest = (joined_apart name user line (not_true (is_kept line) (and_parts (not (is_kept line)) (is_same group (field 0 line)) e).0) lacks.0, lacks.1)
    go false e rest = (lacks.0, rest)

lacks_in : (name user : List ℕ) (groups : List (List ℕ)) (lines : List AccountLine) → Lacks name lines → Lacks name (in_groups user groups lines)
lacks_in name user [] lines lacks = lacks
lacks_in name user (group ∷ groups) lines lacks = lacks_in name user groups (at_first (is_of group) (joined_by user) lines) (lacks_joined name user group lines lacks)

-- ---- what actions leave of the file of groups

-- The action names another, by a name without `:`.
pub record IsApart (name_of : Fields → List ℕ) (name : List ℕ) (a : Fields) : Type 0 where
  pub apart : is_same name (name_of a) ≡ false
  pub plain : IsField (name_of a)

pub all_apart : (name_of : Fields → List ℕ) (name : List ℕ) (actions : List Fields) → is_named_in name_of actions name ≡ false → AllByRecursion (λ a. IsField (name_of a)) actions → AllByRecursion (IsApart name_of name) actions
all_apart name_of name [] e all = tt
all_apart name_of name (a ∷ actions) e all =
    let parts = or_parts (is_same name (name_of a)) (is_named_in name_of actions name) e in
    (record { apart = parts.0; plain = all.0 }, all_apart name_of name actions parts.1 all.1)

pub group_gives : (a : Fields) (b c : Accounts) → with_group a b ≡ Ok c → (gid : ℕ) × (c.group ≡ with_line (group_name a) (group_text (group_name a) gid (standing_members b.group (group_name a))) b.group)
group_gives a b c e = go (number_for b.group (group_name a) (number_given (codes "gid") a)) e
  where
    go : (r : Result ℕ AccountFault) → (r >>= λ gid. Ok (record { passwd = b.passwd; shadow = b.shadow; group = with_line (group_name a) (group_text (group_name a) gid (standing_members b.group (group_name a))) b.group })) ≡ Ok c
        → (gid : ℕ) × (c.group ≡ with_line (group_name a) (group_text (group_name a) gid (standing_members b.group (group_name a))) b.group)
    go (Ok gid) e =
        let same = ok_value (record { passwd = b.passwd; shadow = b.shadow; group = with_line (group_name a) (group_text (group_name a) gid (standing_members b.group (group_name a))) b.group }) c e in
        (gid, sym (ap (λ (x : Accounts). x.group) same))
    go (Err f) e = absurd (err_no f c e)

pub user_joins : (a : Fields) (b c : Accounts) → with_user a b ≡ Ok c → c.group ≡ in_groups (user_name a) (values_of (codes "group-list") a.attrs) b.group
user_joins a b c e = go (number_for b.passwd (user_name a) (number_given (codes "uid") a)) e
  where
    go : (r : Result ℕ AccountFault) → (r >>= λ uid. Ok (record {
      passwd = with_line (user_name a) (passwd_text a uid (unwrap_or (gid_of b.group a) 0)) b.passwd;
      shadow = with_shadow a b.shadow;
      group = in_groups (user_name a) (values_of (codes "group-list") a.attrs) b.group;
    })) ≡ Ok c → c.group ≡ in_groups (user_name a) (values_of (codes "group-list") a.attrs) b.group
    go (Ok uid) e =
        sym (ap (λ (x : Accounts). x.group) (ok_value (record {
          passwd = with_line (user_name a) (passwd_text a uid (unwrap_or (gid_of b.group a) 0)) b.passwd;
          shadow = with_shadow a b.shadow;
          group = in_groups (user_name a) (values_of (codes "group-list") a.attrs) b.group;
        }) c e))
    go (Err f) e = absurd (err_no f c e)

-- An edit leaves no line of a gone group.
pub gone_groups : (before after : Accounts) (old new : List Fields) (name : List ℕ) → AllByRecursion (λ a. IsField (group_name a)) (groups_in new) → is_gone_group old new name ≡ true → edited_books before old new ≡ Ok after → line_at after.group name ≡ None
gone_groups before after old new name plain gone e =
    let groups = fresh_groups old new in
    let users = fresh_users old new in
    let start : Lacks name (after_gone old new before).group = lacks_without (is_gone_group old new) name (map (left_by (is_gone_user old new)) before.group) gone in
    let absent = not_there (is_named_in group_name (groups_in old) name) (is_named_in group_name (groups_in new) name) gone in
    let others = all_ordered (IsApart group_name name) (name_cmp group_name) (filter (is_fresh (groups_in old)) (groups_in new)) (all_filtered (IsApart group_name name) (is_fresh (groups_in old)) (groups_in new) (all_apart group_name name (groups_in new) absent plain)) in
    let first = bind_ok (each with_group groups (after_gone old new before)) (λ grouped. each with_user users grouped >>= if_known users) after e in
    let second = bind_ok (each with_user users first.0) (if_known users) after first.2 in
    let grouped = each_keeps (IsApart group_name name) (λ (x : Accounts). Lacks name x.group) with_group (λ a b c p q s.
    let given = group_gives a b c s in
    let text = group_text (group_name a) given.0 (standing_members b.group (group_name a)) in
    subst (Lacks name) (sym given.1) (lacks_put name (group_name a) text b.group (λ e. not_of name (record { text = text; ended = e }) (group_name a) (written_name (group_name a) text _ e p.plain refl) p.apart) q)) groups (after_gone old new before) first.0 others start first.1 in
    let done = each_keeps (λ a. Unit {0}) (λ (x : Accounts). Lacks name x.group) with_user (λ a b c p q s.
    subst (Lacks name) (sym (user_joins a b c s)) (lacks_in name (user_name a) (values_of (codes "group-list") a.attrs) b.group q)) users first.0 second.0 (all_units users) grouped second.1 in
    none_at name after.group (subst (λ (x : Accounts). Lacks name x.group) (known_keeps users second.0 after second.2) done)
