-- Members of groups stay members, unless they go.
use Rattle.std.proofs.Common.{◌≡◌, ℕ, ◌<◌, ◌^◌, Bool, true, false, cond, not, ◌&&◌, ◌||◌, eqb, List, [], ◌∷◌, length, map, filter, Option, Some, None, option_map, Ok, unwrap_or, slice_get, refl, sym, ap, subst, ◌∙◌, arith}
use lib.Chars.{codes}
use Rattle.std.specs.List.{list_any, find, slice_split, join_with_byte, AllByRecursion}
use Rattle.std.specs.Option.{option_map_or}
use Rattle.std.proofs.lemmas.Bool.{and_parts, true≢false}
use Rattle.ips_text.specs.Path.{is_nothing}
use Rattle.ips_text.specs.Reading.{◌>>=◌}
use Rattle.ips_text.proofs.Truths.{or_true}
use Rattle.ips_action.specs.Attrs.{is_same, values_of}
use Rattle.ips_action.specs.Check.{IsAccount, IsField}
use Rattle.ips_action.specs.Action.{Fields}
use Rattle.ips_action.proofs.KeyOrder.{same_true}
use Rattle.ips_books.specs.Lines.{AccountLine}
use Rattle.ips_books.specs.Accounts.{is_kept, is_of, field, members_in, members_of, line_at, Accounts}
use Rattle.ips_books.specs.Writing.{at_first, with_line, with_members}
use Rattle.ips_turnover.specs.Turnover.{stays, without, left_by, group_name, user_name, groups_in, users_in, name_cmp, is_fresh, fresh_groups, fresh_users, after_gone, number_given}
use Rattle.ips_accounts.specs.Editing.{joined_by, in_groups, edited_books, if_known, with_group, with_user, standing_members, group_text, each}
use Rattle.ips_accounts.specs.Laws.{is_gone_user, is_gone_group, is_member_in, MembersStay, text_at}
use Rattle.ips_accounts.proofs.Lacking.{bind_ok, all_ordered, all_filtered}
use Rattle.ips_accounts.proofs.Others.{each_keeps, known_keeps}
use Rattle.ips_accounts.proofs.GroupNames.{user_joins}
use Rattle.ips_accounts.proofs.Members.{cut_none, pieces_back, joined_lack, commas_of, colons_of, standing_lack}
use Rattle.ips_books.proofs.Written.{later}
use Rattle.ips_accounts.proofs.Joined.{of_kept, of_same, with_speaks, joined_speaks, with_fields, some_joined, joined_keeps, fold_has, unfold_has}
use Rattle.ips_accounts.proofs.NewUsers.{own_line, other_line, put_own, put_other}
use Rattle.ips_accounts.proofs.NewGroups.{group_left, group_fields}
use Rattle.ips_accounts.proofs.Low.{given_low, for_low}

-- the members of the first line of a name
abbrev member_of : Option AccountLine → List ℕ → Bool
member_of line user = option_map_or (λ (l : AccountLine). list_any (λ m. is_same m user) (members_of l)) line false

by_text : (o : Option AccountLine) (user : List ℕ) → member_of o user ≡ option_map_or (λ t. list_any (λ m. is_same m user) (members_of (record { text = t; ended = true }))) (option_map (λ (l : AccountLine). l.text) o) false
by_text None user = refl
by_text (Some line) user = refl

-- ---- a line with other members

nothing_there : (user : List ℕ) → 0 < length user → is_same [] user ≡ false
nothing_there [] some = absurd (omega (arith, some))
nothing_there (b ∷ user) some = refl

none_nothing : (x : List ℕ) → is_nothing x ≡ true → x ≡ []
none_nothing [] e = refl
none_nothing (b ∷ x) e = absurd (true≢false (sym e ∙ later (length x)))

-- a list that is written back has whom it had
has_written : (user : List ℕ) (members : List (List ℕ)) → 0 < length user → AllByRecursion (λ m. list_any (λ b. eqb b 44) m ≡ false) members → list_any (λ m. is_same m user) (members_in (join_with_byte 44 members)) ≡ list_any (λ m. is_same m user) members
has_written user [] some commas = refl
has_written user (x ∷ []) some commas = go (is_nothing x) refl
  where
    go : (t : Bool) → is_nothing x ≡ t → list_any (λ m. is_same m user) (cond t [] (slice_split (λ b. eqb b 44) x)) ≡ list_any (λ m. is_same m user) (x ∷ [])
    go true e = sym (ap (λ (t : List ℕ). is_same t user || false) (none_nothing x e) ∙ ap (λ (t : Bool). t || false) (nothing_there user some))
    go false e = ap (list_any (λ m. is_same m user)) (pieces_back 44 x [] commas)
has_written user (x ∷ y ∷ members) some commas =
    ap (λ (t : Bool). list_any (λ m. is_same m user) (cond t [] (slice_split (λ b. eqb b 44) (join_with_byte 44 (x ∷ y ∷ members))))) (some_joined x (join_with_byte 44 (y ∷ members)))
    ∙ ap (list_any (λ m. is_same m user)) (pieces_back 44 x (y ∷ members) commas)

has_back : (user : List ℕ) (members : List (List ℕ)) (line : AccountLine) → 0 < length user → AllByRecursion (λ m. list_any (λ b. eqb b 44) m ≡ false) members → AllByRecursion (λ m. list_any (λ b. eqb b 58) m ≡ false) members
    → list_any (λ m. is_same m user) (members_of (with_members members line)) ≡ list_any (λ m. is_same m user) members
has_back user members line some commas colons =
    ap (λ (parts : List (List ℕ)). list_any (λ m. is_same m user) (members_in (unwrap_or (slice_get parts 3) []))) (with_fields members line)
    ∙ ap (λ (parts : List (List ℕ)). list_any (λ m. is_same m user) (members_in (unwrap_or (slice_get parts 0) []))) (cut_none 58 (join_with_byte 44 members) (joined_lack 44 58 members refl colons))
    ∙ has_written user members some commas

-- ---- names that go

has_filter : (gone : List ℕ → Bool) (user : List ℕ) (members : List (List ℕ)) → gone user ≡ false → list_any (λ m. is_same m user) members ≡ true → list_any (λ m. is_same m user) (filter (λ m. not (gone m)) members) ≡ true
has_filter gone user [] stays e = e
has_filter gone user (m ∷ members) stays e = go (gone m) (is_same m user) refl refl e (has_filter gone user members stays)
  where
    go : (g s : Bool) → gone m ≡ g → is_same m user ≡ s → (s || list_any (λ m. is_same m user) members) ≡ true
        → (list_any (λ m. is_same m user) members ≡ true → list_any (λ m. is_same m user) (filter (λ m. not (gone m)) members) ≡ true)
        → list_any (λ m. is_same m user) (cond (not g) (m ∷ filter (λ m. not (gone m)) members) (filter (λ m. not (gone m)) members)) ≡ true
    go true true ge se h more = absurd (true≢false (sym ge ∙ ap gone (same_true m user se) ∙ stays))
    go true false ge se h more = more h
    go false true ge se h more = ap (λ (t : Bool). t || list_any (λ m. is_same m user) (filter (λ m. not (gone m)) members)) se
    go false false ge se h more = ap (λ (t : Bool). is_same m user || t) (more h) ∙ or_true (is_same m user)

left_has : (gone : List ℕ → Bool) (user : List ℕ) (line : AccountLine) → 0 < length user → gone user ≡ false → list_any (λ m. is_same m user) (members_of line) ≡ true → list_any (λ m. is_same m user) (members_of (left_by gone line)) ≡ true
left_has gone user line some stays e = go (not (is_kept line) && list_any gone (members_of line))
  where
    go : (t : Bool) → list_any (λ m. is_same m user) (members_of (cond t (with_members (filter (λ m. not (gone m)) (members_of line)) line) line)) ≡ true
    go true =
        has_back user (filter (λ m. not (gone m)) (members_of line)) line some (all_filtered (λ m. list_any (λ b. eqb b 44) m ≡ false) (λ m. not (gone m)) (members_of line) (commas_of line))
        (all_filtered (λ m. list_any (λ b. eqb b 58) m ≡ false) (λ m. not (gone m)) (members_of line) (colons_of line)) ∙ has_filter gone user (members_of line) stays e
    go false = e

left_of : (gone : List ℕ → Bool) (name : List ℕ) (line : AccountLine) → is_of name (left_by gone line) ≡ is_of name line
left_of gone name line = go (is_kept line) (list_any gone (members_of line)) refl
  where
    go : (k a : Bool) → is_kept line ≡ k → is_of name (cond (not k && a) (with_members (filter (λ m. not (gone m)) (members_of line)) line) line) ≡ is_of name line
    go true a e = refl
    go false false e = refl
    go false true e = of_same name (with_members (filter (λ m. not (gone m)) (members_of line)) line) line (with_speaks (filter (λ m. not (gone m)) (members_of line)) line e)

left_member : (gone : List ℕ → Bool) (user name : List ℕ) (lines : List AccountLine) → 0 < length user → gone user ≡ false → member_of (find (is_of name) lines) user ≡ true → member_of (find (is_of name) (map (left_by gone) lines)) user ≡ true
left_member gone user name [] some stays e = e
left_member gone user name (line ∷ lines) some stays e =
    ap (λ (t : Bool). member_of (cond t (Some (left_by gone line)) (find (is_of name) (map (left_by gone) lines))) user) (left_of gone name line) ∙ go (is_of name line) e (left_member gone user name lines some stays)
  where
    go : (t : Bool) → member_of (cond t (Some line) (find (is_of name) lines)) user ≡ true → (member_of (find (is_of name) lines) user ≡ true → member_of (find (is_of name) (map (left_by gone) lines)) user ≡ true)
        → member_of (cond t (Some (left_by gone line)) (find (is_of name) (map (left_by gone) lines))) user ≡ true
    go true h more = left_has gone user line some stays h
    go false h more = more h

-- a line of a name that isn't gone stays
of_stays : (gone : List ℕ → Bool) (name : List ℕ) (line : AccountLine) → gone name ≡ false → is_of name line ≡ true → stays gone line ≡ true
of_stays gone name line not_gone e =
    let parts = and_parts (not (is_kept line)) (is_same name (field 0 line)) e in
    ap (λ (f : List ℕ). is_kept line || not (gone f)) (sym (same_true name (field 0 line) parts.1)) ∙ ap (λ (t : Bool). is_kept line || not t) not_gone ∙ or_true (is_kept line)

without_find : (gone : List ℕ → Bool) (name : List ℕ) (lines : List AccountLine) → gone name ≡ false → find (is_of name) (without gone lines) ≡ find (is_of name) lines
without_find gone name [] e = refl
without_find gone name (line ∷ lines) e = go (stays gone line) refl (is_of name line) refl (without_find gone name lines e)
  where
    go : (s : Bool) → stays gone line ≡ s → (t : Bool) → is_of name line ≡ t → find (is_of name) (without gone lines) ≡ find (is_of name) lines
        → find (is_of name) (cond s (line ∷ without gone lines) (without gone lines)) ≡ cond t (Some line) (find (is_of name) lines)
    go true se t te rest = ap (λ (b : Bool). cond b (Some line) (find (is_of name) (without gone lines))) te ∙ ap (cond t (Some line)) rest
    go false se true te rest = absurd (true≢false (sym (of_stays gone name line e te) ∙ se))
    go false se false te rest = rest

-- ---- groups that are written

group_members : (name : List ℕ) (gid : ℕ) (members : List ℕ) → IsField name → gid < 2 ^ 32 → list_any (λ b. eqb b 58) members ≡ false → members_of (record { text = group_text name gid members; ended = true }) ≡ members_in members
group_members name gid members plain lt lacks =
    ap (λ (parts : List (List ℕ)). members_in (unwrap_or (slice_get parts 3) [])) (group_fields name gid members plain lt)
    ∙ ap (λ (parts : List (List ℕ)). members_in (unwrap_or (slice_get parts 0) [])) (cut_none 58 members lacks)

standing : (o : Option AccountLine) (user : List ℕ) → member_of o user ≡ true → list_any (λ m. is_same m user) (members_in (unwrap_or (option_map (field 3) o) [])) ≡ true
standing None user e = absurd (true≢false (sym e))
standing (Some line) user e = e

seen_in : Option (List ℕ) → List ℕ → Bool
seen_in text user = option_map_or (λ t. list_any (λ m. is_same m user) (members_of (record { text = t; ended = true }))) text false

unfold_in : (o : Option AccountLine) (user : List ℕ) → member_of o user ≡ seen_in (option_map (λ (l : AccountLine). l.text) o) user
unfolding seen_in
unfold_in o user = by_text o user

seen_some : (text user : List ℕ) → list_any (λ m. is_same m user) (members_of (record { text = text; ended = true })) ≡ true → seen_in (Some text) user ≡ true
unfolding seen_in
seen_some text user e = e

group_keeps_member : (user name : List ℕ) (a : Fields) (b c : Accounts) → IsAccount (group_name a) → is_member_in b.group user name ≡ true → with_group a b ≡ Ok c → is_member_in c.group user name ≡ true
group_keeps_member user name a b c account e done =
    let left = group_left a b c done in
    let g = group_name a in
    let text = group_text g left.gid (standing_members b.group g) in
    ap (λ (l : List AccountLine). is_member_in l user name) left.group ∙ unfold_in (line_at (with_line g text b.group) name) user ∙ go left.gid (for_low b.group g (number_given (codes "gid") a) left.gid (given_low (codes "gid") a) left.number) (is_same name g) refl
  where
    go : (gid : ℕ) → gid < 2 ^ 32 → (t : Bool) → is_same name (group_name a) ≡ t → seen_in (text_at (with_line (group_name a) (group_text (group_name a) gid (standing_members b.group (group_name a))) b.group) name) user ≡ true
    go gid low true same =
        let g = group_name a in
        let text = group_text g gid (standing_members b.group g) in
        let one = same_true name g same in
        ap (λ (n : List ℕ). seen_in (text_at (with_line g text b.group) n) user) one
        ∙ ap (λ (o : Option (List ℕ)). seen_in o user) (put_own g text b.group (λ t. own_line g text _ t account refl))
        ∙ seen_some text user (ap (list_any (λ m. is_same m user)) (group_members g gid (standing_members b.group g) account.field low (standing_lack g b.group)) ∙ standing (line_at b.group g) user (ap (λ (n : List ℕ). is_member_in b.group user n) (sym one) ∙ e))
    go gid low false apart =
        let g = group_name a in
        let text = group_text g gid (standing_members b.group g) in
        ap (λ (o : Option (List ℕ)). seen_in o user) (put_other name g text b.group apart (λ t. other_line name g text _ t account.field apart refl))
        ∙ sym (unfold_in (line_at b.group name) user) ∙ e

-- ---- users that join

member_joined : (user name group other : List ℕ) (lines : List AccountLine) → IsAccount other → is_member_in lines user name ≡ true → is_member_in (at_first (is_of group) (joined_by other) lines) user name ≡ true
member_joined user name group other [] account e = e
member_joined user name group other (x ∷ lines) account e = go (is_of group x) refl (is_of name x) refl e (member_joined user name group other lines account)
  where
    go : (t : Bool) → is_of group x ≡ t → (s : Bool) → is_of name x ≡ s → member_of (cond s (Some x) (find (is_of name) lines)) user ≡ true → (is_member_in lines user name ≡ true → is_member_in (at_first (is_of group) (joined_by other) lines) user name ≡ true)
        → is_member_in (cond t (joined_by other x ∷ lines) (x ∷ at_first (is_of group) (joined_by other) lines)) user name ≡ true
    go true et true es h more =
        ap (λ (t : Bool). member_of (cond t (Some (joined_by other x)) (find (is_of name) lines)) user) (of_same name (joined_by other x) x (joined_speaks other x (of_kept group x et)) ∙ es)
        ∙ unfold_has user (joined_by other x) (joined_keeps other user x account (fold_has user x h))
    go true et false es h more = ap (λ (t : Bool). member_of (cond t (Some (joined_by other x)) (find (is_of name) lines)) user) (of_same name (joined_by other x) x (joined_speaks other x (of_kept group x et)) ∙ es) ∙ h
    go false et true es h more = ap (λ (t : Bool). member_of (cond t (Some x) (find (is_of name) (at_first (is_of group) (joined_by other) lines))) user) es ∙ h
    go false et false es h more = ap (λ (t : Bool). member_of (cond t (Some x) (find (is_of name) (at_first (is_of group) (joined_by other) lines))) user) es ∙ more h

member_in : (user name other : List ℕ) (groups : List (List ℕ)) (lines : List AccountLine) → IsAccount other → is_member_in lines user name ≡ true → is_member_in (in_groups other groups lines) user name ≡ true
member_in user name other [] lines account e = e
member_in user name other (group ∷ groups) lines account e = member_in user name other groups (at_first (is_of group) (joined_by other) lines) account (member_joined user name group other lines account e)

-- ---- the whole

-- A member of a group stays one, unless it or the group goes.
pub members_stay : (before after : Accounts) (old new : List Fields) → AllByRecursion (λ a. IsAccount (user_name a)) (users_in new) → AllByRecursion (λ a. IsAccount (group_name a)) (groups_in new) → edited_books before old new ≡ Ok after → MembersStay old new before after
members_stay before after old new accounts plain e user name some user_stays group_stays member =
    let groups = fresh_groups old new in
    let users = fresh_users old new in
    let In : Accounts → Type 0 = λ x. is_member_in x.group user name ≡ true in
    let joining = all_ordered (λ a. IsAccount (user_name a)) (name_cmp user_name) (filter (is_fresh (users_in old)) (users_in new)) (all_filtered (λ a. IsAccount (user_name a)) (is_fresh (users_in old)) (users_in new) accounts) in
    let named = all_ordered (λ a. IsAccount (group_name a)) (name_cmp group_name) (filter (is_fresh (groups_in old)) (groups_in new)) (all_filtered (λ a. IsAccount (group_name a)) (is_fresh (groups_in old)) (groups_in new) plain) in
    let first = bind_ok (each with_group groups (after_gone old new before)) (λ grouped. each with_user users grouped >>= if_known users) after e in
    let second = bind_ok (each with_user users first.0) (if_known users) after first.2 in
    let start : In (after_gone old new before) =
    ap (λ (o : Option AccountLine). member_of o user) (without_find (is_gone_group old new) name (map (left_by (is_gone_user old new)) before.group) group_stays) ∙ left_member (is_gone_user old new) user name before.group some user_stays member in
    let grouped = each_keeps (λ a. IsAccount (group_name a)) In with_group (λ a b c p q s. group_keeps_member user name a b c p q s) groups (after_gone old new before) first.0 named start first.1 in
    let done = each_keeps (λ a. IsAccount (user_name a)) In with_user (λ a b c p q s. ap (λ (l : List AccountLine). is_member_in l user name) (user_joins a b c s) ∙ member_in user name (user_name a) (values_of (codes "group-list") a.attrs) b.group p q) users first.0 second.0 joining grouped second.1 in
    subst In (known_keeps users second.0 after second.2) done
