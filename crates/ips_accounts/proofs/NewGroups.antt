-- New groups stand as their actions say.
use Rattle.std.proofs.Common.{◌≡◌, ℕ, ◌<◌, ◌^◌, Bool, true, false, cond, not, eqb, List, [], ◌∷◌, ◌++◌, filter, Some, option_map, Result, Ok, Err, IfSome, unwrap_or, slice_get, refl, sym, ◌∙◌, ap, subst}
use lib.Chars.{codes}
use Rattle.std.specs.List.{list_any, find, slice_split, join_with_byte, AllByRecursion}
use Rattle.std.specs.Fmt.{decimal}
use Rattle.std.proofs.lemmas.Bool.{and_parts}
use Rattle.ips_text.specs.Reading.{◌>>=◌}
use Rattle.ips_text.proofs.Truths.{not_true}
use Rattle.ips_action.specs.Attrs.{is_same, values_of}
use Rattle.ips_action.specs.Check.{IsAccount, IsField}
use Rattle.ips_action.specs.Action.{Fields}
use Rattle.ips_books.specs.declared.fault.AccountFault.{AccountFault}
use Rattle.ips_books.specs.Lines.{AccountLine}
use Rattle.ips_books.specs.Accounts.{is_kept, is_of, field, fields_text, number_in, number_of, members_of, Accounts}
use Rattle.ips_books.specs.Writing.{at_first, with_line, with_members, is_number_taken}
use Rattle.ips_turnover.specs.Turnover.{group_name, groups_in, user_name, name_cmp, is_fresh, fresh_groups, fresh_users, after_gone, number_given}
use Rattle.ips_accounts.specs.Editing.{joined_by, in_groups, edited_books, if_known, with_group, with_user, standing_members, number_for, group_text, each}
use Rattle.ips_accounts.specs.Laws.{NamedOnce, text_at, GroupStands}
use Rattle.ips_accounts.proofs.Lacking.{bind_ok, err_no, ok_value, split_at, all_ordered, all_filtered}
use Rattle.ips_accounts.proofs.Others.{each_keeps, known_keeps, all_units}
use Rattle.ips_accounts.proofs.GroupNames.{IsApart, all_apart, user_joins, joined_apart}
use Rattle.ips_accounts.proofs.NewUsers.{own_line, other_line, put_own, put_other, given_is}
use Rattle.ips_accounts.proofs.Low.{given_low, for_low, decimal_plain}
use Rattle.ips_accounts.proofs.Joined.{taken_joined}
use Rattle.ips_accounts.proofs.Apart.{none_put, own_apart, told_free, differs, numbered_apart, some_text}
use Rattle.ips_books.proofs.Decimals.{number_small}

-- ---- fields of a group's line

pub group_fields : (name : List ℕ) (gid : ℕ) (members : List ℕ) → IsField name → gid < 2 ^ 32 → slice_split (λ b. eqb b 58) (group_text name gid members) ≡ name ∷ [] ∷ decimal gid ∷ slice_split (λ b. eqb b 58) members
group_fields name gid members plain lt =
    split_at name (58 ∷ (decimal gid ++ 58 ∷ members)) plain
    ∙ ap (λ (l : List (List ℕ)). name ∷ l) (split_at [] (decimal gid ++ 58 ∷ members) refl ∙ ap (λ (l : List (List ℕ)). [] ∷ l) (split_at (decimal gid) members (decimal_plain gid lt)))

-- a group's line with other members
joined_text : (name user : List ℕ) (gid : ℕ) (members : List ℕ) (line : AccountLine) → IsField name → gid < 2 ^ 32 → line.text ≡ group_text name gid members → (next : List ℕ) × ((joined_by user line).text ≡ group_text name gid next)
joined_text name user gid members line plain lt e = go (list_any (λ member. is_same member user) (members_of line))
  where
    fields : slice_split (λ b. eqb b 58) line.text ≡ name ∷ [] ∷ decimal gid ∷ slice_split (λ b. eqb b 58) members
    fields = ap (slice_split (λ b. eqb b 58)) e ∙ group_fields name gid members plain lt

    go : (t : Bool) → (next : List ℕ) × ((cond t line (with_members (members_of line ++ user ∷ []) line)).text ≡ group_text name gid next)
    go true = (members, e)
    go false = (join_with_byte 44 (members_of line ++ user ∷ []), ap (λ (l : List (List ℕ)). fields_text (unwrap_or (slice_get l 0) [] ∷ unwrap_or (slice_get l 1) [] ∷ unwrap_or (slice_get l 2) [] ∷ join_with_byte 44 (members_of line ++ user ∷ []) ∷ [])) fields)

-- ---- users join groups

-- the first line of the name is that of the group, with some members
pub HasGroup : List ℕ → ℕ → List AccountLine → Type 0
HasGroup name gid lines = (members : List ℕ) × (text_at lines name ≡ Some (group_text name gid members))

own_of : (name : List ℕ) (gid : ℕ) (members : List ℕ) (line : AccountLine) → IsAccount name → line.text ≡ group_text name gid members → is_of name line ≡ true
own_of name gid members line account e = own_line name line.text _ line.ended account e

has_joined : (name user group : List ℕ) (gid : ℕ) (lines : List AccountLine) → IsAccount name → gid < 2 ^ 32 → HasGroup name gid lines → HasGroup name gid (at_first (is_of group) (joined_by user) lines)
unfolding HasGroup
has_joined name user group gid [] account lt has = has
has_joined name user group gid (x ∷ lines) account lt has = go (is_of name x) refl (is_of group x) refl (λ h. has_joined name user group gid lines account lt h) has
  where
    go : (own : Bool) → is_of name x ≡ own → (there : Bool) → is_of group x ≡ there → (HasGroup name gid lines → HasGroup name gid (at_first (is_of group) (joined_by user) lines))
        → ((members : List ℕ) × (option_map (λ (l : AccountLine). l.text) (cond own (Some x) (find (is_of name) lines)) ≡ Some (group_text name gid members)))
        → (members : List ℕ) × (text_at (cond there (joined_by user x ∷ lines) (x ∷ at_first (is_of group) (joined_by user) lines)) name ≡ Some (group_text name gid members))
    go true eo true et more h =
        let next = joined_text name user gid h.0 x account.field lt (some_text x.text (group_text name gid h.0) h.1) in
        (next.0, ap (λ (t : Bool). option_map (λ (l : AccountLine). l.text) (cond t (Some (joined_by user x)) (find (is_of name) lines))) (own_of name gid next.0 (joined_by user x) account next.1) ∙ ap (λ (t : List ℕ). Some t) next.1)
    go true eo false et more h = (h.0, ap (λ (t : Bool). option_map (λ (l : AccountLine). l.text) (cond t (Some x) (find (is_of name) (at_first (is_of group) (joined_by user) lines)))) eo ∙ h.1)
    go false eo true et more h =
        let kept = not_true (is_kept x) (and_parts (not (is_kept x)) (is_same group (field 0 x)) et).0 in
        (h.0, ap (λ (t : Bool). option_map (λ (l : AccountLine). l.text) (cond t (Some (joined_by user x)) (find (is_of name) lines))) (joined_apart name user x kept eo) ∙ h.1)
    go false eo false et more h =
        let later = more h in
        (later.0, ap (λ (t : Bool). option_map (λ (l : AccountLine). l.text) (cond t (Some x) (find (is_of name) (at_first (is_of group) (joined_by user) lines)))) eo ∙ later.1)

has_in : (name user : List ℕ) (groups : List (List ℕ)) (gid : ℕ) (lines : List AccountLine) → IsAccount name → gid < 2 ^ 32 → HasGroup name gid lines → HasGroup name gid (in_groups user groups lines)
has_in name user [] gid lines account lt has = has
has_in name user (group ∷ groups) gid lines account lt has = has_in name user groups gid (at_first (is_of group) (joined_by user) lines) account lt (has_joined name user group gid lines account lt has)

-- ---- groups

-- what a group leaves
pub record GroupLeft (a : Fields) (b c : Accounts) : Type 0 where
  pub gid : ℕ
  pub number : number_for b.group (group_name a) (number_given (codes "gid") a) ≡ Ok gid
  pub group : c.group ≡ with_line (group_name a) (group_text (group_name a) gid (standing_members b.group (group_name a))) b.group

pub group_left : (a : Fields) (b c : Accounts) → with_group a b ≡ Ok c → GroupLeft a b c
group_left a b c e = go (number_for b.group (group_name a) (number_given (codes "gid") a)) refl e
  where
    go : (r : Result ℕ AccountFault) → number_for b.group (group_name a) (number_given (codes "gid") a) ≡ r
        → (r >>= λ gid. Ok (record { passwd = b.passwd; shadow = b.shadow; group = with_line (group_name a) (group_text (group_name a) gid (standing_members b.group (group_name a))) b.group })) ≡ Ok c → GroupLeft a b c
    go (Ok gid) n h =
        let same = ok_value (record { passwd = b.passwd; shadow = b.shadow; group = with_line (group_name a) (group_text (group_name a) gid (standing_members b.group (group_name a))) b.group }) c h in
        record { gid = gid; number = n; group = sym (ap (λ (x : Accounts). x.group) same) }
    go (Err f) n h = absurd (err_no f c h)

-- the group stands, and its number is small
pub record Stands (a : Fields) (b : Accounts) : Type 0 where
  pub gid : ℕ
  pub low : gid < 2 ^ 32
  pub has : HasGroup (group_name a) gid b.group
  pub given : IfSome (number_given (codes "gid") a) (λ id. gid ≡ id)
  pub alone : is_number_taken b.group (group_name a) gid ≡ false

group_number : (name : List ℕ) (gid : ℕ) (members : List ℕ) (e : Bool) → IsField name → gid < 2 ^ 32 → number_of (record { text = group_text name gid members; ended = e }) ≡ Some gid
group_number name gid members e plain lt =
    ap (λ (parts : List (List ℕ)). number_in (unwrap_or (slice_get parts 2) [])) (group_fields name gid members plain lt) ∙ number_small (decimal gid) gid lt refl

stands_first : (a : Fields) (b c : Accounts) → IsAccount (group_name a) → with_group a b ≡ Ok c → Stands a c
unfolding HasGroup
stands_first a b c account e =
    let left = group_left a b c e in
    let text = group_text (group_name a) left.gid (standing_members b.group (group_name a)) in
    record {
      gid = left.gid;
      low = for_low b.group (group_name a) (number_given (codes "gid") a) left.gid (given_low (codes "gid") a) left.number;
      has = (standing_members b.group (group_name a), ap (λ (l : List AccountLine). text_at l (group_name a)) left.group ∙ put_own (group_name a) text b.group (λ t. own_line (group_name a) text _ t account refl));
      given = given_is b.group (group_name a) (number_given (codes "gid") a) left.gid left.number;
      alone = ap (λ (l : List AccountLine). is_number_taken l (group_name a) left.gid) left.group
          ∙ none_put (group_name a) (group_name a) left.gid text b.group (λ t. own_apart (group_name a) left.gid (record { text = text; ended = t }) (own_line (group_name a) text _ t account refl)) (told_free b.group (group_name a) (number_given (codes "gid") a) left.gid left.number);
    }

stands_on : (a other : Fields) (b c : Accounts) → IsAccount (group_name a) → IsApart group_name (group_name a) other → Stands a b → with_group other b ≡ Ok c → Stands a c
unfolding HasGroup
stands_on a other b c account names stands e =
    let left = group_left other b c e in
    let text = group_text (group_name other) left.gid (standing_members b.group (group_name other)) in
    let low = for_low b.group (group_name other) (number_given (codes "gid") other) left.gid (given_low (codes "gid") other) left.number in
    let apart = differs (group_name a) (group_name other) (group_text (group_name a) stands.gid stands.has.0) stands.gid left.gid b.group stands.has.1 (λ t. group_number (group_name a) stands.gid stands.has.0 t account.field stands.low) names.apart (told_free b.group (group_name other) (number_given (codes "gid") other) left.gid left.number) in
    record {
      gid = stands.gid;
      low = stands.low;
      has = (
        stands.has.0,
        ap (λ (l : List AccountLine). text_at l (group_name a)) left.group ∙ put_other (group_name a) (group_name other) text b.group names.apart (λ t. other_line (group_name a) (group_name other) text _ t names.plain names.apart refl) ∙ stands.has.1,
      );
      given = stands.given;
      alone = ap (λ (l : List AccountLine). is_number_taken l (group_name a) stands.gid) left.group
          ∙ none_put (group_name a) (group_name other) stands.gid text b.group (λ t. numbered_apart (group_name a) stands.gid left.gid (record { text = text; ended = t }) (group_number (group_name other) left.gid (standing_members b.group (group_name other)) t names.plain low) apart) stands.alone;
    }

plain_names : (groups : List Fields) → AllByRecursion (λ a. IsAccount (group_name a)) groups → AllByRecursion (λ a. IsField (group_name a)) groups
plain_names [] all = tt
plain_names (a ∷ groups) all = (all.0.field, plain_names groups all.1)

groups_stand : (groups : List Fields) (books done : Accounts) → AllByRecursion (λ a. IsAccount (group_name a)) groups → NamedOnce group_name groups → each with_group groups books ≡ Ok done → AllByRecursion (λ a. Stands a done) groups
groups_stand [] books done all once e = tt
groups_stand (a ∷ groups) books done all once e =
    let one = bind_ok (with_group a books) (each with_group groups) done e in (
      each_keeps (IsApart group_name (group_name a)) (Stands a) with_group (λ other b c. stands_on a other b c all.0) groups one.0 done (all_apart group_name (group_name a) groups once.0 (plain_names groups all.1)) (stands_first a books one.0 all.0 one.1) one.2,
      groups_stand groups one.0 done all.1 once.1 one.2,
    )

behind_users : (users groups : List Fields) (books done : Accounts) → AllByRecursion (λ a. IsAccount (group_name a)) groups → AllByRecursion (λ a. Stands a books) groups → each with_user users books ≡ Ok done → AllByRecursion (GroupStands done) groups
unfolding HasGroup
behind_users users [] books done accounts all e = tt
behind_users users (a ∷ groups) books done accounts all e =
    let last = each_keeps (λ u. Unit {0}) (Stands a) with_user (λ u b c p stands s. record {
      gid = stands.gid;
      low = stands.low;
      has = subst (HasGroup (group_name a) stands.gid) (sym (user_joins u b c s)) (has_in (group_name a) (user_name u) (values_of (codes "group-list") u.attrs) stands.gid b.group accounts.0 stands.low stands.has);
      given = stands.given;
      alone = ap (λ (l : List AccountLine). is_number_taken l (group_name a) stands.gid) (user_joins u b c s) ∙ taken_joined (group_name a) stands.gid (user_name u) (values_of (codes "group-list") u.attrs) b.group ∙ stands.alone;
    }) users books done (all_units users) all.0 e in
    (record { gid = last.gid; members = last.has.0; line = last.has.1; given = last.given; alone = last.alone }, behind_users users groups books done accounts.1 all.1 e)

pub new_groups : (before after : Accounts) (old new : List Fields) → AllByRecursion (λ a. IsAccount (group_name a)) (groups_in new) → NamedOnce group_name (fresh_groups old new) → edited_books before old new ≡ Ok after → AllByRecursion (GroupStands after) (fresh_groups old new)
new_groups before after old new accounts once e =
    let groups = fresh_groups old new in
    let users = fresh_users old new in
    let fresh = all_ordered (λ a. IsAccount (group_name a)) (name_cmp group_name) (filter (is_fresh (groups_in old)) (groups_in new)) (all_filtered (λ a. IsAccount (group_name a)) (is_fresh (groups_in old)) (groups_in new) accounts) in
    let first = bind_ok (each with_group groups (after_gone old new before)) (λ grouped. each with_user users grouped >>= if_known users) after e in
    let second = bind_ok (each with_user users first.0) (if_known users) after first.2 in
    subst (λ (books : Accounts). AllByRecursion (GroupStands books) groups) (known_keeps users second.0 after second.2) (behind_users users groups first.0 second.0 fresh (groups_stand groups (after_gone old new before) first.0 fresh once first.1) second.1)
