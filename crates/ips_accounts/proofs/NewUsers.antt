-- New users stand as their actions say.
use Rattle.std.proofs.Common.{◌≡◌, ℕ, ◌<◌, ◌^◌, Bool, true, false, cond, not, ◌&&◌, ◌||◌, List, [], ◌∷◌, ◌++◌, filter, Option, Some, None, option_map, Result, Ok, Err, IfSome, is_some, unwrap_or, slice_get, refl, sym, ◌∙◌, ap, subst}
use lib.Chars.{codes}
use Rattle.std.specs.List.{list_any, find, AllByRecursion}
use Rattle.std.specs.Fmt.{decimal}
use Rattle.std.proofs.lemmas.Bool.{or_parts, and_parts, true≢false}
use Rattle.ips_text.specs.Reading.{◌>>=◌}
use Rattle.ips_text.proofs.Truths.{or_true}
use Rattle.ips_action.proofs.KeyOrder.{same_true, same_self}
use Rattle.ips_action.specs.Attrs.{is_same, values_of}
use Rattle.ips_action.specs.Check.{IsAccount, IsField}
use Rattle.ips_action.specs.Action.{Fields}
use Rattle.ips_conflict.specs.Key.{value_of}
use Rattle.ips_books.specs.declared.fault.AccountFault.{AccountFault}
use Rattle.ips_books.specs.declared.fault.AccountFault.TheVariants.{IdTaken, UnknownGroup}
use Rattle.ips_books.specs.Lines.{AccountLine, ended, last_ended}
use Rattle.ips_books.specs.Accounts.{is_kept, is_of, field, fields_text, number_in, number_of, Accounts}
use Rattle.ips_books.proofs.Decimals.{number_small}
use Rattle.ips_books.specs.Writing.{at_first, rewritten, added, with_line, is_number_taken}
use Rattle.ips_turnover.specs.Turnover.{stays, without, user_name, users_in, name_cmp, is_fresh, is_named_in, fresh_groups, fresh_users, after_gone, number_given, given_or}
use Rattle.ips_accounts.specs.Editing.{edited_books, if_known, with_group, with_user, with_shadow, in_groups, number_for, gid_of, passwd_text, shadow_text, each}
use Rattle.ips_accounts.specs.Laws.{NamedOnce, text_at, is_gone_user, IsMemberOf, UserStands}
use Rattle.ips_accounts.proofs.Lacking.{Lacks, none_at, and_false, split_at, bind_ok, err_no, ok_value, written_name, not_of, apart_line, all_ordered, all_filtered}
use Rattle.ips_accounts.proofs.Others.{each_keeps, not_kept, known_keeps, all_units, all_named, group_keeps}
use Rattle.ips_accounts.proofs.GroupNames.{user_joins}
use Rattle.ips_accounts.proofs.Members.{Joins, all_join, turned_apart}
use Rattle.ips_accounts.proofs.Joined.{gid_joined, members_of_all, all_members_stay}
use Rattle.ips_accounts.proofs.Low.{given_low, for_low, decimal_plain}
use Rattle.ips_accounts.proofs.Apart.{none_put, own_apart, numbered_apart, told_free, differs}

-- ---- a line that is written

-- it speaks of its name
pub own_line : (name text behind : List ℕ) (e : Bool) → IsAccount name → text ≡ name ++ 58 ∷ behind → is_of name (record { text = text; ended = e }) ≡ true
own_line name text behind e account is =
    ap (λ (t : Bool). not t && is_same name (field 0 (record { text = text; ended = e }))) (ap (λ (x : List ℕ). is_kept (record { text = x; ended = e })) is ∙ not_kept name behind e account)
    ∙ ap (λ (f : List ℕ). is_same name f) (written_name name text behind e account.field is) ∙ same_self name name refl

-- it speaks of no other
pub other_line : (name other text behind : List ℕ) (e : Bool) → IsField other → is_same name other ≡ false → text ≡ other ++ 58 ∷ behind → is_of name (record { text = text; ended = e }) ≡ false
other_line name other text behind e plain apart is = not_of name (record { text = text; ended = e }) other (written_name other text behind e plain is) apart

-- ---- lists of lines

pub lacks_none : (name : List ℕ) (lines : List AccountLine) → list_any (is_of name) lines ≡ false → Lacks name lines
lacks_none name [] e = tt
lacks_none name (line ∷ lines) e = let parts = or_parts (is_of name line) (list_any (is_of name) lines) e in (parts.0, lacks_none name lines parts.1)

-- behind lines that don't speak of the name, one that does is the first
found_behind : (name : List ℕ) (lines : List AccountLine) (line : AccountLine) → Lacks name lines → is_of name line ≡ true → text_at (last_ended lines ++ line ∷ []) name ≡ Some line.text
found_behind name [] line lacks own = ap (λ (t : Bool). option_map (λ (l : AccountLine). l.text) (cond t (Some line) None)) own
found_behind name (x ∷ []) line lacks own =
    ap (λ (t : Bool). option_map (λ (l : AccountLine). l.text) (cond t (Some (ended x)) (find (is_of name) (line ∷ [])))) lacks.0 ∙ ap (λ (t : Bool). option_map (λ (l : AccountLine). l.text) (cond t (Some line) None)) own
found_behind name (x ∷ y ∷ lines) line lacks own =
    ap (λ (t : Bool). option_map (λ (l : AccountLine). l.text) (cond t (Some x) (find (is_of name) (last_ended (y ∷ lines) ++ line ∷ [])))) lacks.0 ∙ found_behind name (y ∷ lines) line lacks.1 own

-- a line that speaks of another name changes nothing behind the others
same_behind : (name : List ℕ) (lines : List AccountLine) (line : AccountLine) → is_of name line ≡ false → text_at (last_ended lines ++ line ∷ []) name ≡ text_at lines name
same_behind name [] line other = ap (λ (t : Bool). option_map (λ (l : AccountLine). l.text) (cond t (Some line) None)) other
same_behind name (x ∷ []) line other = go (is_of name x)
  where
    go : (t : Bool) → option_map (λ (l : AccountLine). l.text) (cond t (Some (ended x)) (find (is_of name) (line ∷ []))) ≡ option_map (λ (l : AccountLine). l.text) (cond t (Some x) None)
    go true = refl
    go false = ap (λ (t : Bool). option_map (λ (l : AccountLine). l.text) (cond t (Some line) None)) other
same_behind name (x ∷ y ∷ lines) line other = go (is_of name x) (same_behind name (y ∷ lines) line other)
  where
    go : (t : Bool) → text_at (last_ended (y ∷ lines) ++ line ∷ []) name ≡ text_at (y ∷ lines) name
        → option_map (λ (l : AccountLine). l.text) (cond t (Some x) (find (is_of name) (last_ended (y ∷ lines) ++ line ∷ []))) ≡ option_map (λ (l : AccountLine). l.text) (cond t (Some x) (find (is_of name) (y ∷ lines)))
    go true later = refl
    go false later = later

-- the first line of the name, rewritten
first_written : (name text : List ℕ) (lines : List AccountLine) → ((e : Bool) → is_of name (record { text = text; ended = e }) ≡ true) → list_any (is_of name) lines ≡ true → text_at (at_first (is_of name) (rewritten text) lines) name ≡ Some text
first_written name text [] own there = absurd (true≢false (sym there))
first_written name text (x ∷ lines) own there = go (is_of name x) refl there (first_written name text lines own)
  where
    go : (t : Bool) → is_of name x ≡ t → (t || list_any (is_of name) lines) ≡ true → (list_any (is_of name) lines ≡ true → text_at (at_first (is_of name) (rewritten text) lines) name ≡ Some text)
        → text_at (cond t (rewritten text x ∷ lines) (x ∷ at_first (is_of name) (rewritten text) lines)) name ≡ Some text
    go true e any later = ap (λ (t : Bool). option_map (λ (l : AccountLine). l.text) (cond t (Some (rewritten text x)) (find (is_of name) lines))) (own x.ended)
    go false e any later = ap (λ (t : Bool). option_map (λ (l : AccountLine). l.text) (cond t (Some x) (find (is_of name) (at_first (is_of name) (rewritten text) lines)))) e ∙ later any

-- the first line of another name, rewritten
other_written : (name other text : List ℕ) (lines : List AccountLine) → is_same name other ≡ false → ((e : Bool) → is_of name (record { text = text; ended = e }) ≡ false) → text_at (at_first (is_of other) (rewritten text) lines) name ≡ text_at lines name
other_written name other text [] apart away = refl
other_written name other text (x ∷ lines) apart away = go (is_of other x) refl (other_written name other text lines apart away)
  where
    next : (t : Bool) (y : AccountLine) (xs ys : List AccountLine) → text_at xs name ≡ text_at ys name → option_map (λ (l : AccountLine). l.text) (cond t (Some y) (find (is_of name) xs)) ≡ option_map (λ (l : AccountLine). l.text) (cond t (Some y) (find (is_of name) ys))
    next true y xs ys e = refl
    next false y xs ys e = e

    go : (t : Bool) → is_of other x ≡ t → text_at (at_first (is_of other) (rewritten text) lines) name ≡ text_at lines name
        → text_at (cond t (rewritten text x ∷ lines) (x ∷ at_first (is_of other) (rewritten text) lines)) name ≡ text_at (x ∷ lines) name
    go true e later =
        ap (λ (t : Bool). option_map (λ (l : AccountLine). l.text) (cond t (Some (rewritten text x)) (find (is_of name) lines))) (away x.ended)
        ∙ sym (ap (λ (t : Bool). option_map (λ (l : AccountLine). l.text) (cond t (Some x) (find (is_of name) lines))) (apart_line name other x apart e))
    go false e later = next (is_of name x) x (at_first (is_of other) (rewritten text) lines) lines later

-- ---- put

pub put_own : (name text : List ℕ) (lines : List AccountLine) → ((e : Bool) → is_of name (record { text = text; ended = e }) ≡ true) → text_at (with_line name text lines) name ≡ Some text
put_own name text lines own = go (list_any (is_of name) lines) refl
  where
    go : (t : Bool) → list_any (is_of name) lines ≡ t → text_at (cond t (at_first (is_of name) (rewritten text) lines) (added text lines)) name ≡ Some text
    go true e = first_written name text lines own e
    go false e = found_behind name lines (record { text = text; ended = true }) (lacks_none name lines e) (own true)

pub put_other : (name other text : List ℕ) (lines : List AccountLine) → is_same name other ≡ false → ((e : Bool) → is_of name (record { text = text; ended = e }) ≡ false) → text_at (with_line other text lines) name ≡ text_at lines name
put_other name other text lines apart away = go (list_any (is_of other) lines)
  where
    go : (t : Bool) → text_at (cond t (at_first (is_of other) (rewritten text) lines) (added text lines)) name ≡ text_at lines name
    go true = other_written name other text lines apart away
    go false = same_behind name lines (record { text = text; ended = true }) (away true)

-- ---- shadow

any_text : (name : List ℕ) (lines : List AccountLine) → list_any (is_of name) lines ≡ true → (text : List ℕ) × (text_at lines name ≡ Some text)
any_text name [] there = absurd (true≢false (sym there))
any_text name (x ∷ lines) there = go (is_of name x) there (any_text name lines)
  where
    go : (t : Bool) → (t || list_any (is_of name) lines) ≡ true → (list_any (is_of name) lines ≡ true → (text : List ℕ) × (text_at lines name ≡ Some text)) → (text : List ℕ) × (option_map (λ (l : AccountLine). l.text) (cond t (Some x) (find (is_of name) lines)) ≡ Some text)
    go true e later = (x.text, refl)
    go false e later = later e

no_text : (name : List ℕ) (lines : List AccountLine) → Lacks name lines → text_at lines name ≡ None
no_text name lines lacks = ap (option_map (λ (l : AccountLine). l.text)) (none_at name lines lacks)

shadow_own : (a : Fields) (lines : List AccountLine) → IsAccount (user_name a) → text_at (with_shadow a lines) (user_name a) ≡ Some (unwrap_or (text_at lines (user_name a)) (shadow_text a))
shadow_own a lines account = go (list_any (is_of (user_name a)) lines) refl
  where
    go : (t : Bool) → list_any (is_of (user_name a)) lines ≡ t → text_at (cond t lines (added (shadow_text a) lines)) (user_name a) ≡ Some (unwrap_or (text_at lines (user_name a)) (shadow_text a))
    go true e = let found = any_text (user_name a) lines e in found.1 ∙ ap (λ (o : Option (List ℕ)). Some (unwrap_or o (shadow_text a))) (sym found.1)
    go false e =
        let lacks = lacks_none (user_name a) lines e in
        found_behind (user_name a) lines (record { text = shadow_text a; ended = true }) lacks (own_line (user_name a) (shadow_text a) _ true account refl)
        ∙ ap (λ (o : Option (List ℕ)). Some (unwrap_or o (shadow_text a))) (sym (no_text (user_name a) lines lacks))

shadow_other : (name : List ℕ) (b : Fields) (lines : List AccountLine) → is_same name (user_name b) ≡ false → IsField (user_name b) → text_at (with_shadow b lines) name ≡ text_at lines name
shadow_other name b lines apart plain = go (list_any (is_of (user_name b)) lines)
  where
    go : (t : Bool) → text_at (cond t lines (added (shadow_text b) lines)) name ≡ text_at lines name
    go true = refl
    go false = same_behind name lines (record { text = shadow_text b; ended = true }) (other_line name (user_name b) (shadow_text b) _ true plain apart refl)

-- ---- a user

pub given_is : (lines : List AccountLine) (name : List ℕ) (id : Option ℕ) (uid : ℕ) → number_for lines name id ≡ Ok uid → IfSome id (λ x. uid ≡ x)
given_is lines name None uid e = tt
given_is lines name (Some x) uid e = go (is_number_taken lines name x) e
  where
    go : (t : Bool) → (let r : Result ℕ AccountFault = cond t (Err (IdTaken x)) (Ok x) in r ≡ Ok uid) → uid ≡ x
    go true h = absurd cc
    go false h = cc

-- what a user leaves
pub record Left (a : Fields) (b c : Accounts) : Type 0 where
  pub uid : ℕ
  pub number : number_for b.passwd (user_name a) (number_given (codes "uid") a) ≡ Ok uid
  pub passwd : c.passwd ≡ with_line (user_name a) (passwd_text a uid (unwrap_or (gid_of b.group a) 0)) b.passwd
  pub shadow : c.shadow ≡ with_shadow a b.shadow

user_left : (a : Fields) (b c : Accounts) → with_user a b ≡ Ok c → Left a b c
user_left a b c e = go (number_for b.passwd (user_name a) (number_given (codes "uid") a)) refl e
  where
    go : (r : Result ℕ AccountFault) → number_for b.passwd (user_name a) (number_given (codes "uid") a) ≡ r → (r >>= λ uid. Ok (record {
      passwd = with_line (user_name a) (passwd_text a uid (unwrap_or (gid_of b.group a) 0)) b.passwd;
      shadow = with_shadow a b.shadow;
      group = in_groups (user_name a) (values_of (codes "group-list") a.attrs) b.group;
    })) ≡ Ok c → Left a b c
    go (Ok uid) n h =
        let same = ok_value (record {
          passwd = with_line (user_name a) (passwd_text a uid (unwrap_or (gid_of b.group a) 0)) b.passwd;
          shadow = with_shadow a b.shadow;
          group = in_groups (user_name a) (values_of (codes "group-list") a.attrs) b.group;
        }) c h in
        record { uid = uid; number = n; passwd = sym (ap (λ (x : Accounts). x.passwd) same); shadow = sym (ap (λ (x : Accounts). x.shadow) same) }
    go (Err f) n h = absurd (err_no f c h)

user_number : (a : Fields) (uid gid : ℕ) (e : Bool) → IsField (user_name a) → uid < 2 ^ 32 → number_of (record { text = passwd_text a uid gid; ended = e }) ≡ Some uid
user_number a uid gid e plain lt =
    let more = fields_text (decimal gid ∷ given_or (codes "& User") (codes "gcos-field") a ∷ given_or (codes "/") (codes "home-dir") a ∷ given_or [] (codes "login-shell") a ∷ []) in
    ap (λ (parts : List (List ℕ)). number_in (unwrap_or (slice_get parts 2) []))
    (split_at (user_name a) (codes "x" ++ 58 ∷ (decimal uid ++ 58 ∷ more)) plain
    ∙ ap (λ (l : List (List ℕ)). user_name a ∷ l) (split_at (codes "x") (decimal uid ++ 58 ∷ more) refl ∙ ap (λ (l : List (List ℕ)). codes "x" ∷ l) (split_at (decimal uid) more (decimal_plain uid lt))))
    ∙ number_small (decimal uid) uid lt refl

-- the user stands, before it is known that its group has a number
pub record Stands (before : Accounts) (a : Fields) (b : Accounts) : Type 0 where
  pub uid : ℕ
  pub gid : ℕ
  pub low : uid < 2 ^ 32
  pub line : text_at b.passwd (user_name a) ≡ Some (passwd_text a uid gid)
  pub given : IfSome (number_given (codes "uid") a) (λ id. uid ≡ id)
  pub alone : is_number_taken b.passwd (user_name a) uid ≡ false
  pub group : unwrap_or (gid_of b.group a) 0 ≡ gid
  pub password : text_at b.shadow (user_name a) ≡ Some (unwrap_or (text_at before.shadow (user_name a)) (shadow_text a))
  pub members : AllByRecursion (IsMemberOf b.group (user_name a)) (values_of (codes "group-list") a.attrs)

gid_stays : (a other : Fields) (b c : Accounts) → with_user other b ≡ Ok c → unwrap_or (gid_of c.group a) 0 ≡ unwrap_or (gid_of b.group a) 0
gid_stays a other b c e =
    ap (λ (l : List AccountLine). unwrap_or (gid_of l a) 0) (user_joins other b c e)
    ∙ ap (λ (o : Option ℕ). unwrap_or o 0) (gid_joined (value_of (codes "group") a) (user_name other) (values_of (codes "group-list") other.attrs) b.group)

stands_first : (before : Accounts) (a : Fields) (b c : Accounts) → IsAccount (user_name a) → text_at b.shadow (user_name a) ≡ text_at before.shadow (user_name a) → with_user a b ≡ Ok c → Stands before a c
stands_first before a b c account same e =
    let left = user_left a b c e in
    let gid = unwrap_or (gid_of b.group a) 0 in
    let own = λ (t : Bool). own_line (user_name a) (passwd_text a left.uid gid) _ t account refl in
    record {
      uid = left.uid;
      gid = gid;
      low = for_low b.passwd (user_name a) (number_given (codes "uid") a) left.uid (given_low (codes "uid") a) left.number;
      line = ap (λ (l : List AccountLine). text_at l (user_name a)) left.passwd ∙ put_own (user_name a) (passwd_text a left.uid gid) b.passwd own;
      given = given_is b.passwd (user_name a) (number_given (codes "uid") a) left.uid left.number;
      alone = ap (λ (l : List AccountLine). is_number_taken l (user_name a) left.uid) left.passwd
          ∙ none_put (user_name a) (user_name a) left.uid (passwd_text a left.uid gid) b.passwd (λ t. own_apart (user_name a) left.uid (record { text = passwd_text a left.uid gid; ended = t }) (own t)) (told_free b.passwd (user_name a) (number_given (codes "uid") a) left.uid left.number);
      group = gid_stays a a b c e;
      password = ap (λ (l : List AccountLine). text_at l (user_name a)) left.shadow ∙ shadow_own a b.shadow account ∙ ap (λ (o : Option (List ℕ)). Some (unwrap_or o (shadow_text a))) same;
      members = subst (λ (l : List AccountLine). AllByRecursion (IsMemberOf l (user_name a)) (values_of (codes "group-list") a.attrs)) (sym (user_joins a b c e)) (members_of_all (user_name a) (values_of (codes "group-list") a.attrs) b.group account);
    }

stands_on : (before : Accounts) (a other : Fields) (b c : Accounts) → IsAccount (user_name a) → Joins (user_name a) other → Stands before a b → with_user other b ≡ Ok c → Stands before a c
stands_on before a other b c account names stands e =
    let left = user_left other b c e in
    let gid = unwrap_or (gid_of b.group other) 0 in
    let low = for_low b.passwd (user_name other) (number_given (codes "uid") other) left.uid (given_low (codes "uid") other) left.number in
    let apart = differs (user_name a) (user_name other) (passwd_text a stands.uid stands.gid) stands.uid left.uid b.passwd stands.line (λ t. user_number a stands.uid stands.gid t account.field stands.low) names.apart (told_free b.passwd (user_name other) (number_given (codes "uid") other) left.uid left.number) in
    record {
      uid = stands.uid;
      gid = stands.gid;
      low = stands.low;
      line = ap (λ (l : List AccountLine). text_at l (user_name a)) left.passwd
          ∙ put_other (user_name a) (user_name other) (passwd_text other left.uid gid) b.passwd names.apart (λ t. other_line (user_name a) (user_name other) (passwd_text other left.uid gid) _ t names.account.field names.apart refl)
          ∙ stands.line;
      given = stands.given;
      alone = ap (λ (l : List AccountLine). is_number_taken l (user_name a) stands.uid) left.passwd
          ∙ none_put (user_name a) (user_name other) stands.uid (passwd_text other left.uid gid) b.passwd (λ t. numbered_apart (user_name a) stands.uid left.uid (record { text = passwd_text other left.uid gid; ended = t }) (user_number other left.uid gid t names.account.field low) apart) stands.alone;
      group = gid_stays a other b c e ∙ stands.group;
      password = ap (λ (l : List AccountLine). text_at l (user_name a)) left.shadow ∙ shadow_other (user_name a) other b.shadow names.apart names.account.field ∙ stands.password;
      members = subst (λ (l : List AccountLine). AllByRecursion (IsMemberOf l (user_name a)) (values_of (codes "group-list") a.attrs)) (sym (user_joins other b c e))
          (all_members_stay (user_name a) (user_name other) (values_of (codes "group-list") other.attrs) (values_of (codes "group-list") a.attrs) b.group names.account stands.members);
    }

-- The user's line in shadow is as it was.
record HasPassword (before books : Accounts) (a : Fields) : Type 0 where
  same : text_at books.shadow (user_name a) ≡ text_at before.shadow (user_name a)

passwords_on : (before : Accounts) (a : Fields) (b c : Accounts) (users : List Fields) → IsField (user_name a) → AllByRecursion (Joins (user_name a)) users → with_user a b ≡ Ok c → AllByRecursion (HasPassword before b) users → AllByRecursion (HasPassword before c) users
passwords_on before a b c [] plain others e all = tt
passwords_on before a b c (u ∷ users) plain others e all =
    let left = user_left a b c e in (
      record { same = ap (λ (l : List AccountLine). text_at l (user_name u)) left.shadow ∙ shadow_other (user_name u) a b.shadow (turned_apart (user_name a) (user_name u) others.0.apart) plain ∙ all.0.same },
      passwords_on before a b c users plain others.1 e all.1,
    )

users_stand : (before : Accounts) (users : List Fields) (books done : Accounts) → AllByRecursion (λ a. IsAccount (user_name a)) users → NamedOnce user_name users → AllByRecursion (HasPassword before books) users → each with_user users books ≡ Ok done
    → AllByRecursion (λ a. Stands before a done) users
users_stand before [] books done all once passwords e = tt
users_stand before (a ∷ users) books done all once passwords e =
    let one = bind_ok (with_user a books) (each with_user users) done e in
    let others = all_join (user_name a) users once.0 all.1 in (
      each_keeps (Joins (user_name a)) (Stands before a) with_user (λ other b c. stands_on before a other b c all.0) users one.0 done others (stands_first before a books one.0 all.0 passwords.0.same one.1) one.2,
      users_stand before users one.0 done all.1 once.1 (passwords_on before a books one.0 users all.0.field others one.1 passwords.1) one.2,
    )

-- ---- the group has a number

known_is : (o : Option ℕ) (gid : ℕ) → is_some o ≡ true → unwrap_or o 0 ≡ gid → o ≡ Some gid
known_is None gid some e = absurd (true≢false (sym some))
known_is (Some n) gid some e = ap (λ (n : ℕ). Some n) e

finish : (before done : Accounts) (users : List Fields) → AllByRecursion (λ a. Stands before a done) users → if_known users done ≡ Ok done → AllByRecursion (UserStands before done) users
finish before done [] all e = tt
finish before done (a ∷ users) all e = go (is_some (gid_of done.group a)) refl e (finish before done users all.1)
  where
    go : (t : Bool) → is_some (gid_of done.group a) ≡ t → cond t (if_known users done) (Err (UnknownGroup (value_of (codes "group") a))) ≡ Ok done → (if_known users done ≡ Ok done → AllByRecursion (UserStands before done) users) → AllByRecursion (UserStands before done) (a ∷ users)
    go true some e later =
        let stands = all.0 in (
          record {
            uid = stands.uid;
            gid = stands.gid;
            line = stands.line;
            given = stands.given;
            alone = stands.alone;
            group = known_is (gid_of done.group a) stands.gid some stands.group;
            password = stands.password;
            members = stands.members;
          },
          later e,
        )
    go false some e later = absurd (err_no (UnknownGroup (value_of (codes "group") a)) done e)

-- ---- what stood in shadow

text_without : (gone : List ℕ → Bool) (name : List ℕ) (lines : List AccountLine) → gone name ≡ false → text_at (without gone lines) name ≡ text_at lines name
text_without gone name [] stays = refl
text_without gone name (x ∷ lines) there = go (is_of name x) refl (text_without gone name lines there)
  where
    own : is_of name x ≡ true → stays gone x ≡ true
    own of =
        let first = same_true name (field 0 x) (and_parts (not (is_kept x)) (is_same name (field 0 x)) of).1 in
        ap (λ (g : Bool). is_kept x || not g) (ap gone (sym first) ∙ there) ∙ or_true (is_kept x)

    behind : (s : Bool) → is_of name x ≡ false → text_at (without gone lines) name ≡ text_at lines name → text_at (cond s (x ∷ without gone lines) (without gone lines)) name ≡ text_at lines name
    behind true of rest = ap (λ (t : Bool). option_map (λ (l : AccountLine). l.text) (cond t (Some x) (find (is_of name) (without gone lines)))) of ∙ rest
    behind false of rest = rest

    go : (t : Bool) → is_of name x ≡ t → text_at (without gone lines) name ≡ text_at lines name → text_at (without gone (x ∷ lines)) name ≡ option_map (λ (l : AccountLine). l.text) (cond t (Some x) (find (is_of name) lines))
    go true of rest =
        ap (λ (s : Bool). text_at (cond s (x ∷ without gone lines) (without gone lines)) name) (own of)
        ∙ ap (λ (t : Bool). option_map (λ (l : AccountLine). l.text) (cond t (Some x) (find (is_of name) (without gone lines)))) of
    go false of rest = behind (stays gone x) of rest

passwords_stand : (before books : Accounts) (old new users : List Fields) → books.shadow ≡ without (is_gone_user old new) before.shadow → AllByRecursion (λ a. is_named_in user_name (users_in new) (user_name a) ≡ true) users → AllByRecursion (HasPassword before books) users
passwords_stand before books old new [] is all = tt
passwords_stand before books old new (a ∷ users) is all = (
  record {
    same = ap (λ (l : List AccountLine). text_at l (user_name a)) is
        ∙ text_without (is_gone_user old new) (user_name a) before.shadow (ap (λ (t : Bool). is_named_in user_name (users_in old) (user_name a) && not t) all.0 ∙ and_false (is_named_in user_name (users_in old) (user_name a)));
  },
  passwords_stand before books old new users is all.1,
)

pub new_stand : (before after : Accounts) (old new : List Fields) → AllByRecursion (λ a. IsAccount (user_name a)) (users_in new) → NamedOnce user_name (fresh_users old new) → edited_books before old new ≡ Ok after → AllByRecursion (UserStands before after) (fresh_users old new)
new_stand before after old new accounts once e =
    let users = fresh_users old new in
    let order = name_cmp user_name in
    let differ = is_fresh (users_in old) in
    let fresh = all_ordered (λ a. IsAccount (user_name a)) order (filter differ (users_in new)) (all_filtered (λ a. IsAccount (user_name a)) differ (users_in new) accounts) in
    let named = all_ordered (λ a. is_named_in user_name (users_in new) (user_name a) ≡ true) order (filter differ (users_in new)) (all_filtered (λ a. is_named_in user_name (users_in new) (user_name a) ≡ true) differ (users_in new) (all_named (users_in new))) in
    let first = bind_ok (each with_group (fresh_groups old new) (after_gone old new before)) (λ grouped. each with_user users grouped >>= if_known users) after e in
    let second = bind_ok (each with_user users first.0) (if_known users) after first.2 in
    let shadow = each_keeps (λ a. Unit {0}) (λ (x : Accounts). x.shadow ≡ (after_gone old new before).shadow) with_group (λ a b c p q s. (group_keeps a b c s).1 ∙ q) (fresh_groups old new) (after_gone old new before) first.0 (all_units (fresh_groups old new)) refl first.1 in
    let stand = users_stand before users first.0 second.0 fresh once (passwords_stand before first.0 old new users shadow named) second.1 in
    let same = known_keeps users second.0 after second.2 in
    subst (λ (books : Accounts). AllByRecursion (UserStands before books) users) same (finish before second.0 users stand (second.2 ∙ ap (λ (x : Accounts). let r : Result Accounts AccountFault = Ok x in r) (sym same)))
