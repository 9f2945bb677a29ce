-- Lines of passwd that an edit isn't about stay.
use Rattle.std.proofs.Common.{◌≡◌, ℕ, ◌<◌, Bool, true, false, cond, not, ◌||◌, List, [], ◌∷◌, ◌++◌, map, filter, length, Result, Ok, Err, is_some, unwrap_or, refl, sym, ap, subst, ◌∙◌, arith}
use lib.Chars.{codes}
use Rattle.std.specs.List.{list_any, AllByRecursion}
use Rattle.std.specs.Fmt.{decimal}
use Rattle.std.proofs.lemmas.Bool.{and_parts}
use Rattle.std.proofs.lemmas.Cmp.{nat_list_eq_equiv}
use Rattle.ips_text.specs.Reading.{◌>>=◌}
use Rattle.ips_text.proofs.Truths.{or_true, not_true}
use Rattle.ips_action.proofs.KeyOrder.{same_true}
use Rattle.ips_action.specs.Attrs.{is_same, values_of}
use Rattle.ips_action.specs.Check.{IsAccount, begins_with_mark}
use Rattle.ips_action.specs.Action.{Fields}
use Rattle.ips_conflict.specs.Key.{value_of}
use Rattle.ips_books.specs.declared.fault.AccountFault.{AccountFault}
use Rattle.ips_books.specs.declared.fault.AccountFault.TheVariants.{UnknownGroup}
use Rattle.ips_books.specs.Lines.{AccountLine, ended}
use Rattle.ips_books.specs.Accounts.{is_kept, is_of, field, fields_text, Accounts}
use Rattle.ips_books.specs.Writing.{at_first, rewritten, added, with_line}
use Rattle.ips_turnover.specs.Turnover.{without, user_name, group_name, users_in, name_cmp, is_fresh, fresh_groups, fresh_users, after_gone, number_given, is_named_in}
use Rattle.ips_accounts.specs.Editing.{edited_books, standing_members, if_known, with_group, with_user, with_shadow, in_groups, number_for, gid_of, passwd_text, shadow_text, each}
use Rattle.ips_accounts.specs.Laws.{is_gone_user, is_other_user, bytes_of, UsersStay}
use Rattle.ips_accounts.proofs.Lacking.{bind_ok, err_no, ok_value, written_name, all_ordered, all_filtered}
use Rattle.ips_books.proofs.Written.{later}

-- The bytes of a list with one more line in front, by whether that passes.
in_front : (passes : AccountLine → Bool) (line : AccountLine) (one two : List AccountLine) → bytes_of passes one ≡ bytes_of passes two → bytes_of passes (line ∷ one) ≡ bytes_of passes (line ∷ two)
in_front passes line one two e = go (passes line)
  where
    go : (t : Bool) → map (λ (l : AccountLine). l.text) (cond t (line ∷ filter passes one) (filter passes one)) ≡ map (λ (l : AccountLine). l.text) (cond t (line ∷ filter passes two) (filter passes two))
    go true = ap (λ (texts : List (List ℕ)). line.text ∷ texts) e
    go false = e

left_out : (passes : AccountLine → Bool) (line : AccountLine) (lines : List AccountLine) → passes line ≡ false → bytes_of passes (line ∷ lines) ≡ bytes_of passes lines
left_out passes line lines e = ap (λ (t : Bool). map (λ (l : AccountLine). l.text) (cond t (line ∷ filter passes lines) (filter passes lines))) e

-- Whether a line passes doesn't hang on its newline.
abbrev pub IgnoresEnds : (AccountLine → Bool) → Type 0
IgnoresEnds passes = (line : AccountLine) → passes (ended line) ≡ passes line

pub stay_added : (passes : AccountLine → Bool) (text : List ℕ) (lines : List AccountLine) → IgnoresEnds passes → passes (record { text = text; ended = true }) ≡ false → bytes_of passes (added text lines) ≡ bytes_of passes lines
stay_added passes text [] ends e = left_out passes (record { text = text; ended = true }) [] e
stay_added passes text (line ∷ []) ends e =
    ap (λ (t : Bool). map (λ (l : AccountLine). l.text) (cond t (ended line ∷ filter passes (record { text = text; ended = true } ∷ [])) (filter passes (record { text = text; ended = true } ∷ [])))) (ends line)
    ∙ go (passes line) (left_out passes (record { text = text; ended = true }) [] e)
  where
    go : (t : Bool) → bytes_of passes (record { text = text; ended = true } ∷ []) ≡ []
        → map (λ (l : AccountLine). l.text) (cond t (ended line ∷ filter passes (record { text = text; ended = true } ∷ [])) (filter passes (record { text = text; ended = true } ∷ []))) ≡ map (λ (l : AccountLine). l.text) (cond t (line ∷ []) [])
    go true rest = ap (λ (texts : List (List ℕ)). line.text ∷ texts) rest
    go false rest = rest
stay_added passes text (line ∷ next ∷ lines) ends e = in_front passes line (added text (next ∷ lines)) (next ∷ lines) (stay_added passes text (next ∷ lines) ends e)

pub stay_changed : (passes test : AccountLine → Bool) (change : AccountLine → AccountLine) (lines : List AccountLine) → ((line : AccountLine) → test line ≡ true → passes (change line) ≡ false) → ((line : AccountLine) → test line ≡ true → passes line ≡ false) → bytes_of passes (at_first test change lines) ≡ bytes_of passes lines
stay_changed passes test change [] new old = refl
stay_changed passes test change (line ∷ lines) new old = go (test line) refl (stay_changed passes test change lines new old)
  where
    go : (t : Bool) → test line ≡ t → bytes_of passes (at_first test change lines) ≡ bytes_of passes lines → bytes_of passes (cond t (change line ∷ lines) (line ∷ at_first test change lines)) ≡ bytes_of passes (line ∷ lines)
    go true e rest = left_out passes (change line) lines (new line e) ∙ sym (left_out passes line lines (old line e))
    go false e rest = in_front passes line (at_first test change lines) lines rest

pub stay_put : (passes : AccountLine → Bool) (name text : List ℕ) (lines : List AccountLine) → IgnoresEnds passes → ((e : Bool) → passes (record { text = text; ended = e }) ≡ false) → ((line : AccountLine) → is_of name line ≡ true → passes line ≡ false) → bytes_of passes (with_line name text lines) ≡ bytes_of passes lines
stay_put passes name text lines ends fresh standing = go (list_any (is_of name) lines)
  where
    go : (t : Bool) → bytes_of passes (cond t (at_first (is_of name) (rewritten text) lines) (added text lines)) ≡ bytes_of passes lines
    go true = stay_changed passes (is_of name) (rewritten text) lines (λ line of. fresh line.ended) standing
    go false = stay_added passes text lines ends (fresh true)

-- What goes with gone names is no other line.
pub stay_without : (passes : AccountLine → Bool) (gone : List ℕ → Bool) (lines : List AccountLine) → ((line : AccountLine) → is_kept line ≡ false → gone (field 0 line) ≡ true → passes line ≡ false) → bytes_of passes (without gone lines) ≡ bytes_of passes lines
stay_without passes gone [] goes = refl
stay_without passes gone (line ∷ lines) goes = go (is_kept line) (gone (field 0 line)) refl refl (stay_without passes gone lines goes)
  where
    go : (k g : Bool) → is_kept line ≡ k → gone (field 0 line) ≡ g → bytes_of passes (without gone lines) ≡ bytes_of passes lines → bytes_of passes (cond (k || not g) (line ∷ without gone lines) (without gone lines)) ≡ bytes_of passes (line ∷ lines)
    go true g ke ge rest = in_front passes line (without gone lines) lines rest
    go false false ke ge rest = in_front passes line (without gone lines) lines rest
    go false true ke ge rest = rest ∙ sym (left_out passes line lines (goes line ke ge))

gone_no_other : (old new : List Fields) (line : AccountLine) → is_kept line ≡ false → is_gone_user old new (field 0 line) ≡ true → is_other_user old new line ≡ false
gone_no_other old new line ke ge =
    ap (λ (t : Bool). t || not (is_gone_user old new (field 0 line) || is_named_in user_name (fresh_users old new) (field 0 line))) ke
    ∙ ap (λ (t : Bool). not (t || is_named_in user_name (fresh_users old new) (field 0 line))) ge

-- ---- users that are written

-- The user has a name that can be written, and is one of those that are.
pub record Writes (users : List Fields) (a : Fields) : Type 0 where
  pub account : IsAccount (user_name a)
  pub named : is_named_in user_name users (user_name a) ≡ true

pub not_kept : (name behind : List ℕ) (e : Bool) → IsAccount name → is_kept (record { text = name ++ 58 ∷ behind; ended = e }) ≡ false
not_kept [] behind e account = absurd (none account.some)
  where
    none : 0 < 0 → ⊥
    none lt = omega (arith, lt)
not_kept (b ∷ name) behind e account = ap (λ (t : Bool). t || begins_with_mark (b ∷ name)) (later (length (name ++ 58 ∷ behind))) ∙ account.unmarked

-- A line that isn't kept and has the name of a user that is written is no other line.
no_other : (old new : List Fields) (line : AccountLine) (name : List ℕ) → is_kept line ≡ false → field 0 line ≡ name → is_named_in user_name (fresh_users old new) name ≡ true → is_other_user old new line ≡ false
no_other old new line name kept first named =
    ap (λ (t : Bool). t || not (is_gone_user old new (field 0 line) || is_named_in user_name (fresh_users old new) (field 0 line))) kept
    ∙ ap (λ (f : List ℕ). not (is_gone_user old new f || is_named_in user_name (fresh_users old new) f)) first
    ∙ ap (λ (t : Bool). not (is_gone_user old new name || t)) named
    ∙ ap not (or_true (is_gone_user old new name))

standing_no_other : (old new : List Fields) (line : AccountLine) (name : List ℕ) → is_named_in user_name (fresh_users old new) name ≡ true → is_of name line ≡ true → is_other_user old new line ≡ false
standing_no_other old new line name named of =
    let parts = and_parts (not (is_kept line)) (is_same name (field 0 line)) of in
    no_other old new line name (not_true (is_kept line) parts.0) (sym (same_true name (field 0 line) parts.1)) named

pub user_stays : (old new : List Fields) (a : Fields) (uid gid : ℕ) (lines : List AccountLine) → Writes (fresh_users old new) a → bytes_of (is_other_user old new) (with_line (user_name a) (passwd_text a uid gid) lines) ≡ bytes_of (is_other_user old new) lines
user_stays old new a uid gid lines writes = stay_put (is_other_user old new) (user_name a) (passwd_text a uid gid) lines (λ line. refl)
    (λ e. no_other old new (record { text = passwd_text a uid gid; ended = e }) (user_name a) (not_kept (user_name a) _ e writes.account) (written_name (user_name a) (passwd_text a uid gid) _ e writes.account.field refl) writes.named)
    (λ line of. standing_no_other old new line (user_name a) writes.named of)

-- ---- the whole

-- Each step keeps what it should.
pub each_keeps : (P : Fields → Type 0) (Q : Accounts → Type 0) (step : Fields → Accounts → Result Accounts AccountFault) → ((a : Fields) (b c : Accounts) → P a → Q b → step a b ≡ Ok c → Q c)
    → (actions : List Fields) (books after : Accounts) → AllByRecursion P actions → Q books → each step actions books ≡ Ok after → Q after
each_keeps P Q step keeps [] books after all q e = subst Q (ok_value books after e) q
each_keeps P Q step keeps (a ∷ actions) books after all q e =
    let one = bind_ok (step a books) (each step actions) after e in
    each_keeps P Q step keeps actions one.0 after all.1 (keeps a books one.0 all.0 q one.1) one.2

pub all_units : (actions : List Fields) → AllByRecursion (λ (a : Fields). Unit {0}) actions
all_units [] = tt
all_units (a ∷ actions) = (tt, all_units actions)

pub group_keeps : (a : Fields) (b c : Accounts) → with_group a b ≡ Ok c → (c.passwd ≡ b.passwd) × (c.shadow ≡ b.shadow)
group_keeps a b c e = go (number_for b.group (group_name a) (number_given (codes "gid") a)) e
  where
    go : (r : Result ℕ AccountFault) → (r >>= λ gid. Ok (record { passwd = b.passwd; shadow = b.shadow; group = with_line (group_name a) (fields_text (group_name a ∷ [] ∷ decimal gid ∷ standing_members b.group (group_name a) ∷ [])) b.group })) ≡ Ok c → (c.passwd ≡ b.passwd) × (c.shadow ≡ b.shadow)
    go (Ok gid) e =
        let same = ok_value (record { passwd = b.passwd; shadow = b.shadow; group = with_line (group_name a) (fields_text (group_name a ∷ [] ∷ decimal gid ∷ standing_members b.group (group_name a) ∷ [])) b.group }) c e in
        (sym (ap (λ (x : Accounts). x.passwd) same), sym (ap (λ (x : Accounts). x.shadow) same))
    go (Err f) e = absurd (err_no f c e)

user_gives : (a : Fields) (b c : Accounts) → with_user a b ≡ Ok c → (uid : ℕ) × (c.passwd ≡ with_line (user_name a) (passwd_text a uid (unwrap_or (gid_of b.group a) 0)) b.passwd) × (c.shadow ≡ with_shadow a b.shadow)
user_gives a b c e = go (number_for b.passwd (user_name a) (number_given (codes "uid") a)) e
  where
    go : (r : Result ℕ AccountFault) → (r >>= λ uid. Ok (record {
      passwd = with_line (user_name a) (passwd_text a uid (unwrap_or (gid_of b.group a) 0)) b.passwd;
      shadow = with_shadow a b.shadow;
      group = in_groups (user_name a) (values_of (codes "group-list") a.attrs) b.group;
    })) ≡ Ok c → (uid : ℕ) × (c.passwd ≡ with_line (user_name a) (passwd_text a uid (unwrap_or (gid_of b.group a) 0)) b.passwd) × (c.shadow ≡ with_shadow a b.shadow)
    go (Ok uid) e =
        let same = ok_value (record {
          passwd = with_line (user_name a) (passwd_text a uid (unwrap_or (gid_of b.group a) 0)) b.passwd;
          shadow = with_shadow a b.shadow;
          group = in_groups (user_name a) (values_of (codes "group-list") a.attrs) b.group;
        }) c e in
        (uid, sym (ap (λ (x : Accounts). x.passwd) same), sym (ap (λ (x : Accounts). x.shadow) same))
    go (Err f) e = absurd (err_no f c e)

shadow_stays : (old new : List Fields) (a : Fields) (lines : List AccountLine) → Writes (fresh_users old new) a → bytes_of (is_other_user old new) (with_shadow a lines) ≡ bytes_of (is_other_user old new) lines
shadow_stays old new a lines writes = go (list_any (is_of (user_name a)) lines)
    (no_other old new (record { text = shadow_text a; ended = true }) (user_name a) (not_kept (user_name a) _ true writes.account) (written_name (user_name a) (shadow_text a) _ true writes.account.field refl) writes.named)
  where
    go : (t : Bool) → is_other_user old new (record { text = shadow_text a; ended = true }) ≡ false → bytes_of (is_other_user old new) (cond t lines (added (shadow_text a) lines)) ≡ bytes_of (is_other_user old new) lines
    go true e = refl
    go false e = stay_added (is_other_user old new) (shadow_text a) lines (λ line. refl) e

pub known_keeps : (users : List Fields) (books after : Accounts) → if_known users books ≡ Ok after → books ≡ after
known_keeps [] books after e = ok_value books after e
known_keeps (a ∷ users) books after e = go (is_some (gid_of books.group a)) (known_keeps users books after) e
  where
    go : (t : Bool) → (if_known users books ≡ Ok after → books ≡ after) → cond t (if_known users books) (Err (UnknownGroup (value_of (codes "group") a))) ≡ Ok after → books ≡ after
    go true later e = later e
    go false later e = absurd (err_no (UnknownGroup (value_of (codes "group") a)) after e)

-- Each user among these, with the name it has.
all_more : (first : Fields) (users actions : List Fields) → AllByRecursion (λ a. is_named_in user_name users (user_name a) ≡ true) actions → AllByRecursion (λ a. is_named_in user_name (first ∷ users) (user_name a) ≡ true) actions
all_more first users [] all = tt
all_more first users (a ∷ actions) all = (ap (λ (t : Bool). is_same (user_name a) (user_name first) || t) all.0 ∙ or_true (is_same (user_name a) (user_name first)), all_more first users actions all.1)

pub all_named : (users : List Fields) → AllByRecursion (λ a. is_named_in user_name users (user_name a) ≡ true) users
all_named [] = tt
all_named (a ∷ users) = (ap (λ (t : Bool). t || is_named_in user_name users (user_name a)) (nat_list_eq_equiv.refl (user_name a)), all_more a users users (all_named users))

all_write : (users actions : List Fields) → AllByRecursion (λ a. IsAccount (user_name a)) actions → AllByRecursion (λ a. is_named_in user_name users (user_name a) ≡ true) actions → AllByRecursion (Writes users) actions
all_write users [] accounts named = tt
all_write users (a ∷ actions) accounts named = (record { account = accounts.0; named = named.0 }, all_write users actions accounts.1 named.1)

pub users_stay : (before after : Accounts) (old new : List Fields) → AllByRecursion (λ a. IsAccount (user_name a)) (users_in new) → edited_books before old new ≡ Ok after → UsersStay old new before after
users_stay before after old new accounts e =
    let users = fresh_users old new in
    let kept = bytes_of (is_other_user old new) in
    let fresh = all_ordered (λ a. IsAccount (user_name a)) (name_cmp user_name) (filter (is_fresh (users_in old)) (users_in new)) (all_filtered (λ a. IsAccount (user_name a)) (is_fresh (users_in old)) (users_in new) accounts) in
    let writes = all_write users users fresh (all_named users) in
    let first = bind_ok (each with_group (fresh_groups old new) (after_gone old new before)) (λ grouped. each with_user users grouped >>= if_known users) after e in
    let second = bind_ok (each with_user users first.0) (if_known users) after first.2 in
    let start : UsersStay old new before (after_gone old new before) = record {
      passwd = stay_without (is_other_user old new) (is_gone_user old new) before.passwd (gone_no_other old new);
      shadow = stay_without (is_other_user old new) (is_gone_user old new) before.shadow (gone_no_other old new);
    } in
    let grouped = each_keeps (λ a. Unit {0}) (UsersStay old new before) with_group (λ a b c p q s.
    let same = group_keeps a b c s in record { passwd = ap kept same.0 ∙ q.passwd; shadow = ap kept same.1 ∙ q.shadow }) (fresh_groups old new) (after_gone old new before) first.0 (all_units (fresh_groups old new)) start first.1 in
    let done = each_keeps (Writes users) (UsersStay old new before) with_user (λ a b c p q s.
    let given = user_gives a b c s in
    record {
      passwd = ap kept given.1 ∙ user_stays old new a given.0 (unwrap_or (gid_of b.group a) 0) b.passwd p ∙ q.passwd;
      shadow = ap kept given.2 ∙ shadow_stays old new a b.shadow p ∙ q.shadow;
    }) users first.0 second.0 writes grouped second.1 in
    subst (UsersStay old new before) (known_keeps users second.0 after second.2) done
