-- Gone names stay away.
use Rattle.std.proofs.Common.{◌≡◌, ℕ, Bool, true, false, cond, not, ◌&&◌, ◌||◌, eqb, List, [], ◌∷◌, ◌++◌, filter, Some, None, Result, Ok, Err, is_err, is_some, unwrap_or, slice_get, refl, sym, ap, subst, ◌∙◌}
use Rattle.std.specs.List.{slice_split, onto_first, list_any, find, AllByRecursion}
use Rattle.std.specs.declared.cmp.Ordering.{Ordering}
use Rattle.std.specs.Fmt.{decimal}
use Rattle.std.proofs.lemmas.Bool.{or_parts, and_parts, true≢false}
use Rattle.ips_text.specs.Reading.{◌>>=◌}
use Rattle.ips_text.proofs.Lists.{all_append}
use lib.Chars.{codes}
use Rattle.ips_action.proofs.KeyOrder.{same_true}
use Rattle.ips_action.specs.Attrs.{is_same, values_of}
use Rattle.ips_action.specs.Action.{Fields}
use Rattle.ips_conflict.specs.Key.{value_of}
use Rattle.ips_action.specs.Check.{IsField}
use Rattle.ips_books.specs.declared.fault.AccountFault.{AccountFault}
use Rattle.ips_books.specs.declared.fault.AccountFault.TheVariants.{UnknownGroup}
use Rattle.ips_books.specs.Lines.{AccountLine, last_ended}
use Rattle.ips_books.specs.Accounts.{is_kept, is_of, field, fields_text, line_at, Accounts}
use Rattle.ips_accounts.specs.Laws.{is_gone_user}
use Rattle.ips_books.specs.Writing.{at_first, rewritten, added, with_line}
use Rattle.ips_turnover.proofs.Sorting.{all_placed}
use Rattle.ips_turnover.specs.Turnover.{by_place, ordered, ordered_with, without, user_name, group_name, number_given, users_in, name_cmp, is_fresh, fresh_groups, fresh_users, after_gone, is_named_in}
use Rattle.ips_accounts.specs.Editing.{with_group, with_user, with_shadow, in_groups, number_for, gid_of, passwd_text, shadow_text, edited_books, standing_members, if_known, each}

-- ---- lists of actions

all_ordered_with : (P : Fields → Type 0) (cmp : Fields → Fields → Ordering) (actions sorted : List Fields) → AllByRecursion P actions → AllByRecursion P sorted → AllByRecursion P (ordered_with cmp actions sorted)
all_ordered_with P cmp [] sorted all done = done
all_ordered_with P cmp (a ∷ actions) sorted all done = all_ordered_with P cmp actions (by_place cmp a sorted) all.1 (all_placed P cmp a sorted all.0 done)

pub all_ordered : (P : Fields → Type 0) (cmp : Fields → Fields → Ordering) (actions : List Fields) → AllByRecursion P actions → AllByRecursion P (ordered cmp actions)
all_ordered P cmp actions all = all_ordered_with P cmp actions [] all tt

pub all_filtered : {A : Type 0} (P : A → Type 0) (test : A → Bool) (actions : List A) → AllByRecursion P actions → AllByRecursion P (filter test actions)
all_filtered P test [] all = all
all_filtered {A} P test (a ∷ actions) all = go (test a) (all_filtered P test actions all.1)
  where
    go : (t : Bool) → AllByRecursion P (filter test actions) → AllByRecursion P (cond t (a ∷ filter test actions) (filter test actions))
    go true rest = (all.0, rest)
    go false rest = rest

-- The action names another, by a name without `:`.
pub record NamesOther (name : List ℕ) (a : Fields) : Type 0 where
  pub apart : is_same name (user_name a) ≡ false
  pub plain : IsField (user_name a)

pub name_others : (name : List ℕ) (actions : List Fields) → is_named_in user_name actions name ≡ false → AllByRecursion (λ a. IsField (user_name a)) actions → AllByRecursion (NamesOther name) actions
name_others name [] e all = tt
name_others name (a ∷ actions) e all =
    let parts = or_parts (is_same name (user_name a)) (is_named_in user_name actions name) e in
    (record { apart = parts.0; plain = all.0 }, name_others name actions parts.1 all.1)

-- ---- lines

-- No line speaks of the name.
abbrev pub Lacks : List ℕ → List AccountLine → Type 0
Lacks name lines = AllByRecursion (λ line. is_of name line ≡ false) lines

pub none_at : (name : List ℕ) (lines : List AccountLine) → Lacks name lines → line_at lines name ≡ None
none_at name [] lacks = refl
none_at name (line ∷ lines) lacks = ap (λ (t : Bool). cond t (Some line) (find (is_of name) lines)) lacks.0 ∙ none_at name lines lacks.1

pub split_at : (front behind : List ℕ) → IsField front → slice_split (λ b. eqb b 58) (front ++ 58 ∷ behind) ≡ front ∷ slice_split (λ b. eqb b 58) behind
split_at [] behind e = refl
split_at (b ∷ front) behind e =
    let parts = or_parts (eqb b 58) (list_any (λ b. eqb b 58) front) e in
    ap (λ (t : Bool). cond t ([] ∷ slice_split (λ b. eqb b 58) (front ++ 58 ∷ behind)) (onto_first b (slice_split (λ b. eqb b 58) (front ++ 58 ∷ behind)))) parts.0
    ∙ ap (onto_first b) (split_at front behind parts.1)

-- The first field of a line that is written is the name.
pub written_name : (name text behind : List ℕ) (e : Bool) → IsField name → text ≡ name ++ 58 ∷ behind → field 0 (record { text = text; ended = e }) ≡ name
written_name name text behind e plain is =
    ap (λ (t : List ℕ). unwrap_or (slice_get (slice_split (λ b. eqb b 58) t) 0) []) is
    ∙ ap (λ (parts : List (List ℕ)). unwrap_or (slice_get parts 0) []) (split_at name behind plain)

pub and_false : (b : Bool) → (b && false) ≡ false
and_false true = refl
and_false false = refl

pub not_of : (name : List ℕ) (line : AccountLine) (first : List ℕ) → field 0 line ≡ first → is_same name first ≡ false → is_of name line ≡ false
not_of name line first e apart =
    ap (λ (f : List ℕ). not (is_kept line) && is_same name f) e
    ∙ ap (λ (t : Bool). not (is_kept line) && t) apart
    ∙ and_false (not (is_kept line))

-- a line that speaks of a name speaks of no other
pub apart_line : (name other : List ℕ) (line : AccountLine) → is_same name other ≡ false → is_of other line ≡ true → is_of name line ≡ false
apart_line name other line apart of =
    let parts = and_parts (not (is_kept line)) (is_same other (field 0 line)) of in
    not_of name line other (sym (same_true other (field 0 line) parts.1)) apart

lacks_ended : (name : List ℕ) (lines : List AccountLine) → Lacks name lines → Lacks name (last_ended lines)
lacks_ended name [] lacks = tt
lacks_ended name (line ∷ []) lacks = (lacks.0, tt)
lacks_ended name (line ∷ next ∷ lines) lacks = (lacks.0, lacks_ended name (next ∷ lines) lacks.1)

lacks_added : (name text : List ℕ) (lines : List AccountLine) → is_of name (record { text = text; ended = true }) ≡ false → Lacks name lines → Lacks name (added text lines)
lacks_added name text lines new lacks = all_append (λ line. is_of name line ≡ false) (last_ended lines) (record { text = text; ended = true } ∷ []) (lacks_ended name lines lacks) (new, tt)

lacks_first : (name text : List ℕ) (test : AccountLine → Bool) (lines : List AccountLine) → ((e : Bool) → is_of name (record { text = text; ended = e }) ≡ false) → Lacks name lines → Lacks name (at_first test (rewritten text) lines)
lacks_first name text test [] new lacks = tt
lacks_first name text test (line ∷ lines) new lacks = go (test line) (lacks_first name text test lines new lacks.1)
  where
    go : (t : Bool) → Lacks name (at_first test (rewritten text) lines) → Lacks name (cond t (rewritten text line ∷ lines) (line ∷ at_first test (rewritten text) lines))
    go true rest = (new line.ended, lacks.1)
    go false rest = (lacks.0, rest)

pub lacks_put : (name other text : List ℕ) (lines : List AccountLine) → ((e : Bool) → is_of name (record { text = text; ended = e }) ≡ false) → Lacks name lines → Lacks name (with_line other text lines)
lacks_put name other text lines new lacks = go (list_any (is_of other) lines)
  where
    go : (t : Bool) → Lacks name (cond t (at_first (is_of other) (rewritten text) lines) (added text lines))
    go true = lacks_first name text (is_of other) lines new lacks
    go false = lacks_added name text lines (new true) lacks

-- Lines of a gone name go.
pub lacks_without : (gone : List ℕ → Bool) (name : List ℕ) (lines : List AccountLine) → gone name ≡ true → Lacks name (without gone lines)
lacks_without gone name [] e = tt
lacks_without gone name (line ∷ lines) e = go (is_kept line) (gone (field 0 line)) (is_same name (field 0 line)) refl refl refl (lacks_without gone name lines e)
  where
    go : (k g s : Bool) → is_kept line ≡ k → gone (field 0 line) ≡ g → is_same name (field 0 line) ≡ s → Lacks name (without gone lines) → Lacks name (cond (k || not g) (line ∷ without gone lines) (without gone lines))
    go true g s ke ge se rest = (ap (λ (t : Bool). not t && is_same name (field 0 line)) ke, rest)
    go false true s ke ge se rest = rest
    go false false true ke ge se rest = absurd (true≢false (sym e ∙ ap gone (same_true name (field 0 line) se) ∙ ge))
    go false false false ke ge se rest = (not_of name line (field 0 line) refl se, rest)

-- ---- users that are written

-- The files that a user leaves lack the name in passwd and shadow.
pub record BothLack (name : List ℕ) (books : Accounts) : Type 0 where
  pub passwd : Lacks name books.passwd
  pub shadow : Lacks name books.shadow

pub ok_value : (x y : Accounts) → ◌≡◌ {A = Result Accounts AccountFault} (Ok x) (Ok y) → x ≡ y
ok_value x y e = cc

pub err_no : (f : AccountFault) (y : Accounts) → ◌≡◌ {A = Result Accounts AccountFault} (Err f) (Ok y) → ⊥
err_no f y e = true≢false (ap is_err e)

lacks_user : (name : List ℕ) (a : Fields) (uid gid : ℕ) (lines : List AccountLine) → NamesOther name a → Lacks name lines → Lacks name (with_line (user_name a) (passwd_text a uid gid) lines)
lacks_user name a uid gid lines other lacks = lacks_put name (user_name a) (passwd_text a uid gid) lines (λ e.
    not_of name (record { text = passwd_text a uid gid; ended = e }) (user_name a) (written_name (user_name a) (passwd_text a uid gid) _ e other.plain refl) other.apart) lacks

lacks_shadow : (name : List ℕ) (a : Fields) (lines : List AccountLine) → NamesOther name a → Lacks name lines → Lacks name (with_shadow a lines)
lacks_shadow name a lines other lacks = go (list_any (is_of (user_name a)) lines) (not_of name (record { text = shadow_text a; ended = true }) (user_name a) (written_name (user_name a) (shadow_text a) _ true other.plain refl) other.apart)
  where
    go : (t : Bool) → is_of name (record { text = shadow_text a; ended = true }) ≡ false → Lacks name (cond t lines (added (shadow_text a) lines))
    go true new = lacks
    go false new = lacks_added name (shadow_text a) lines new lacks

-- Each user in turn leaves it so.
pub users_lack : (name : List ℕ) (users : List Fields) (books after : Accounts) → AllByRecursion (NamesOther name) users → BothLack name books → each with_user users books ≡ Ok after → BothLack name after
users_lack name [] books after others lack e = subst (BothLack name) (ok_value books after e) lack
users_lack name (a ∷ users) books after others lack e = go (number_for books.passwd (user_name a) (number_given (codes "uid") a)) (λ next. users_lack name users next after others.1) e
  where
    go : (r : Result ℕ AccountFault) → ((b : Accounts) → BothLack name b → each with_user users b ≡ Ok after → BothLack name after)
        → ((r >>= λ uid. Ok (record {
          passwd = with_line (user_name a) (passwd_text a uid (unwrap_or (gid_of books.group a) 0)) books.passwd;
          shadow = with_shadow a books.shadow;
          group = in_groups (user_name a) (values_of (codes "group-list") a.attrs) books.group;
        })) >>= each with_user users) ≡ Ok after → BothLack name after
    go (Ok uid) later e = later (record {
      passwd = with_line (user_name a) (passwd_text a uid (unwrap_or (gid_of books.group a) 0)) books.passwd;
      shadow = with_shadow a books.shadow;
      group = in_groups (user_name a) (values_of (codes "group-list") a.attrs) books.group;
    }) (record { passwd = lacks_user name a uid (unwrap_or (gid_of books.group a) 0) books.passwd others.0 lack.passwd; shadow = lacks_shadow name a books.shadow others.0 lack.shadow }) e
    go (Err f) later e = absurd (err_no f after e)

-- Groups leave passwd and shadow as they are.
pub groups_lack : (name : List ℕ) (groups : List Fields) (books after : Accounts) → BothLack name books → each with_group groups books ≡ Ok after → BothLack name after
groups_lack name [] books after lack e = subst (BothLack name) (ok_value books after e) lack
groups_lack name (a ∷ groups) books after lack e = go (number_for books.group (group_name a) (number_given (codes "gid") a)) (λ next. groups_lack name groups next after) e
  where
    go : (r : Result ℕ AccountFault) → ((b : Accounts) → BothLack name b → each with_group groups b ≡ Ok after → BothLack name after)
        → ((r >>= λ gid. Ok (record { passwd = books.passwd; shadow = books.shadow; group = with_line (group_name a) (fields_text (group_name a ∷ [] ∷ decimal gid ∷ standing_members books.group (group_name a) ∷ [])) books.group })) >>= each with_group groups) ≡ Ok after → BothLack name after
    go (Ok gid) later e = later (record { passwd = books.passwd; shadow = books.shadow; group = with_line (group_name a) (fields_text (group_name a ∷ [] ∷ decimal gid ∷ standing_members books.group (group_name a) ∷ [])) books.group }) (record { passwd = lack.passwd; shadow = lack.shadow }) e
    go (Err f) later e = absurd (err_no f after e)

known_lack : (name : List ℕ) (users : List Fields) (books after : Accounts) → BothLack name books → if_known users books ≡ Ok after → BothLack name after
known_lack name [] books after lack e = subst (BothLack name) (ok_value books after e) lack
known_lack name (a ∷ users) books after lack e = go (is_some (gid_of books.group a)) (known_lack name users books after lack) e
  where
    go : (t : Bool) → (if_known users books ≡ Ok after → BothLack name after) → cond t (if_known users books) (Err (UnknownGroup (value_of (codes "group") a))) ≡ Ok after → BothLack name after
    go true later e = later e
    go false later e = absurd (err_no (UnknownGroup (value_of (codes "group") a)) after e)

pub bind_ok : (r : Result Accounts AccountFault) (f : Accounts → Result Accounts AccountFault) (y : Accounts) → r >>= f ≡ Ok y → (x : Accounts) × (r ≡ Ok x) × (f x ≡ Ok y)
bind_ok (Ok x) f y e = (x, refl, e)
bind_ok (Err d) f y e = absurd (err_no d y e)

pub not_there : (s t : Bool) → (s && not t) ≡ true → t ≡ false
not_there s false e = refl
not_there true true e = sym e
not_there false true e = sym e

-- An edit leaves no line of a gone user.
pub gone_users : (before after : Accounts) (old new : List Fields) (name : List ℕ) → AllByRecursion (λ a. IsField (user_name a)) (users_in new) → is_gone_user old new name ≡ true → edited_books before old new ≡ Ok after
    → (line_at after.passwd name ≡ None) × (line_at after.shadow name ≡ None)
gone_users before after old new name plain gone e =
    let start : BothLack name (after_gone old new before) = record {
      passwd = lacks_without (is_gone_user old new) name before.passwd gone;
      shadow = lacks_without (is_gone_user old new) name before.shadow gone;
    } in
    let absent = not_there (is_named_in user_name (users_in old) name) (is_named_in user_name (users_in new) name) gone in
    let others = all_ordered (NamesOther name) (name_cmp user_name) (filter (is_fresh (users_in old)) (users_in new)) (all_filtered (NamesOther name) (is_fresh (users_in old)) (users_in new) (name_others name (users_in new) absent plain)) in
    let first = bind_ok (each with_group (fresh_groups old new) (after_gone old new before)) (λ grouped. each with_user (fresh_users old new) grouped >>= if_known (fresh_users old new)) after e in
    let second = bind_ok (each with_user (fresh_users old new) first.0) (if_known (fresh_users old new)) after first.2 in
    let grouped = groups_lack name (fresh_groups old new) (after_gone old new before) first.0 start first.1 in
    let done = users_lack name (fresh_users old new) first.0 second.0 others grouped second.1 in
    let last = known_lack name (fresh_users old new) second.0 after done second.2 in
    (none_at name after.passwd last.passwd, none_at name after.shadow last.shadow)
