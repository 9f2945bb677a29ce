-- Users that go leave all member lists.
use Rattle.std.proofs.Common.{◌≡◌, ℕ, zero, suc, ◌-◌, ◌^◌, ◌<◌, min, Bool, true, false, cond, not, ◌&&◌, ◌||◌, eqb, ltb, List, [], ◌∷◌, ◌++◌, filter, map, Option, Some, None, Result, Ok, Err, unwrap_or, slice_get, refl, sym, ap, subst, ◌∙◌, arith}
use lib.Chars.{codes}
use Rattle.std.specs.Char.{digit_value}
use Rattle.std.specs.Fmt.{decimal}
use Rattle.std.specs.Str.Parse.{AllDigits, digits_value}
use Rattle.std.specs.Option.{option_map, option_and_then}
use Rattle.std.specs.List.{slice_split, onto_first, list_any, find, join_with_byte, AllByRecursion}
use Rattle.std.proofs.lemmas.Bool.{or_parts, and_parts, eqb-true, ltb-true, true≢false}
use Rattle.std.proofs.lemmas.Fmt.{decimal_is_IsNumeral}
use Rattle.std.proofs.lemmas.Option.{cond_some}
use Rattle.std.proofs.lemmas.List.Folds.{list_any-append}
use Rattle.ips_text.specs.Path.{is_nothing}
use Rattle.ips_text.specs.Reading.{◌>>=◌}
use Rattle.ips_text.proofs.Lists.{all_append}
use Rattle.ips_text.proofs.Readers.{next_same}
use Rattle.ips_text.proofs.Truths.{not_true}
use Rattle.ips_action.specs.Attrs.{is_same, values_of}
use Rattle.ips_action.specs.Action.{Fields}
use Rattle.ips_action.specs.Check.{IsField, IsAccount}
use Rattle.ips_action.proofs.KeyOrder.{same_true, same_self}
use Rattle.ips_conflict.specs.Key.{first_value}
use Rattle.ips_books.specs.declared.fault.AccountFault.{AccountFault}
use Rattle.ips_books.specs.declared.fault.AccountFault.TheVariants.{IdTaken}
use Rattle.ips_books.specs.Lines.{AccountLine, last_ended}
use Rattle.ips_books.specs.Accounts.{is_kept, is_of, field, fields, fields_text, number_in, number_of, line_at, members_in, members_of, Accounts}
use Rattle.ips_books.specs.Writing.{at_first, rewritten, added, with_line, with_members, is_number_taken}
use Rattle.ips_turnover.specs.Turnover.{stays, left_by, user_name, group_name, users_in, groups_in, name_cmp, is_fresh, is_named_in, fresh_groups, fresh_users, after_gone, number_given}
use Rattle.ips_accounts.specs.Editing.{joined_by, in_groups, edited_books, number_for, free_number, free_from, wanted_number, group_text, standing_members, with_group, with_user, each, if_known}
use Rattle.ips_accounts.specs.Laws.{is_gone_user, is_gone_group, is_member}
use Rattle.ips_accounts.proofs.Lacking.{and_false, all_ordered, all_filtered, ok_value, err_no, bind_ok, not_there}
use Rattle.ips_accounts.proofs.Others.{each_keeps, known_keeps}
use Rattle.ips_accounts.proofs.GroupNames.{apart_of, user_joins}

-- ---- pieces between marks

-- The mark doesn't stand there.
abbrev Lacks : ℕ → List ℕ → Type 0
Lacks mark bytes = list_any (λ b. eqb b mark) bytes ≡ false

abbrev pieces : ℕ → List ℕ → List (List ℕ)
pieces mark bytes = slice_split (λ b. eqb b mark) bytes

cut_front : (mark : ℕ) (front behind : List ℕ) → Lacks mark front → pieces mark (front ++ mark ∷ behind) ≡ front ∷ pieces mark behind
cut_front mark [] behind e = ap (λ (t : Bool). cond t ([] ∷ pieces mark behind) (onto_first mark (pieces mark behind))) (next_same mark)
cut_front mark (b ∷ front) behind e =
    let parts = or_parts (eqb b mark) (list_any (λ b. eqb b mark) front) e in
    ap (λ (t : Bool). cond t ([] ∷ pieces mark (front ++ mark ∷ behind)) (onto_first b (pieces mark (front ++ mark ∷ behind)))) parts.0
    ∙ ap (onto_first b) (cut_front mark front behind parts.1)

pub cut_none : (mark : ℕ) (bytes : List ℕ) → Lacks mark bytes → pieces mark bytes ≡ bytes ∷ []
cut_none mark [] e = refl
cut_none mark (b ∷ bytes) e =
    let parts = or_parts (eqb b mark) (list_any (λ b. eqb b mark) bytes) e in
    ap (λ (t : Bool). cond t ([] ∷ pieces mark bytes) (onto_first b (pieces mark bytes))) parts.0 ∙ ap (onto_first b) (cut_none mark bytes parts.1)

pub pieces_back : (mark : ℕ) (x : List ℕ) (xs : List (List ℕ)) → AllByRecursion (Lacks mark) (x ∷ xs) → pieces mark (join_with_byte mark (x ∷ xs)) ≡ x ∷ xs
pieces_back mark x [] all = cut_none mark x all.0
pieces_back mark x (y ∷ xs) all = cut_front mark x (join_with_byte mark (y ∷ xs)) all.0 ∙ ap (λ (l : List (List ℕ)). x ∷ l) (pieces_back mark y xs all.1)

onto_lacks : (mark b : ℕ) (parts : List (List ℕ)) → eqb b mark ≡ false → AllByRecursion (Lacks mark) parts → AllByRecursion (Lacks mark) (onto_first b parts)
onto_lacks mark b [] e all = (ap (λ (t : Bool). t || false) e, tt)
onto_lacks mark b (p ∷ parts) e all = (ap (λ (t : Bool). t || list_any (λ b. eqb b mark) p) e ∙ all.0, all.1)

pieces_lack : (mark : ℕ) (bytes : List ℕ) → AllByRecursion (Lacks mark) (pieces mark bytes)
pieces_lack mark [] = (refl, tt)
pieces_lack mark (b ∷ bytes) = go (eqb b mark) refl (pieces_lack mark bytes)
  where
    go : (t : Bool) → eqb b mark ≡ t → AllByRecursion (Lacks mark) (pieces mark bytes) → AllByRecursion (Lacks mark) (cond t ([] ∷ pieces mark bytes) (onto_first b (pieces mark bytes)))
    go true e all = (refl, all)
    go false e all = onto_lacks mark b (pieces mark bytes) e all

pieces_keep : (mark other : ℕ) (bytes : List ℕ) → Lacks other bytes → AllByRecursion (Lacks other) (pieces mark bytes)
pieces_keep mark other [] e = (refl, tt)
pieces_keep mark other (b ∷ bytes) e =
    let parts = or_parts (eqb b other) (list_any (λ b. eqb b other) bytes) e in
    go (eqb b mark) parts.0 (pieces_keep mark other bytes parts.1)
  where
    go : (t : Bool) → eqb b other ≡ false → AllByRecursion (Lacks other) (pieces mark bytes) → AllByRecursion (Lacks other) (cond t ([] ∷ pieces mark bytes) (onto_first b (pieces mark bytes)))
    go true e all = (refl, all)
    go false e all = onto_lacks other b (pieces mark bytes) e all

pub joined_lack : (mark other : ℕ) (xs : List (List ℕ)) → eqb mark other ≡ false → AllByRecursion (Lacks other) xs → Lacks other (join_with_byte mark xs)
joined_lack mark other [] e all = refl
joined_lack mark other (x ∷ []) e all = all.0
joined_lack mark other (x ∷ y ∷ xs) e all =
    list_any-append (λ b. eqb b other) x (mark ∷ join_with_byte mark (y ∷ xs))
    ∙ ap (λ (t : Bool). t || (eqb mark other || list_any (λ b. eqb b other) (join_with_byte mark (y ∷ xs)))) all.0
    ∙ ap (λ (t : Bool). t || list_any (λ b. eqb b other) (join_with_byte mark (y ∷ xs))) e
    ∙ joined_lack mark other (y ∷ xs) e all.1

nth_lacks : (mark : ℕ) (parts : List (List ℕ)) (i : ℕ) → AllByRecursion (Lacks mark) parts → Lacks mark (unwrap_or (slice_get parts i) [])
nth_lacks mark [] i all = refl
nth_lacks mark (p ∷ parts) zero all = all.0
nth_lacks mark (p ∷ parts) (suc i) all = nth_lacks mark parts i all.1

field_lacks : (i : ℕ) (line : AccountLine) → Lacks 58 (field i line)
field_lacks i line = nth_lacks 58 (fields line) i (pieces_lack 58 line.text)

members_lack : (mark : ℕ) (bytes : List ℕ) → AllByRecursion (Lacks mark) (pieces 44 bytes) → AllByRecursion (Lacks mark) (members_in bytes)
members_lack mark bytes all = go (is_nothing bytes)
  where
    go : (t : Bool) → AllByRecursion (Lacks mark) (cond t [] (pieces 44 bytes))
    go true = tt
    go false = all

-- ---- who is in a list

abbrev has : List ℕ → List (List ℕ) → Bool
has name members = list_any (λ m. is_same m name) members

has_back : (name : List ℕ) (members : List (List ℕ)) → AllByRecursion (Lacks 44) members → has name members ≡ false → has name (members_in (join_with_byte 44 members)) ≡ false
has_back name [] all e = refl
has_back name (m ∷ members) all e = go (is_nothing (join_with_byte 44 (m ∷ members)))
  where
    go : (t : Bool) → has name (cond t [] (pieces 44 (join_with_byte 44 (m ∷ members)))) ≡ false
    go true = refl
    go false = ap (has name) (pieces_back 44 m members all) ∙ e

-- The line doesn't have the name among its members.
abbrev IsWithout : List ℕ → AccountLine → Type 0
IsWithout name line = (not (is_kept line) && has name (members_of line)) ≡ false

of_four : (name a b c d : List ℕ) (e : Bool) → Lacks 58 a → Lacks 58 b → Lacks 58 c → Lacks 58 d → has name (members_in d) ≡ false → IsWithout name (record { text = fields_text (a ∷ b ∷ c ∷ d ∷ []); ended = e })
of_four name a b c d e pa pb pc pd out =
    let line : AccountLine = record { text = fields_text (a ∷ b ∷ c ∷ d ∷ []); ended = e } in
    let last : field 3 line ≡ d = ap (λ (parts : List (List ℕ)). unwrap_or (slice_get parts 3) []) (pieces_back 58 a (b ∷ c ∷ d ∷ []) (pa, (pb, (pc, (pd, tt))))) in
    ap (λ (t : Bool). not (is_kept line) && t) (ap (λ (l : List ℕ). has name (members_in l)) last ∙ out) ∙ and_false (not (is_kept line))

with_out : (name : List ℕ) (members : List (List ℕ)) (line : AccountLine) → AllByRecursion (Lacks 44) members → AllByRecursion (Lacks 58) members → has name members ≡ false → IsWithout name (with_members members line)
with_out name members line commas colons out =
    of_four name (field 0 line) (field 1 line) (field 2 line) (join_with_byte 44 members) line.ended (field_lacks 0 line) (field_lacks 1 line) (field_lacks 2 line) (joined_lack 44 58 members refl colons) (has_back name members commas out)

pub commas_of : (line : AccountLine) → AllByRecursion (Lacks 44) (members_of line)
commas_of line = members_lack 44 (field 3 line) (pieces_lack 44 (field 3 line))

pub colons_of : (line : AccountLine) → AllByRecursion (Lacks 58) (members_of line)
colons_of line = members_lack 58 (field 3 line) (pieces_keep 44 58 (field 3 line) (field_lacks 3 line))

-- ---- gone names leave

no_same : (gone : List ℕ → Bool) (name m : List ℕ) → gone name ≡ true → gone m ≡ false → is_same m name ≡ false
no_same gone name m g e = go (is_same m name) refl
  where
    go : (t : Bool) → is_same m name ≡ t → t ≡ false
    go true is = absurd (true≢false (sym g ∙ ap gone (sym (same_true m name is)) ∙ e))
    go false is = refl

none_gone : (gone : List ℕ → Bool) (name : List ℕ) (members : List (List ℕ)) → gone name ≡ true → list_any gone members ≡ false → has name members ≡ false
none_gone gone name [] g e = refl
none_gone gone name (m ∷ members) g e =
    let parts = or_parts (gone m) (list_any gone members) e in
    ap (λ (t : Bool). t || has name members) (no_same gone name m g parts.0) ∙ none_gone gone name members g parts.1

none_left : (gone : List ℕ → Bool) (name : List ℕ) (members : List (List ℕ)) → gone name ≡ true → has name (filter (λ m. not (gone m)) members) ≡ false
none_left gone name [] g = refl
none_left gone name (m ∷ members) g = go (gone m) refl (none_left gone name members g)
  where
    go : (t : Bool) → gone m ≡ t → has name (filter (λ m. not (gone m)) members) ≡ false → has name (cond (not t) (m ∷ filter (λ m. not (gone m)) members) (filter (λ m. not (gone m)) members)) ≡ false
    go true e rest = rest
    go false e rest = ap (λ (t : Bool). t || has name (filter (λ m. not (gone m)) members)) (no_same gone name m g e) ∙ rest

left_without : (gone : List ℕ → Bool) (name : List ℕ) (line : AccountLine) → gone name ≡ true → IsWithout name (left_by gone line)
left_without gone name line g = go (is_kept line) (list_any gone (members_of line)) refl refl
  where
    go : (k a : Bool) → is_kept line ≡ k → list_any gone (members_of line) ≡ a → IsWithout name (cond (not k && a) (with_members (filter (λ m. not (gone m)) (members_of line)) line) line)
    go true a ke ae = ap (λ (t : Bool). not t && has name (members_of line)) ke
    go false true ke ae = with_out name (filter (λ m. not (gone m)) (members_of line)) line (all_filtered (Lacks 44) (λ m. not (gone m)) (members_of line) (commas_of line)) (all_filtered (Lacks 58) (λ m. not (gone m)) (members_of line) (colons_of line)) (none_left gone name (members_of line) g)
    go false false ke ae = ap (λ (t : Bool). not (is_kept line) && t) (none_gone gone name (members_of line) g ae) ∙ and_false (not (is_kept line))

all_left : (gone : List ℕ → Bool) (name : List ℕ) (lines : List AccountLine) → gone name ≡ true → AllByRecursion (IsWithout name) (map (left_by gone) lines)
all_left gone name [] g = tt
all_left gone name (line ∷ lines) g = (left_without gone name line g, all_left gone name lines g)

-- ---- groups that are written

no_colon : (b : ℕ) (t : Bool) → eqb b 58 ≡ t → digit_value b < 10 → t ≡ false
no_colon b true e lt = let P : ℕ → Type 0 = λ x. digit_value x < 10 in absurd (omega (arith, subst P (eqb-true b 58 e) lt))
no_colon b false e lt = refl

digits_lack : (ds : List ℕ) → AllDigits 10 ds → Lacks 58 ds
digits_lack [] h = refl
digits_lack (d ∷ ds) h = ap (λ (t : Bool). t || list_any (λ b. eqb b 58) ds) (no_colon d (eqb d 58) refl h.0) ∙ digits_lack ds h.1

decimal_lacks : (n : ℕ) → n < 2 ^ 64 → Lacks 58 (decimal n)
decimal_lacks n fits = digits_lack (decimal n) (decimal_is_IsNumeral n fits).0.1

number_fits : (bytes : List ℕ) (n : ℕ) → number_in bytes ≡ Some n → n < 2 ^ 64
number_fits bytes n e =
    let found = cond_some (is_same bytes (decimal (digits_value 10 bytes)) && ltb (digits_value 10 bytes) (2 ^ 32)) (digits_value 10 bytes) n e in
    let small = ltb-true (digits_value 10 bytes) (2 ^ 32) (and_parts (is_same bytes (decimal (digits_value 10 bytes))) (ltb (digits_value 10 bytes) (2 ^ 32)) found.0).1 in
    omega (arith, small, found.1)

or_zero_fits : (o : Option ℕ) → ((n : ℕ) → o ≡ Some n → n < 2 ^ 64) → unwrap_or o 0 < 2 ^ 64
or_zero_fits None f = omega arith
or_zero_fits (Some n) f = f n refl

standing_fits : (o : Option AccountLine) (free : ℕ) → free < 2 ^ 64 → unwrap_or (option_map (λ line. unwrap_or (number_of line) 0) o) free < 2 ^ 64
standing_fits None free h = h
standing_fits (Some line) free h = or_zero_fits (number_of line) (number_fits (field 2 line))

given_fits : (o : Option (List ℕ)) (n : ℕ) → option_and_then number_in o ≡ Some n → n < 2 ^ 64
given_fits None n e = absurd (cc)
given_fits (Some bytes) n e = number_fits bytes n e

wanted_fits : (lines : List AccountLine) (name : List ℕ) (id : Option ℕ) → ((n : ℕ) → id ≡ Some n → n < 2 ^ 64) → wanted_number lines name id < 2 ^ 64
wanted_fits lines name None f = standing_fits (line_at lines name) (free_number lines) (least (free_from lines 1 _))
  where
    least : (n : ℕ) → min n (2 ^ 32 - 1) < 2 ^ 64
    least n = omega arith
wanted_fits lines name (Some n) f = f n refl

number_is : (t : Bool) (wanted n : ℕ) (fault : AccountFault) → (let r : Result ℕ AccountFault = cond t (Err fault) (Ok wanted) in r) ≡ Ok n → wanted ≡ n
number_is true wanted n fault e = absurd (cc)
number_is false wanted n fault e = cc

numbered_fits : (lines : List AccountLine) (name : List ℕ) (id : Option ℕ) (n : ℕ) → ((n : ℕ) → id ≡ Some n → n < 2 ^ 64) → number_for lines name id ≡ Ok n → n < 2 ^ 64
numbered_fits lines name id n f e =
    let same = number_is (is_number_taken lines name (wanted_number lines name id)) (wanted_number lines name id) n (IdTaken (wanted_number lines name id)) e in
    subst (λ (k : ℕ). k < 2 ^ 64) same (wanted_fits lines name id f)

-- the members that stand are those of a line
pub standing_lack : (group : List ℕ) (lines : List AccountLine) → Lacks 58 (standing_members lines group)
standing_lack group [] = refl
standing_lack group (line ∷ lines) = go (is_of group line) (standing_lack group lines)
  where
    go : (t : Bool) → Lacks 58 (standing_members lines group) → Lacks 58 (unwrap_or (option_map (field 3) (cond t (Some line) (find (is_of group) lines))) [])
    go true rest = field_lacks 3 line
    go false rest = rest

standing_without : (name group : List ℕ) (lines : List AccountLine) → AllByRecursion (IsWithout name) lines → has name (members_in (standing_members lines group)) ≡ false
standing_without name group [] all = refl
standing_without name group (line ∷ lines) all = go (is_of group line) refl (standing_without name group lines all.1)
  where
    go : (t : Bool) → is_of group line ≡ t → has name (members_in (standing_members lines group)) ≡ false → has name (members_in (unwrap_or (option_map (field 3) (cond t (Some line) (find (is_of group) lines))) [])) ≡ false
    go true e rest = apart_of (is_kept line) (has name (members_of line)) (not_true (is_kept line) (and_parts (not (is_kept line)) (is_same group (field 0 line)) e).0) all.0
    go false e rest = rest

first_without : (name text : List ℕ) (test : AccountLine → Bool) (lines : List AccountLine) → ((e : Bool) → IsWithout name (record { text = text; ended = e })) → AllByRecursion (IsWithout name) lines → AllByRecursion (IsWithout name) (at_first test (rewritten text) lines)
first_without name text test [] new all = tt
first_without name text test (line ∷ lines) new all = go (test line) (first_without name text test lines new all.1)
  where
    go : (t : Bool) → AllByRecursion (IsWithout name) (at_first test (rewritten text) lines) → AllByRecursion (IsWithout name) (cond t (rewritten text line ∷ lines) (line ∷ at_first test (rewritten text) lines))
    go true rest = (new line.ended, all.1)
    go false rest = (all.0, rest)

ended_without : (name : List ℕ) (lines : List AccountLine) → AllByRecursion (IsWithout name) lines → AllByRecursion (IsWithout name) (last_ended lines)
ended_without name [] all = tt
ended_without name (line ∷ []) all = (all.0, tt)
ended_without name (line ∷ next ∷ lines) all = (all.0, ended_without name (next ∷ lines) all.1)

put_without : (name group text : List ℕ) (lines : List AccountLine) → ((e : Bool) → IsWithout name (record { text = text; ended = e })) → AllByRecursion (IsWithout name) lines → AllByRecursion (IsWithout name) (with_line group text lines)
put_without name group text lines new all = go (list_any (is_of group) lines)
  where
    go : (t : Bool) → AllByRecursion (IsWithout name) (cond t (at_first (is_of group) (rewritten text) lines) (added text lines))
    go true = first_without name text (is_of group) lines new all
    go false = all_append (IsWithout name) (last_ended lines) (record { text = text; ended = true } ∷ []) (ended_without name lines all) (new true, tt)

group_without : (name : List ℕ) (a : Fields) (b c : Accounts) → IsField (group_name a) → AllByRecursion (IsWithout name) b.group → with_group a b ≡ Ok c → AllByRecursion (IsWithout name) c.group
group_without name a b c plain all e = go (number_for b.group (group_name a) (number_given (codes "gid") a)) (λ n. numbered_fits b.group (group_name a) (number_given (codes "gid") a) n (given_fits (first_value (codes "gid") a))) e
  where
    go : (r : Result ℕ AccountFault) → ((n : ℕ) → r ≡ Ok n → n < 2 ^ 64) → (r >>= λ gid. Ok (record { passwd = b.passwd; shadow = b.shadow; group = with_line (group_name a) (group_text (group_name a) gid (standing_members b.group (group_name a))) b.group })) ≡ Ok c → AllByRecursion (IsWithout name) c.group
    go (Ok gid) fits e =
        let same = ok_value (record { passwd = b.passwd; shadow = b.shadow; group = with_line (group_name a) (group_text (group_name a) gid (standing_members b.group (group_name a))) b.group }) c e in
        subst (λ (x : Accounts). AllByRecursion (IsWithout name) x.group) same (put_without name (group_name a) (group_text (group_name a) gid (standing_members b.group (group_name a))) b.group
        (λ t. of_four name (group_name a) [] (decimal gid) (standing_members b.group (group_name a)) t plain refl (decimal_lacks gid (fits gid refl)) (standing_lack (group_name a) b.group) (standing_without name (group_name a) b.group all)) all)
    go (Err f) fits e = absurd (err_no f c e)

-- ---- users that join

pub turned_apart : (name user : List ℕ) → is_same name user ≡ false → is_same user name ≡ false
turned_apart name user e = go (is_same user name) refl
  where
    go : (t : Bool) → is_same user name ≡ t → t ≡ false
    go true is = absurd (true≢false (sym (same_self name user (sym (same_true user name is))) ∙ e))
    go false is = refl

-- The user has another name, which can be written.
pub record Joins (name : List ℕ) (a : Fields) : Type 0 where
  pub apart : is_same name (user_name a) ≡ false
  pub account : IsAccount (user_name a)

pub all_join : (name : List ℕ) (users : List Fields) → is_named_in user_name users name ≡ false → AllByRecursion (λ a. IsAccount (user_name a)) users → AllByRecursion (Joins name) users
all_join name [] e all = tt
all_join name (a ∷ users) e all =
    let parts = or_parts (is_same name (user_name a)) (is_named_in user_name users name) e in
    (record { apart = parts.0; account = all.0 }, all_join name users parts.1 all.1)

joined_without : (name user : List ℕ) (line : AccountLine) → is_same name user ≡ false → IsAccount user → is_kept line ≡ false → IsWithout name line → IsWithout name (joined_by user line)
joined_without name user line apart account kept out = go (list_any (λ member. is_same member user) (members_of line)) joined
  where
    absent : has name (members_of line) ≡ false
    absent = apart_of (is_kept line) (has name (members_of line)) kept out

    joined : IsWithout name (with_members (members_of line ++ user ∷ []) line)
    joined =
        with_out name (members_of line ++ user ∷ []) line
        (all_append (Lacks 44) (members_of line) (user ∷ []) (commas_of line) (account.single, tt))
        (all_append (Lacks 58) (members_of line) (user ∷ []) (colons_of line) (account.field, tt))
        (list_any-append (λ m. is_same m name) (members_of line) (user ∷ []) ∙ ap (λ (t : Bool). t || (is_same user name || false)) absent ∙ ap (λ (t : Bool). t || false) (turned_apart name user apart))

    go : (t : Bool) → IsWithout name (with_members (members_of line ++ user ∷ []) line) → IsWithout name (cond t line (with_members (members_of line ++ user ∷ []) line))
    go true e = out
    go false e = e

at_without : (name user group : List ℕ) (lines : List AccountLine) → is_same name user ≡ false → IsAccount user → AllByRecursion (IsWithout name) lines → AllByRecursion (IsWithout name) (at_first (is_of group) (joined_by user) lines)
at_without name user group [] apart account all = tt
at_without name user group (line ∷ lines) apart account all = go (is_of group line) refl (at_without name user group lines apart account all.1)
  where
    go : (t : Bool) → is_of group line ≡ t → AllByRecursion (IsWithout name) (at_first (is_of group) (joined_by user) lines) → AllByRecursion (IsWithout name) (cond t (joined_by user line ∷ lines) (line ∷ at_first (is_of group) (joined_by user) lines))
    go true e rest = (joined_without name user line apart account (not_true (is_kept line) (and_parts (not (is_kept line)) (is_same group (field 0 line)) e).0) all.0, all.1)
    go false e rest = (all.0, rest)

in_without : (name user : List ℕ) (groups : List (List ℕ)) (lines : List AccountLine) → is_same name user ≡ false → IsAccount user → AllByRecursion (IsWithout name) lines → AllByRecursion (IsWithout name) (in_groups user groups lines)
in_without name user [] lines apart account all = all
in_without name user (group ∷ groups) lines apart account all = in_without name user groups (at_first (is_of group) (joined_by user) lines) apart account (at_without name user group lines apart account all)

none_member : (name : List ℕ) (lines : List AccountLine) → AllByRecursion (IsWithout name) lines → is_member lines name ≡ false
none_member name [] all = refl
none_member name (line ∷ lines) all = ap (λ (t : Bool). t || is_member lines name) all.0 ∙ none_member name lines all.1

-- An edit leaves no gone user in a member list.
pub gone_members : (before after : Accounts) (old new : List Fields) (name : List ℕ) → AllByRecursion (λ a. IsAccount (user_name a)) (users_in new) → AllByRecursion (λ a. IsField (group_name a)) (groups_in new) → is_gone_user old new name ≡ true → edited_books before old new ≡ Ok after
    → is_member after.group name ≡ false
gone_members before after old new name accounts plain gone e =
    let groups = fresh_groups old new in
    let users = fresh_users old new in
    let without : Accounts → Type 0 = λ x. AllByRecursion (IsWithout name) x.group in
    let start : without (after_gone old new before) = all_filtered (IsWithout name) (stays (is_gone_group old new)) (map (left_by (is_gone_user old new)) before.group) (all_left (is_gone_user old new) name before.group gone) in
    let absent = not_there (is_named_in user_name (users_in old) name) (is_named_in user_name (users_in new) name) gone in
    let joining = all_ordered (Joins name) (name_cmp user_name) (filter (is_fresh (users_in old)) (users_in new)) (all_filtered (Joins name) (is_fresh (users_in old)) (users_in new) (all_join name (users_in new) absent accounts)) in
    let named = all_ordered (λ a. IsField (group_name a)) (name_cmp group_name) (filter (is_fresh (groups_in old)) (groups_in new)) (all_filtered (λ a. IsField (group_name a)) (is_fresh (groups_in old)) (groups_in new) plain) in
    let first = bind_ok (each with_group groups (after_gone old new before)) (λ grouped. each with_user users grouped >>= if_known users) after e in
    let second = bind_ok (each with_user users first.0) (if_known users) after first.2 in
    let grouped = each_keeps (λ a. IsField (group_name a)) without with_group (λ a b c p q s. group_without name a b c p q s) groups (after_gone old new before) first.0 named start first.1 in
    let done = each_keeps (Joins name) without with_user (λ a b c p q s.
    subst (AllByRecursion (IsWithout name)) (sym (user_joins a b c s)) (in_without name (user_name a) (values_of (codes "group-list") a.attrs) b.group p.apart p.account q)) users first.0 second.0 joining grouped second.1 in
    none_member name after.group (subst without (known_keeps users second.0 after second.2) done)
