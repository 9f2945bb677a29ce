-- Lines of groups with other members, and users that join groups.
use Rattle.std.proofs.Common.{◌≡◌, ℕ, zero, suc, ◌<◌, Bool, true, false, cond, not, ◌&&◌, ◌||◌, eqb, List, [], ◌∷◌, ◌++◌, length, Option, Some, IfSome, unwrap_or, slice_get, refl, sym, ap, subst, ◌∙◌, arith}
use Rattle.std.specs.List.{slice_split, onto_first, list_any, join_with_byte, AllByRecursion}
use Rattle.std.specs.Option.{option_eq}
use Rattle.std.proofs.lemmas.Bool.{or_parts, and_parts, true≢false}
use Rattle.std.proofs.lemmas.List.Folds.{list_any-append}
use Rattle.ips_text.specs.Path.{is_nothing}
use Rattle.ips_text.proofs.Lists.{all_append}
use Rattle.ips_text.proofs.Truths.{not_true, or_true}
use Rattle.ips_action.specs.Attrs.{is_same}
use Rattle.ips_action.specs.Check.{IsAccount, IsField, begins_with_mark}
use Rattle.ips_action.proofs.KeyOrder.{same_self}
use Rattle.ips_books.specs.Lines.{AccountLine}
use Rattle.ips_books.specs.Accounts.{is_kept, is_of, field, fields, number_in, number_of, number_by, members_in, members_of, line_at, gid_at, known, known_groups}
use Rattle.ips_books.specs.Writing.{at_first, with_members, is_of_other, is_number_taken}
use Rattle.ips_accounts.specs.Editing.{joined_by, in_groups}
use Rattle.ips_accounts.specs.Laws.{IsMemberOf}
use Rattle.ips_books.proofs.Written.{later}
use Rattle.ips_accounts.proofs.Lacking.{split_at}
use Rattle.ips_accounts.proofs.GroupNames.{parts_plain}
use Rattle.ips_accounts.proofs.Members.{pieces_back, cut_none, joined_lack, commas_of, colons_of}

-- ---- a line with other members

kept_from : (b : ℕ) (x text more : List ℕ) (e : Bool) → begins_with_mark (b ∷ text) ≡ false → is_kept (record { text = b ∷ (x ++ 58 ∷ more); ended = e }) ≡ false
kept_from b x text more e unmarked = ap (λ (t : Bool). t || begins_with_mark (b ∷ text)) (later (length (x ++ 58 ∷ more))) ∙ unmarked

-- what begins with the name of a line that isn't kept isn't kept either
pub kept_front : (text more : List ℕ) (e f : Bool) → is_kept (record { text = text; ended = e }) ≡ false → is_kept (record { text = unwrap_or (slice_get (slice_split (λ b. eqb b 58) text) 0) [] ++ 58 ∷ more; ended = f }) ≡ false
kept_front [] more e f kept = absurd (true≢false kept)
kept_front (b ∷ text) more e f kept = go (eqb b 58) (slice_split (λ b. eqb b 58) text)
  where
    unmarked : begins_with_mark (b ∷ text) ≡ false
    unmarked = (or_parts (eqb (length (b ∷ text)) 0) (begins_with_mark (b ∷ text)) kept).1

    go : (t : Bool) (parts : List (List ℕ)) → is_kept (record { text = unwrap_or (slice_get (cond t ([] ∷ parts) (onto_first b parts)) 0) [] ++ 58 ∷ more; ended = f }) ≡ false
    go true parts = ap (λ (t : Bool). t || begins_with_mark (58 ∷ more)) (later (length more))
    go false [] = kept_from b [] text more f unmarked
    go false (p ∷ parts) = kept_from b p text more f unmarked

nth_plain : (parts : List (List ℕ)) (i : ℕ) → AllByRecursion IsField parts → IsField (unwrap_or (slice_get parts i) [])
nth_plain [] i all = refl
nth_plain (p ∷ parts) zero all = all.0
nth_plain (p ∷ parts) (suc i) all = nth_plain parts i all.1

pub field_plain : (i : ℕ) (line : AccountLine) → IsField (field i line)
field_plain i line = nth_plain (fields line) i (parts_plain line.text)

pub with_fields : (members : List (List ℕ)) (line : AccountLine) → fields (with_members members line) ≡ field 0 line ∷ field 1 line ∷ field 2 line ∷ slice_split (λ b. eqb b 58) (join_with_byte 44 members)
with_fields members line =
    split_at (field 0 line) _ (field_plain 0 line)
    ∙ ap (λ (l : List (List ℕ)). field 0 line ∷ l) (split_at (field 1 line) _ (field_plain 1 line) ∙ ap (λ (l : List (List ℕ)). field 1 line ∷ l) (split_at (field 2 line) _ (field_plain 2 line)))

-- One line speaks as the other does: of the same name, with the same number.
pub record SpeaksAs (x y : AccountLine) : Type 0 where
  pub kept : is_kept x ≡ is_kept y
  pub name : field 0 x ≡ field 0 y
  pub number : number_of x ≡ number_of y

itself : (x : AccountLine) → SpeaksAs x x
itself x = record { kept = refl; name = refl; number = refl }

pub with_speaks : (members : List (List ℕ)) (line : AccountLine) → is_kept line ≡ false → SpeaksAs (with_members members line) line
with_speaks members line kept = record {
  kept = kept_front line.text _ line.ended line.ended kept ∙ sym kept;
  name = ap (λ (parts : List (List ℕ)). unwrap_or (slice_get parts 0) []) (with_fields members line);
  number = ap (λ (parts : List (List ℕ)). number_in (unwrap_or (slice_get parts 2) [])) (with_fields members line);
}

by_joined : (P : AccountLine → Type 0) (user : List ℕ) (line : AccountLine) → P line → P (with_members (members_of line ++ user ∷ []) line) → P (joined_by user line)
by_joined P user line one two = go (list_any (λ member. is_same member user) (members_of line))
  where
    go : (t : Bool) → P (cond t line (with_members (members_of line ++ user ∷ []) line))
    go true = one
    go false = two

pub joined_speaks : (user : List ℕ) (line : AccountLine) → is_kept line ≡ false → SpeaksAs (joined_by user line) line
joined_speaks user line kept = by_joined (λ x. SpeaksAs x line) user line (itself line) (with_speaks (members_of line ++ user ∷ []) line kept)

pub of_same : (name : List ℕ) (x y : AccountLine) → SpeaksAs x y → is_of name x ≡ is_of name y
of_same name x y same = (λ i. not (same.kept i) && is_same name (same.name i))

other_same : (name : List ℕ) (id : ℕ) (x y : AccountLine) → SpeaksAs x y → is_of_other name id x ≡ is_of_other name id y
other_same name id x y same = (λ i. (not (same.kept i) && option_eq eqb (same.number i) (Some id)) && not (of_same name x y same i))

pub of_kept : (name : List ℕ) (line : AccountLine) → is_of name line ≡ true → is_kept line ≡ false
of_kept name line of = not_true (is_kept line) (and_parts (not (is_kept line)) (is_same name (field 0 line)) of).0

-- ---- lines that speak as others do

AllSpeak : List AccountLine → List AccountLine → Type 0
AllSpeak [] [] = Unit {0}
AllSpeak [] (y ∷ ys) = ⊥
AllSpeak (x ∷ xs) [] = ⊥
AllSpeak (x ∷ xs) (y ∷ ys) = SpeaksAs x y × AllSpeak xs ys

all_themselves : (xs : List AccountLine) → AllSpeak xs xs
unfolding AllSpeak
all_themselves [] = tt
all_themselves (x ∷ xs) = (itself x, all_themselves xs)

all_through : (xs ys zs : List AccountLine) → AllSpeak xs ys → AllSpeak ys zs → AllSpeak xs zs
unfolding AllSpeak
all_through [] [] [] a b = tt
all_through [] [] (z ∷ zs) a b = absurd b
all_through [] (y ∷ ys) zs a b = absurd a
all_through (x ∷ xs) [] zs a b = absurd a
all_through (x ∷ xs) (y ∷ ys) [] a b = absurd b
all_through (x ∷ xs) (y ∷ ys) (z ∷ zs) a b = (record { kept = a.0.kept ∙ b.0.kept; name = a.0.name ∙ b.0.name; number = a.0.number ∙ b.0.number }, all_through xs ys zs a.1 b.1)

first_speaks : (user group : List ℕ) (lines : List AccountLine) → AllSpeak (at_first (is_of group) (joined_by user) lines) lines
unfolding AllSpeak
first_speaks user group [] = tt
first_speaks user group (x ∷ lines) = go (is_of group x) refl (first_speaks user group lines)
  where
    go : (t : Bool) → is_of group x ≡ t → AllSpeak (at_first (is_of group) (joined_by user) lines) lines → AllSpeak (cond t (joined_by user x ∷ lines) (x ∷ at_first (is_of group) (joined_by user) lines)) (x ∷ lines)
    go true e rest = (joined_speaks user x (of_kept group x e), all_themselves lines)
    go false e rest = (itself x, rest)

in_speak : (user : List ℕ) (groups : List (List ℕ)) (lines : List AccountLine) → AllSpeak (in_groups user groups lines) lines
in_speak user [] lines = all_themselves lines
in_speak user (group ∷ groups) lines =
    all_through (in_groups user groups (at_first (is_of group) (joined_by user) lines)) (at_first (is_of group) (joined_by user) lines) lines (in_speak user groups (at_first (is_of group) (joined_by user) lines)) (first_speaks user group lines)

number_same : (name : List ℕ) (other : Option ℕ) (xs ys : List AccountLine) → AllSpeak xs ys → number_by (line_at xs name) other ≡ number_by (line_at ys name) other
unfolding AllSpeak
number_same name other [] [] all = refl
number_same name other [] (y ∷ ys) all = absurd all
number_same name other (x ∷ xs) [] all = absurd all
number_same name other (x ∷ xs) (y ∷ ys) all = ap (λ (t : Bool). number_by (cond t (Some x) (line_at xs name)) other) (of_same name x y all.0) ∙ go (is_of name y) (number_same name other xs ys all.1)
  where
    go : (t : Bool) → number_by (line_at xs name) other ≡ number_by (line_at ys name) other → number_by (cond t (Some x) (line_at xs name)) other ≡ number_by (cond t (Some y) (line_at ys name)) other
    go true rest = all.0.number
    go false rest = rest

taken_same : (name : List ℕ) (id : ℕ) (xs ys : List AccountLine) → AllSpeak xs ys → is_number_taken xs name id ≡ is_number_taken ys name id
unfolding AllSpeak
taken_same name id [] [] all = refl
taken_same name id [] (y ∷ ys) all = absurd all
taken_same name id (x ∷ xs) [] all = absurd all
taken_same name id (x ∷ xs) (y ∷ ys) all = (λ i. other_same name id x y all.0 i || taken_same name id xs ys all.1 i)

-- Users that join groups change no group's number.
pub gid_joined : (name user : List ℕ) (groups : List (List ℕ)) (lines : List AccountLine) → gid_at (in_groups user groups lines) name ≡ gid_at lines name
gid_joined name user groups lines = number_same name (known known_groups name) (in_groups user groups lines) lines (in_speak user groups lines)

pub taken_joined : (name : List ℕ) (id : ℕ) (user : List ℕ) (groups : List (List ℕ)) (lines : List AccountLine) → is_number_taken (in_groups user groups lines) name id ≡ is_number_taken lines name id
taken_joined name id user groups lines = taken_same name id (in_groups user groups lines) lines (in_speak user groups lines)

-- ---- members

pub has : List ℕ → AccountLine → Bool
has user line = list_any (λ member. is_same member user) (members_of line)

pub some_joined : (x z : List ℕ) → is_nothing (x ++ 44 ∷ z) ≡ false
some_joined [] z = later (length z)
some_joined (b ∷ x) z = later (length (x ++ 44 ∷ z))

some_name : (user : List ℕ) → 0 < length user → is_nothing user ≡ false
some_name [] some = absurd (omega (arith, some))
some_name (b ∷ user) some = later (length user)

some_members : (members : List (List ℕ)) (user : List ℕ) → 0 < length user → is_nothing (join_with_byte 44 (members ++ user ∷ [])) ≡ false
some_members [] user some = some_name user some
some_members (m ∷ []) user some = some_joined m user
some_members (m ∷ n ∷ members) user some = some_joined m (join_with_byte 44 (n ∷ members ++ user ∷ []))

back : (x : List ℕ) (xs : List (List ℕ)) → AllByRecursion (λ m. list_any (λ b. eqb b 44) m ≡ false) (x ∷ xs) → AllByRecursion (λ m. list_any (λ b. eqb b 58) m ≡ false) (x ∷ xs) → is_nothing (join_with_byte 44 (x ∷ xs)) ≡ false
    → (line : AccountLine) → members_of (with_members (x ∷ xs) line) ≡ x ∷ xs
back x xs commas colons some line =
    ap (λ (parts : List (List ℕ)). members_in (unwrap_or (slice_get parts 3) [])) (with_fields (x ∷ xs) line)
    ∙ ap (λ (parts : List (List ℕ)). members_in (unwrap_or (slice_get parts 0) [])) (cut_none 58 (join_with_byte 44 (x ∷ xs)) (joined_lack 44 58 (x ∷ xs) refl colons))
    ∙ ap (λ (t : Bool). cond t [] (slice_split (λ b. eqb b 44) (join_with_byte 44 (x ∷ xs)))) some
    ∙ pieces_back 44 x xs commas

-- a line with the user behind its members has just these
members_back : (user : List ℕ) (members : List (List ℕ)) → AllByRecursion (λ m. list_any (λ b. eqb b 44) m ≡ false) (members ++ user ∷ []) → AllByRecursion (λ m. list_any (λ b. eqb b 58) m ≡ false) (members ++ user ∷ []) → is_nothing (join_with_byte 44 (members ++ user ∷ [])) ≡ false
    → (line : AccountLine) → members_of (with_members (members ++ user ∷ []) line) ≡ members ++ user ∷ []
members_back user [] commas colons some line = back user [] commas colons some line
members_back user (m ∷ members) commas colons some line = back m (members ++ user ∷ []) commas colons some line

joined_members : (user : List ℕ) (line : AccountLine) → IsAccount user → members_of (with_members (members_of line ++ user ∷ []) line) ≡ members_of line ++ user ∷ []
joined_members user line account =
    members_back user (members_of line)
    (all_append (λ m. list_any (λ b. eqb b 44) m ≡ false) (members_of line) (user ∷ []) (commas_of line) (account.single, tt))
    (all_append (λ m. list_any (λ b. eqb b 58) m ≡ false) (members_of line) (user ∷ []) (colons_of line) (account.field, tt))
    (some_members (members_of line) user account.some) line

joined_test : (user name : List ℕ) (line : AccountLine) → IsAccount user → has name (with_members (members_of line ++ user ∷ []) line) ≡ (has name line || (is_same user name || false))
unfolding has
joined_test user name line account =
    ap (list_any (λ m. is_same m name)) (joined_members user line account)
    ∙ list_any-append (λ m. is_same m name) (members_of line) (user ∷ [])

-- who joins is a member
joined_has : (user : List ℕ) (line : AccountLine) → IsAccount user → has user (joined_by user line) ≡ true
unfolding has
joined_has user line account = go (list_any (λ member. is_same member user) (members_of line)) refl
  where
    go : (t : Bool) → list_any (λ member. is_same member user) (members_of line) ≡ t → list_any (λ member. is_same member user) (members_of (cond t line (with_members (members_of line ++ user ∷ []) line))) ≡ true
    go true e = e
    go false e = joined_test user user line account ∙ ap (λ (t : Bool). has user line || (t || false)) (same_self user user refl) ∙ or_true (has user line)

-- and who is a member stays one
pub joined_keeps : (user name : List ℕ) (line : AccountLine) → IsAccount user → has name line ≡ true → has name (joined_by user line) ≡ true
joined_keeps user name line account e = by_joined (λ x. has name x ≡ true) user line e (joined_test user name line account ∙ ap (λ (t : Bool). t || (is_same user name || false)) e)

pub unfold_has : (user : List ℕ) (line : AccountLine) → has user line ≡ true → list_any (λ member. is_same member user) (members_of line) ≡ true
unfolding has
unfold_has user line e = e

pub fold_has : (user : List ℕ) (line : AccountLine) → list_any (λ member. is_same member user) (members_of line) ≡ true → has user line ≡ true
unfolding has
fold_has user line e = e

own_member : (user group : List ℕ) (lines : List AccountLine) → IsAccount user → IsMemberOf (at_first (is_of group) (joined_by user) lines) user group
own_member user group [] account = tt
own_member user group (x ∷ lines) account = go (is_of group x) refl (own_member user group lines account)
  where
    go : (t : Bool) → is_of group x ≡ t → IsMemberOf (at_first (is_of group) (joined_by user) lines) user group → IsMemberOf (cond t (joined_by user x ∷ lines) (x ∷ at_first (is_of group) (joined_by user) lines)) user group
    go true e rest =
        subst (λ (t : Bool). IfSome (cond t (Some (joined_by user x)) (line_at lines group)) (λ line. list_any (λ member. is_same member user) (members_of line) ≡ true)) (sym (of_same group (joined_by user x) x (joined_speaks user x (of_kept group x e)) ∙ e))
        (unfold_has user (joined_by user x) (joined_has user x account))
    go false e rest =
        subst (λ (t : Bool). IfSome (cond t (Some x) (line_at (at_first (is_of group) (joined_by user) lines) group)) (λ line. list_any (λ member. is_same member user) (members_of line) ≡ true)) (sym e) rest

keeps_member : (name group user other : List ℕ) (lines : List AccountLine) → IsAccount other → IsMemberOf lines user name → IsMemberOf (at_first (is_of group) (joined_by other) lines) user name
keeps_member name group user other [] account is = tt
keeps_member name group user other (x ∷ lines) account is = go (is_of group x) refl (is_of name x) refl is (keeps_member name group user other lines account)
  where
    Has : AccountLine → Type 0
    Has line = list_any (λ member. is_same member user) (members_of line) ≡ true

    go : (t : Bool) → is_of group x ≡ t → (s : Bool) → is_of name x ≡ s → IfSome (cond s (Some x) (line_at lines name)) (λ line. list_any (λ member. is_same member user) (members_of line) ≡ true) → (IsMemberOf lines user name → IsMemberOf (at_first (is_of group) (joined_by other) lines) user name)
        → IsMemberOf (cond t (joined_by other x ∷ lines) (x ∷ at_first (is_of group) (joined_by other) lines)) user name
    go true e true f has_it more =
        subst (λ (t : Bool). IfSome (cond t (Some (joined_by other x)) (line_at lines name)) (λ line. list_any (λ member. is_same member user) (members_of line) ≡ true)) (sym (of_same name (joined_by other x) x (joined_speaks other x (of_kept group x e)) ∙ f))
        (unfold_has user (joined_by other x) (joined_keeps other user x account (fold_has user x has_it)))
    go true e false f has_it more =
        subst (λ (t : Bool). IfSome (cond t (Some (joined_by other x)) (line_at lines name)) (λ line. list_any (λ member. is_same member user) (members_of line) ≡ true)) (sym (of_same name (joined_by other x) x (joined_speaks other x (of_kept group x e)) ∙ f)) has_it
    go false e true f has_it more =
        subst (λ (t : Bool). IfSome (cond t (Some x) (line_at (at_first (is_of group) (joined_by other) lines) name)) (λ line. list_any (λ member. is_same member user) (members_of line) ≡ true)) (sym f) has_it
    go false e false f has_it more =
        subst (λ (t : Bool). IfSome (cond t (Some x) (line_at (at_first (is_of group) (joined_by other) lines) name)) (λ line. list_any (λ member. is_same member user) (members_of line) ≡ true)) (sym f) (more has_it)

-- A member stays one as others join groups.
pub member_stays : (name user other : List ℕ) (groups : List (List ℕ)) (lines : List AccountLine) → IsAccount other → IsMemberOf lines user name → IsMemberOf (in_groups other groups lines) user name
member_stays name user other [] lines account is = is
member_stays name user other (group ∷ groups) lines account is = member_stays name user other groups (at_first (is_of group) (joined_by other) lines) account (keeps_member name group user other lines account is)

-- Who joins groups is a member of each.
pub members_of_all : (user : List ℕ) (groups : List (List ℕ)) (lines : List AccountLine) → IsAccount user → AllByRecursion (IsMemberOf (in_groups user groups lines) user) groups
members_of_all user [] lines account = tt
members_of_all user (group ∷ groups) lines account =
    (member_stays group user user groups (at_first (is_of group) (joined_by user) lines) account (own_member user group lines account), members_of_all user groups (at_first (is_of group) (joined_by user) lines) account)

pub all_members_stay : (user other : List ℕ) (joining groups : List (List ℕ)) (lines : List AccountLine) → IsAccount other → AllByRecursion (IsMemberOf lines user) groups → AllByRecursion (IsMemberOf (in_groups other joining lines) user) groups
all_members_stay user other joining [] lines account all = tt
all_members_stay user other joining (group ∷ groups) lines account all = (member_stays group user other joining lines account all.0, all_members_stay user other joining groups lines account all.1)
