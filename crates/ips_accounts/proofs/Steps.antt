-- Actions that are laid one after another.
use Rattle.std.proofs.Common.{◌≡◌, ℕ, ◌+◌, ◌<◌, ◌≤◌, Bool, true, false, cond, List, [], ◌∷◌, length, get_or, drop, map, Bor, Result, Ok, Err, is_some, unwrap_or, refl, sym, ap, subst, ◌∙◌}
use lib.Chars.{codes}
use Rattle.std.proofs.lemmas.List.{length-map, get_or-map, at_drop_more, at_drop_all}
use Rattle.ips_text.specs.declared.refusal.Or.{Or}
use Rattle.ips_text.specs.declared.refusal.Or.TheVariants.{Bad, OutOfMemory}
use Rattle.ips_text.specs.Reading.{◌>>=◌, Fails}
use Rattle.ips_action.specs.Attrs.{values_of}
use Rattle.ips_action.specs.Action.{Fields}
use Rattle.ips_conflict.specs.Key.{value_of}
use Rattle.ips_books.specs.declared.fault.AccountFault.{AccountFault}
use Rattle.ips_books.specs.declared.fault.AccountFault.TheVariants.{UnknownGroup}
use Rattle.ips_books.specs.Lines.{AccountLine}
use Rattle.ips_books.specs.Accounts.{Accounts}
use Rattle.ips_books.specs.Writing.{with_line}
use Rattle.ips_turnover.specs.Turnover.{group_name, user_name, number_given, fresh_groups, fresh_users, after_gone}
use Rattle.ips_books.specs.Reading.{Texts, read_books, texts_of}
use Rattle.ips_accounts.specs.Editing.{each, if_known, gid_of, in_groups, number_for, group_text, standing_members, passwd_text, with_shadow, with_group, with_user, edited_books, edited}
use Rattle.ips_accounts.specs.Seen.{edited_from}
use Rattle.ips_accounts.proofs.Lacking.{ok_value, err_no}

-- what fails first is how the whole fails
pub fails_first : {X Y E : Type 0} (e : Or E) (r : Result X E) (f : X → Result Y E) (whole : Result Y E) → (r >>= f) ≡ whole → Fails e r → Fails e whole
fails_first (Bad d) r f whole is fails = sym is ∙ ap (λ x. x >>= f) fails
fails_first OutOfMemory r f whole is fails = tt

-- the first answered: the whole goes on from there
pub then_on : {X Y E : Type 0} (r : Result X E) (x : X) (f : X → Result Y E) → r ≡ Ok x → (r >>= f) ≡ f x
then_on r x f is = ap (λ y. y >>= f) is

pub seen_more : {A : Type 0} {Y : Type 0} (F : List A → Y) (items : List (Bor A)) (i : ℕ) (item : Bor A) → i < length items → item ≡ get_or items i item → F (drop i (map (λ b. b.now) items)) ≡ F (item.now ∷ drop (i + 1) (map (λ b. b.now) items))
seen_more F items i item lt is =
    at_drop_more F (map (λ b. b.now) items) i item.now (subst (λ n. i < n) (sym (length-map items (λ b. b.now))) lt)
    ∙ ap (λ a. F (a ∷ drop (i + 1) (map (λ b. b.now) items))) (get_or-map (λ b. b.now) items i item item.now lt ∙ sym (ap (λ b. b.now) is))

pub seen_all : {A : Type 0} {Y : Type 0} (F : List A → Y) (items : List (Bor A)) (i : ℕ) → length items ≤ i → F (drop i (map (λ b. b.now) items)) ≡ F []
seen_all F items i past = at_drop_all F (map (λ b. b.now) items) i (subst (λ n. n ≤ i) (sym (length-map items (λ b. b.now))) past)

abbrev Step : Type 0
Step = Fields → Accounts → Result Accounts AccountFault

-- the actions that are left, laid on what is laid, give the whole
abbrev pub Goes : (Fields → Accounts → Result Accounts AccountFault) → List (Bor Fields) → ℕ → Accounts → Accounts → Type 0
Goes step items i books start = each step (drop i (map (λ b. b.now) items)) books ≡ each step (map (λ b. b.now) items) start

pub goes_more : (step : Step) (items : List (Bor Fields)) (i : ℕ) (item : Bor Fields) (books next start : Accounts) → i < length items → item ≡ get_or items i item → step item.now books ≡ Ok next → Goes step items i books start → Goes step items (i + 1) next start
goes_more step items i item books next start lt is ok goes =
    sym (then_on (step item.now books) next (each step (drop (i + 1) (map (λ b. b.now) items))) ok)
    ∙ sym (seen_more (λ l. each step l books) items i item lt is) ∙ goes

pub goes_fails : (step : Step) (items : List (Bor Fields)) (i : ℕ) (item : Bor Fields) (books start : Accounts) (e : Or AccountFault) → i < length items → item ≡ get_or items i item → Fails e (step item.now books) → Goes step items i books start → Fails e (each step (map (λ b. b.now) items) start)
goes_fails step items i item books start e lt is fails goes =
    fails_first e (step item.now books) (each step (drop (i + 1) (map (λ b. b.now) items))) (each step (map (λ b. b.now) items) start)
    (sym (seen_more (λ l. each step l books) items i item lt is) ∙ goes) fails

pub goes_done : (step : Step) (items : List (Bor Fields)) (i : ℕ) (books start : Accounts) → length items ≤ i → Goes step items i books start → each step (map (λ b. b.now) items) start ≡ Ok books
goes_done step items i books start past goes = sym goes ∙ seen_all (λ l. each step l books) items i past

-- ---- users whose group is known

abbrev pub Known : List (Bor Fields) → ℕ → Accounts → Type 0
Known items i books = if_known (drop i (map (λ b. b.now) items)) books ≡ if_known (map (λ b. b.now) items) books

known_next : (items : List (Bor Fields)) (i : ℕ) (item : Bor Fields) (books : Accounts) (t : Bool) → i < length items → item ≡ get_or items i item → is_some (gid_of books.group item.now) ≡ t
    → if_known (drop i (map (λ b. b.now) items)) books ≡ cond t (if_known (drop (i + 1) (map (λ b. b.now) items)) books) (Err (UnknownGroup (value_of (codes "group") item.now)))
known_next items i item books t lt is e =
    seen_more (λ l. if_known l books) items i item lt is ∙ ap (λ (t : Bool). cond t (if_known (drop (i + 1) (map (λ b. b.now) items)) books) (Err (UnknownGroup (value_of (codes "group") item.now)))) e

pub known_more : (items : List (Bor Fields)) (i : ℕ) (item : Bor Fields) (books : Accounts) → i < length items → item ≡ get_or items i item → is_some (gid_of books.group item.now) ≡ true → Known items i books → Known items (i + 1) books
known_more items i item books lt is e known = sym (known_next items i item books true lt is e) ∙ known

pub known_not : (items : List (Bor Fields)) (i : ℕ) (item : Bor Fields) (books : Accounts) (name : List ℕ) → i < length items → item ≡ get_or items i item → is_some (gid_of books.group item.now) ≡ false → name ≡ value_of (codes "group") item.now → Known items i books
    → if_known (map (λ b. b.now) items) books ≡ Err (UnknownGroup name)
known_not items i item books name lt is e said known = sym known ∙ known_next items i item books false lt is e ∙ ap (λ (n : List ℕ). Err (UnknownGroup n)) (sym said)

pub known_done : (items : List (Bor Fields)) (i : ℕ) (books : Accounts) → length items ≤ i → Known items i books → if_known (map (λ b. b.now) items) books ≡ Ok books
known_done items i books past known = sym known ∙ seen_all (λ l. if_known l books) items i past

-- ---- a group, and a user

pub group_added : (a : Fields) (books : Accounts) (gid : ℕ) (new : List AccountLine) → number_for books.group (group_name a) (number_given (codes "gid") a) ≡ Ok gid
    → new ≡ with_line (group_name a) (group_text (group_name a) gid (standing_members books.group (group_name a))) books.group → with_group a books ≡ Ok (record { passwd = books.passwd; shadow = books.shadow; group = new })
group_added a books gid new numbered is =
    then_on (number_for books.group (group_name a) (number_given (codes "gid") a)) gid (λ gid. Ok (record { passwd = books.passwd; shadow = books.shadow; group = with_line (group_name a) (group_text (group_name a) gid (standing_members books.group (group_name a))) books.group })) numbered
    ∙ ap (λ (g : List AccountLine). Ok (record { passwd = books.passwd; shadow = books.shadow; group = g })) (sym is)

pub user_added : (a : Fields) (books : Accounts) (uid : ℕ) (passwd shadow group : List AccountLine) → number_for books.passwd (user_name a) (number_given (codes "uid") a) ≡ Ok uid
    → passwd ≡ with_line (user_name a) (passwd_text a uid (unwrap_or (gid_of books.group a) 0)) books.passwd → shadow ≡ with_shadow a books.shadow → group ≡ in_groups (user_name a) (values_of (codes "group-list") a.attrs) books.group
    → with_user a books ≡ Ok (record { passwd = passwd; shadow = shadow; group = group })
user_added a books uid passwd shadow group numbered p s g =
    then_on (number_for books.passwd (user_name a) (number_given (codes "uid") a)) uid (λ uid. Ok (record {
      passwd = with_line (user_name a) (passwd_text a uid (unwrap_or (gid_of books.group a) 0)) books.passwd;
      shadow = with_shadow a books.shadow;
      group = in_groups (user_name a) (values_of (codes "group-list") a.attrs) books.group;
    })) numbered
    ∙ (λ i. Ok (record { passwd = sym p i; shadow = sym s i; group = sym g i }))

-- ---- the whole edit

pub edited_is : (books grouped done : Accounts) (old new : List Fields) → each with_group (fresh_groups old new) books ≡ Ok grouped → each with_user (fresh_users old new) grouped ≡ Ok done → edited_from books old new ≡ if_known (fresh_users old new) done
edited_is books grouped done old new e f =
    then_on (each with_group (fresh_groups old new) books) grouped (λ grouped. each with_user (fresh_users old new) grouped >>= if_known (fresh_users old new)) e
    ∙ then_on (each with_user (fresh_users old new) grouped) done (if_known (fresh_users old new)) f

pub groups_fail : (e : Or AccountFault) (books : Accounts) (old new : List Fields) → Fails e (each with_group (fresh_groups old new) books) → Fails e (edited_from books old new)
groups_fail e books old new fails = fails_first e (each with_group (fresh_groups old new) books) (λ grouped. each with_user (fresh_users old new) grouped >>= if_known (fresh_users old new)) (edited_from books old new) refl fails

pub users_fail : (e : Or AccountFault) (books grouped : Accounts) (old new : List Fields) → each with_group (fresh_groups old new) books ≡ Ok grouped → Fails e (each with_user (fresh_users old new) grouped) → Fails e (edited_from books old new)
users_fail e books grouped old new is fails =
    fails_first e (each with_user (fresh_users old new) grouped) (if_known (fresh_users old new)) (edited_from books old new)
    (sym (then_on (each with_group (fresh_groups old new) books) grouped (λ grouped. each with_user (fresh_users old new) grouped >>= if_known (fresh_users old new)) is)) fails

from_cleared : (r : Result Accounts AccountFault) (start : Accounts) (old new : List Fields) → (r >>= λ books. Ok (after_gone old new books)) ≡ Ok start
    → (r >>= λ books. edited_books books old new >>= λ done. Ok (texts_of done)) ≡ (edited_from start old new >>= λ done. Ok (texts_of done))
from_cleared (Ok books) start old new e = ap (λ (b : Accounts). edited_from b old new >>= λ done. Ok (texts_of done)) (ok_value (after_gone old new books) start e)
from_cleared (Err f) start old new e = absurd (err_no f start e)

pub read_fails : (e : Or AccountFault) (base : Texts) (old new : List Fields) → Fails e (read_books base >>= λ books. Ok (after_gone old new books)) → Fails e (edited base old new)
read_fails OutOfMemory base old new fails = tt
read_fails (Bad d) base old new fails = go (read_books base) fails
  where
    go : (r : Result Accounts AccountFault) → (r >>= λ books. Ok (after_gone old new books)) ≡ Err d → (r >>= λ books. edited_books books old new >>= λ done. Ok (texts_of done)) ≡ Err d
    go (Ok books) is = absurd cc
    go (Err f) is = ap (λ (x : Result Accounts AccountFault). x >>= λ books. edited_books books old new >>= λ done. Ok (texts_of done)) is

pub change_fails : (e : Or AccountFault) (base : Texts) (start : Accounts) (old new : List Fields) → (read_books base >>= λ books. Ok (after_gone old new books)) ≡ Ok start → Fails e (edited_from start old new) → Fails e (edited base old new)
change_fails e base start old new is fails =
    fails_first e (edited_from start old new) (λ done. Ok (texts_of done)) (edited base old new) (sym (from_cleared (read_books base) start old new is)) fails

pub all_done : (base : Texts) (start done : Accounts) (texts : Texts) (old new : List Fields) → (read_books base >>= λ books. Ok (after_gone old new books)) ≡ Ok start → edited_from start old new ≡ Ok done → texts ≡ texts_of done → edited base old new ≡ Ok texts
all_done base start done texts old new is changed printed =
    from_cleared (read_books base) start old new is ∙ then_on (edited_from start old new) done (λ done. Ok (texts_of done)) changed ∙ ap (λ (t : Texts). Ok t) (sym printed)

-- ---- the files, read

pub read_first : (e : Or AccountFault) (base : Texts) (old new : List Fields) → Fails e (read_books base) → Fails e (read_books base >>= λ books. Ok (after_gone old new books))
read_first e base old new fails = fails_first e (read_books base) (λ books. Ok (after_gone old new books)) (read_books base >>= λ books. Ok (after_gone old new books)) refl fails

pub read_done : (base : Texts) (books next : Accounts) (old new : List Fields) → read_books base ≡ Ok books → next ≡ after_gone old new books → (read_books base >>= λ books. Ok (after_gone old new books)) ≡ Ok next
read_done base books next old new is e = then_on (read_books base) books (λ books. Ok (after_gone old new books)) is ∙ ap (λ (b : Accounts). Ok b) (sym e)
