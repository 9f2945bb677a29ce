-- The account files that are due.
use Rattle.std.proofs.Common.{◌≡◌, ◌⊎◌, inl, inr, ℕ, ◌<◌, Bool, true, false, cond, not, ◌&&◌, IsTrue, List, [], ◌∷◌, ◌++◌, Option, Some, None, is_some, Ok, Err, refl, sym, ◌∙◌, ap, subst, ⊎_elim}
use Rattle.std.specs.Prelude.{codes}
use Rattle.std.proofs.lemmas.Option.{none-some, same_Some}
use Rattle.std.proofs.lemmas.Bool.{and_parts, not-true}
use Rattle.ips_text.specs.Ancestry.{covers, is_below, parent, same_path}
use Rattle.ips_text.proofs.Ancestry.{at_parent_of, same_path-true}
use Rattle.ips_text.proofs.Readers.{bind_ok}
use Rattle.ips_outside.specs.Image.{Entry, File}
use Rattle.ips_action.specs.Action.{Fields}
use Rattle.ips_books.specs.declared.books.Book.{Book}
use Rattle.ips_books.specs.declared.books.Book.TheVariants.{Passwd, Shadow, Group}
use Rattle.ips_books.specs.Lines.{AccountLine}
use Rattle.ips_books.specs.Reading.{Texts}
use Rattle.ips_after.specs.Findings.{is_account_path}
use Rattle.ips_after.specs.Request.{Request, WantDir, WantFile, WantHard, WantLink, Wanted, is_dir_wanted, is_file_wanted}
use Rattle.ips_due.specs.Due.{Due, DueFile, FitsAccounts, account_at}
use Rattle.ips_account_files.specs.declared.ledger.blocked.Blocked.{Blocked}
use Rattle.ips_account_files.specs.declared.ledger.outdated.Modes.{Modes}
use Rattle.ips_account_files.specs.ledger.Blocking.{wants_other_than_file}
use Rattle.ips_account_files.specs.ledger.Editing.{due_book, due_books, edited_where, placed_book, placed_books}
use Rattle.ips_account_files.specs.ledger.Left.{AreSmallWanted}
use Rattle.ips_account_files.specs.Around.{Around, has_accounts}
use Rattle.ips_account_files.specs.Bases.{IsBaseWhere}
use Rattle.ips_account_files.specs.Behind.{AreEdited, Behind, BehindWhere, Files, no_files}
use Rattle.ips_account_files.specs.Laws.{AreAccounts, AreApart, HaveSmallModes}

-- ---- which are due

in_both : (xs ys : List DueFile) (q : List ℕ) (e : Entry) → account_at (xs ++ ys) q ≡ Some e → (account_at xs q ≡ Some e) ⊎ (account_at ys q ≡ Some e)
in_both [] ys q e h = inr h
in_both (f ∷ xs) ys q e h = go (same_path f.path q) (in_both xs ys q e) h
  where
    go : (b : Bool) → (account_at (xs ++ ys) q ≡ Some e → (account_at xs q ≡ Some e) ⊎ (account_at ys q ≡ Some e)) → cond b (Some (File f.mode f.bytes)) (account_at (xs ++ ys) q) ≡ Some e → (cond b (Some (File f.mode f.bytes)) (account_at xs q) ≡ Some e) ⊎ (account_at ys q ≡ Some e)
    go true rest h = inl h
    go false rest h = rest h

in_book : (path : List ℕ) (mode : ℕ) (before after q : List ℕ) (e : Entry) → account_at (due_book path mode before after) q ≡ Some e → (path ≡ q) × (e ≡ File mode after)
in_book path mode before after q e h = go (same_path before after) h
  where
    here : (c : Bool) → same_path path q ≡ c → cond c (Some (File mode after)) None ≡ Some e → (path ≡ q) × (e ≡ File mode after)
    here true is h = (same_path-true path q is, sym (same_Some (File mode after) e h))
    here false is h = absurd (none-some e h)

    go : (b : Bool) → account_at (cond b [] (record { path = path; mode = mode; bytes = after } ∷ [])) q ≡ Some e → (path ≡ q) × (e ≡ File mode after)
    go true h = absurd (none-some e h)
    go false h = here (same_path path q) refl h

-- which file is due at a path
due_is : (modes : Modes) (before after : Texts) (q : List ℕ) (e : Entry) → account_at (due_books modes before after) q ≡ Some e
    → ((codes "etc/passwd" ≡ q) × (e ≡ File modes.passwd after.passwd)) ⊎ ((codes "etc/shadow" ≡ q) × (e ≡ File modes.shadow after.shadow)) ⊎ ((codes "etc/group" ≡ q) × (e ≡ File modes.group after.group))
due_is modes before after q e h =
    let p = due_book (codes "etc/passwd") modes.passwd before.passwd after.passwd in
    let s = due_book (codes "etc/shadow") modes.shadow before.shadow after.shadow in
    let g = due_book (codes "etc/group") modes.group before.group after.group in
    ⊎_elim
    (λ front. ⊎_elim (λ one. inl (in_book (codes "etc/passwd") modes.passwd before.passwd after.passwd q e one)) (λ two. inr (inl (in_book (codes "etc/shadow") modes.shadow before.shadow after.shadow q e two))) (in_both p s q e front))
    (λ last. inr (inr (in_book (codes "etc/group") modes.group before.group after.group q e last)))
    (in_both (p ++ s) g q e h)

-- no two have one path
apart_of : (x y z : Bool) (mp ms mg : ℕ) (bp bs bg : List ℕ)
    → AreApart (cond x [] (record { path = codes "etc/passwd"; mode = mp; bytes = bp } ∷ []) ++ cond y [] (record { path = codes "etc/shadow"; mode = ms; bytes = bs } ∷ []) ++ cond z [] (record { path = codes "etc/group"; mode = mg; bytes = bg } ∷ []))
apart_of true true true mp ms mg bp bs bg = tt
apart_of true true false mp ms mg bp bs bg = (refl, tt)
apart_of true false true mp ms mg bp bs bg = (refl, tt)
apart_of true false false mp ms mg bp bs bg = (refl, (refl, tt))
apart_of false true true mp ms mg bp bs bg = (refl, tt)
apart_of false true false mp ms mg bp bs bg = (refl, (refl, tt))
apart_of false false true mp ms mg bp bs bg = (refl, (refl, tt))
apart_of false false false mp ms mg bp bs bg = (refl, (refl, (refl, tt)))

-- ---- where an edit succeeds, no path is blocked

pub ok_err : {A E : Type 0} (x : A) (e : E) → Err e ≡ Ok x → ⊥
ok_err x e h = cc

placed_free : (book : Book) (b : Bool) (text : List ℕ) (lines : List AccountLine) → placed_book book b text ≡ Ok lines → b ≡ false
placed_free book true text lines h = absurd (ok_err lines _ h)
placed_free book false text lines h = refl

unblocked : (blocked : Blocked) (base : Texts) (old new : List Fields) (x : Texts) → edited_where blocked base old new ≡ Ok x → (blocked.passwd ≡ false) × (blocked.shadow ≡ false) × (blocked.group ≡ false)
unblocked blocked base old new x h =
    let all = bind_ok (placed_books blocked base) _ x h in
    let p = bind_ok (placed_book Passwd blocked.passwd base.passwd) _ all.0 all.1 in
    let s = bind_ok (placed_book Shadow blocked.shadow base.shadow) _ all.0 p.2 in
    let g = bind_ok (placed_book Group blocked.group base.group) _ all.0 s.2 in
    (placed_free Passwd blocked.passwd base.passwd p.0 p.1, placed_free Shadow blocked.shadow base.shadow s.0 s.1, placed_free Group blocked.group base.group g.0 g.1)

-- ---- of an answer

-- what holds of each answer
ok_where : (P : Files → Type 0) (a : Around) (r : Request) (old new : List Fields) (files : Files) → ((f : Files) → AreEdited a r old new f → P f) → P no_files → Behind a r old new (Ok files) → P files
ok_where P a r old new files edited none h = go (has_accounts old new) h
  where
    go : (b : Bool) → BehindWhere b a r old new (Ok files) → P files
    go true h = edited files h
    go false h = subst P (sym h) none

some_entry : (o : Option Entry) → is_some o ≡ true → (e : Entry) × (o ≡ Some e)
some_entry (Some e) h = (e, refl)
some_entry None h = cc

pub paths : (a : Around) (r : Request) (old new : List Fields) (files : Files) → Behind a r old new (Ok files) → AreAccounts files.due
paths a r old new files = ok_where (λ f. AreAccounts f.due) a r old new files
    (λ f is. λ q some.
    let at = some_entry (account_at f.due q) some in
    let due = due_is is.modes is.base f.books q at.0 (ap (λ d. account_at d q) (sym is.due) ∙ at.1) in
    ⊎_elim (λ p. subst (λ x. is_account_path x ≡ true) p.0 refl) (λ rest. ⊎_elim (λ s. subst (λ x. is_account_path x ≡ true) s.0 refl) (λ g. subst (λ x. is_account_path x ≡ true) g.0 refl) rest) due)
    (λ q some. absurd (let bad : false ≡ true = some in cc))

pub apart : (a : Around) (r : Request) (old new : List Fields) (files : Files) → Behind a r old new (Ok files) → AreApart files.due
apart a r old new files = ok_where (λ f. AreApart f.due) a r old new files
    (λ f is. subst AreApart (sym is.due) (apart_of (same_path is.base.passwd f.books.passwd) (same_path is.base.shadow f.books.shadow) (same_path is.base.group f.books.group) is.modes.passwd is.modes.shadow is.modes.group f.books.passwd f.books.shadow f.books.group))
    tt

small_where : (b : Bool) (a : Around) (r : Request) (path : List ℕ) (default : ℕ) (text : List ℕ) (mode : ℕ) → b ≡ false → AreSmallWanted r.new → IsBaseWhere b a r path default text mode → mode < 4096
small_where true a r path default text mode h few base = cc
small_where false a r path default text mode h few base = base.small few

mode_is : (m n : ℕ) (b c : List ℕ) → File m b ≡ File n c → n ≡ m
mode_is m n b c h = cc

pub modes : (a : Around) (r : Request) (old new : List Fields) (files : Files) → Behind a r old new (Ok files) → AreSmallWanted r.new → HaveSmallModes files.due
modes a r old new files h few = ok_where (λ f. HaveSmallModes f.due) a r old new files
    (λ f is. λ q m b at.
    let free = unblocked is.blocked is.base old new f.books is.edit in
    let due = due_is is.modes is.base f.books q (File m b) (ap (λ d. account_at d q) (sym is.due) ∙ at) in
    ⊎_elim (λ p. subst (λ (k : ℕ). k < 4096) (mode_is m is.modes.passwd b f.books.passwd p.1) (small_where is.blocked.passwd a r (codes "etc/passwd") 420 is.base.passwd is.modes.passwd free.0 few is.bases.passwd))
    (λ rest. ⊎_elim (λ s. subst (λ (k : ℕ). k < 4096) (mode_is m is.modes.shadow b f.books.shadow s.1) (small_where is.blocked.shadow a r (codes "etc/shadow") 256 is.base.shadow is.modes.shadow free.1 few is.bases.shadow))
    (λ g. subst (λ (k : ℕ). k < 4096) (mode_is m is.modes.group b f.books.group g.1) (small_where is.blocked.group a r (codes "etc/group") 420 is.base.group is.modes.group free.2 few is.bases.group)) rest) due)
    (λ q m b at. absurd (none-some (File m b) at)) h

-- ---- what is wanted

file_wanted : (w : Option Wanted) → wants_other_than_file w ≡ false → is_some w ≡ true → is_file_wanted w ≡ true
file_wanted (Some (WantDir m)) h some = cc
file_wanted (Some (WantFile payload m preserve)) h some = refl
file_wanted (Some (WantLink says)) h some = cc
file_wanted (Some (WantHard to)) h some = cc
file_wanted None h some = cc

dir_wanted : (w : Option Wanted) → (is_some w && not (is_dir_wanted w)) ≡ false → is_some w ≡ true → is_dir_wanted w ≡ true
dir_wanted (Some (WantDir m)) h some = refl
dir_wanted (Some (WantFile payload m preserve)) h some = cc
dir_wanted (Some (WantLink says)) h some = cc
dir_wanted (Some (WantHard to)) h some = cc
dir_wanted None h some = cc

above_etc : (p q : List ℕ) → parent q ≡ Some (codes "etc") → is_below p q ≡ true → p ≡ codes "etc"
above_etc p q up below =
    let both = and_parts (covers p q) (not (same_path p q)) below in
    let at = at_parent_of p q both.0 (not-true (same_path p q) both.1) in
    let dir = same_Some at.dir (codes "etc") (sym at.is ∙ up) in
    go (same_path p (codes "etc")) refl (subst (λ x. covers p x ≡ true) dir at.up)
  where
    go : (b : Bool) → same_path p (codes "etc") ≡ b → covers p (codes "etc") ≡ true → p ≡ codes "etc"
    go true is over = same_path-true p (codes "etc") is
    go false is over = absurd (none-some _ (at_parent_of p (codes "etc") over is).is)

abbrev FitsList : Request → List DueFile → Type 0
FitsList r accounts = ((q : List ℕ) → IsTrue (is_some (account_at accounts q)) → IsTrue (is_some (r.new.at q)) → IsTrue (is_file_wanted (r.new.at q)))
    × ((p q : List ℕ) → IsTrue (is_some (account_at accounts q)) → IsTrue (is_below p q) → IsTrue (is_some (r.new.at p)) → IsTrue (is_dir_wanted (r.new.at p)))

edited_fits : (a : Around) (r : Request) (old new : List Fields) (f : Files) → AreEdited a r old new f → FitsList r f.due
edited_fits a r old new f is = (files, above)
  where
    free : (is.blocked.passwd ≡ false) × (is.blocked.shadow ≡ false) × (is.blocked.group ≡ false)
    free = unblocked is.blocked is.base old new f.books is.edit

    due : (q : List ℕ) → is_some (account_at f.due q) ≡ true → (codes "etc/passwd" ≡ q) ⊎ (codes "etc/shadow" ≡ q) ⊎ (codes "etc/group" ≡ q)
    due q some =
        let at = some_entry (account_at f.due q) some in
        ⊎_elim (λ p. inl p.0) (λ rest. ⊎_elim (λ s. inr (inl s.0)) (λ g. inr (inr g.0)) rest) (due_is is.modes is.base f.books q at.0 (ap (λ d. account_at d q) (sym is.due) ∙ at.1))

    wanted : (path q : List ℕ) → wants_other_than_file (r.new.at path) ≡ false → path ≡ q → is_some (r.new.at q) ≡ true → is_file_wanted (r.new.at q) ≡ true
    wanted path q none here want = subst (λ x. is_file_wanted (r.new.at x) ≡ true) here (file_wanted (r.new.at path) none (subst (λ x. is_some (r.new.at x) ≡ true) (sym here) want))

    files : (q : List ℕ) → IsTrue (is_some (account_at f.due q)) → IsTrue (is_some (r.new.at q)) → IsTrue (is_file_wanted (r.new.at q))
    files q some want =
        ⊎_elim (λ p. wanted (codes "etc/passwd") q (is.bases.blocks.passwd free.0) p want)
        (λ rest. ⊎_elim (λ s. wanted (codes "etc/shadow") q (is.bases.blocks.shadow free.1) s want) (λ g. wanted (codes "etc/group") q (is.bases.blocks.group free.2) g want) rest) (due q some)

    up : (q : List ℕ) → is_some (account_at f.due q) ≡ true → parent q ≡ Some (codes "etc")
    up q some =
        ⊎_elim (λ p. subst (λ x. parent x ≡ Some (codes "etc")) p refl)
        (λ rest. ⊎_elim (λ s. subst (λ x. parent x ≡ Some (codes "etc")) s refl) (λ g. subst (λ x. parent x ≡ Some (codes "etc")) g refl) rest) (due q some)

    above : (p q : List ℕ) → IsTrue (is_some (account_at f.due q)) → IsTrue (is_below p q) → IsTrue (is_some (r.new.at p)) → IsTrue (is_dir_wanted (r.new.at p))
    above p q some below want =
        let etc = above_etc p q (up q some) below in
        subst (λ x. is_dir_wanted (r.new.at x) ≡ true) (sym etc) (dir_wanted (r.new.at (codes "etc")) (is.bases.blocks.folder free.0) (subst (λ x. is_some (r.new.at x) ≡ true) etc want))

pub fits : (a : Around) (r : Request) (old new : List Fields) (files : Files) (due : Due) → Behind a r old new (Ok files) → due.accounts ≡ files.due → FitsAccounts due r.new
fits a r old new files due h same =
    let fit = subst (FitsList r) (sym same) (ok_where (λ f. FitsList r f.due) a r old new files (λ f is. edited_fits a r old new f is) ((λ q some want. absurd (nothing some)), (λ p q some below want. absurd (nothing some))) h) in
    record { files = fit.0; above = fit.1 }
  where
    nothing : false ≡ true → ⊥
    nothing h = cc
