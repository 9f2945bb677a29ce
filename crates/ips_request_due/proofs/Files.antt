-- Account files that are due stand at their paths, with permission bits.
use Rattle.std.proofs.Common.{◌≡◌, ◌++◌, ℕ, ◌<◌, Bool, true, false, cond, List, [], ◌∷◌, Some, is_some, refl, sym, subst}
use Rattle.std.specs.Prelude.{codes}
use Rattle.std.specs.List.{AllByRecursion}
use Rattle.std.proofs.lemmas.Bool.{true≢false}
use Rattle.std.proofs.lemmas.Option.{none-some, same_Some}
use Rattle.ips_text.specs.Ancestry.{same_path}
use Rattle.ips_text.proofs.Ancestry.{same_path-true}
use Rattle.ips_text.proofs.Lists.{all_append}
use Rattle.ips_books.specs.Reading.{Texts}
use Rattle.ips_outside.specs.Image.{File}
use Rattle.ips_after.specs.Findings.{is_account_path}
use Rattle.ips_due.specs.Due.{DueFile, account_at}
use Rattle.ips_account_files.specs.ledger.Editing.{due_book, due_books}
use Rattle.ips_account_files.specs.declared.ledger.outdated.Modes.{Modes}
use Rattle.ips_request_due.specs.RequestDue.{AreAccountFiles}

-- The file stands at the path of an account file, and its mode is permission bits.
abbrev IsAccountFile : DueFile → Type 0
IsAccountFile f = (is_account_path f.path ≡ true) × (f.mode < 4096)

path_of : (files : List DueFile) → AllByRecursion IsAccountFile files → (q : List ℕ) → is_some (account_at files q) ≡ true → is_account_path q ≡ true
path_of [] all q h = absurd (true≢false (sym h))
path_of (f ∷ files) all q h = go (same_path f.path q) refl h (path_of files all.1 q)
  where
    go : (t : Bool) → same_path f.path q ≡ t → is_some (cond t (Some (File f.mode f.bytes)) (account_at files q)) ≡ true → (is_some (account_at files q) ≡ true → is_account_path q ≡ true) → is_account_path q ≡ true
    go true same h later = subst (λ (x : List ℕ). is_account_path x ≡ true) (same_path-true f.path q same) all.0.0
    go false apart h later = later h

mode_of : (files : List DueFile) → AllByRecursion IsAccountFile files → (q : List ℕ) (m : ℕ) (b : List ℕ) → account_at files q ≡ Some (File m b) → m < 4096
mode_of [] all q m b h = absurd (none-some (File m b) h)
mode_of (f ∷ files) all q m b h = go (same_path f.path q) h (mode_of files all.1 q m b)
  where
    go : (t : Bool) → cond t (Some (File f.mode f.bytes)) (account_at files q) ≡ Some (File m b) → (account_at files q ≡ Some (File m b) → m < 4096) → m < 4096
    go true is later =
        let one : File f.mode f.bytes ≡ File m b = same_Some (File f.mode f.bytes) (File m b) is in
        let mode : f.mode ≡ m = cc in
        subst (λ (n : ℕ). n < 4096) mode all.0.1
    go false is later = later is

one_book : (path : List ℕ) (mode : ℕ) (before after : List ℕ) → is_account_path path ≡ true → mode < 4096 → AllByRecursion IsAccountFile (due_book path mode before after)
one_book path mode before after at bits = go (same_path before after)
  where
    go : (t : Bool) → AllByRecursion IsAccountFile (cond t [] (record { path = path; mode = mode; bytes = after } ∷ []))
    go true = tt
    go false = ((at, bits), tt)

pub changed_files : (modes : Modes) (before after : Texts) → modes.passwd < 4096 → modes.shadow < 4096 → modes.group < 4096 → AreAccountFiles (due_books modes before after)
changed_files modes before after passwd shadow group =
    let one = due_book (codes "etc/passwd") modes.passwd before.passwd after.passwd in
    let two = due_book (codes "etc/shadow") modes.shadow before.shadow after.shadow in
    let three = due_book (codes "etc/group") modes.group before.group after.group in
    let first = all_append IsAccountFile one two (one_book (codes "etc/passwd") modes.passwd before.passwd after.passwd refl passwd) (one_book (codes "etc/shadow") modes.shadow before.shadow after.shadow refl shadow) in
    let all = all_append IsAccountFile (one ++ two) three first (one_book (codes "etc/group") modes.group before.group after.group refl group) in
    record { paths = path_of ((one ++ two) ++ three) all; modes = mode_of ((one ++ two) ++ three) all }
