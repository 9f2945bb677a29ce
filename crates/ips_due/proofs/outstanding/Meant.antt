-- What is noted of all that is due is what is said.
use Rattle.std.proofs.Common.{◌≡◌, ℕ, Bool, true, false, cond, List, [], ◌∷◌, map, take, Option, Some, None, refl, sym, ap, ◌∙◌}
use Rattle.std.specs.Prelude.{slice_get, is_some, option_map}
use Rattle.std.specs.Option.{unwrap_or}
use Rattle.std.proofs.lemmas.Option.{slice_get-map}
use Rattle.ips_text.specs.Ancestry.{same_path}
use Rattle.ips_outside.specs.Image.{Entry, File, Image}
use Rattle.ips_after.specs.Lists.{listed}
use Rattle.ips_due.specs.Due.{Content, Due, DueFile, account_at, goes_with, record_at, said, said_by, said_record, said_rest}
use Rattle.ips_due.specs.declared.outstanding.asking.Role.TheVariants as role
use Rattle.ips_due.specs.declared.outstanding.due.AccountFile.{AccountFile}
use Rattle.ips_due.specs.declared.outstanding.notes.Notes.{Notes}
use Rattle.ips_due.specs.declared.outstanding.verdict.Verdict.{Verdict}
use Rattle.ips_due.specs.declared.outstanding.verdict.Verdict.TheVariants as verdict
use Rattle.ips_due.specs.outstanding.Noted.{Adds, account_said, either, noted, record_said, shown, told}
use Rattle.ips_due.specs.outstanding.Parts.{due_file}
use Rattle.ips_due.specs.outstanding.Verdicts.{account_entry, meant, role_said}
use Rattle.ips_due.proofs.outstanding.Noting.{Says, first_at, first_here, first_listed}
use Rattle.ips_change.specs.wanted.Named.{is_payload_of}

-- ---- account files

-- the path of an account file
abbrev pub account_path : AccountFile → List ℕ
account_path f = f.path.bytes

-- the entry of an account file
abbrev pub account_file : AccountFile → Entry
account_file f = File f.mode f.bytes.items

account_first : (accounts : List AccountFile) (q : List ℕ) → account_at (map due_file accounts) q ≡ first_at account_path account_file accounts q
account_first [] q = refl
account_first (f ∷ accounts) q = ap (λ (o : Option Entry). cond (same_path f.path.bytes q) (Some (account_file f)) o) (account_first accounts q)

account_listed : (accounts : List AccountFile) (q : List ℕ) → listed (map account_path accounts) q ≡ is_some (account_at (map due_file accounts) q)
account_listed accounts q = first_listed account_path account_file accounts q ∙ ap (λ (o : Option Entry). is_some o) (sym (account_first accounts q))

pub account_own : (bytes : List ℕ → List ℕ) (due : Due) (accounts : List AccountFile) (n : ℕ) (f : AccountFile) → due.accounts ≡ map due_file accounts → slice_get accounts n ≡ Some f → listed (map account_path (take n accounts)) f.path.bytes ≡ false
    → meant bytes due (Some (verdict.Account n)) ≡ account_said (account_at due.accounts f.path.bytes)
account_own bytes due accounts n f is here apart =
    ap (λ (files : List DueFile). Some (Some (account_entry (slice_get files n)))) is
    ∙ ap (λ (o : Option DueFile). Some (Some (account_entry o))) (slice_get-map due_file accounts n ∙ ap (option_map due_file) here)
    ∙ sym (ap (λ (files : List DueFile). account_said (account_at files f.path.bytes)) is ∙ ap (λ (o : Option Entry). account_said o) (account_first accounts f.path.bytes ∙ first_here account_path account_file accounts n f here apart))

-- ---- records

-- a record's path, and its content
abbrev pub Kept : Type 0
Kept = List ℕ × Content

abbrev pub kept_path : Kept → List ℕ
kept_path r = r.0

abbrev pub kept_content : Kept → Content
kept_content r = r.1

record_first : (records : List Kept) (q : List ℕ) → record_at records q ≡ first_at kept_path kept_content records q
record_first [] q = refl
record_first (r ∷ records) q = ap (λ (o : Option Content). cond (same_path r.0 q) (Some r.1) o) (record_first records q)

record_listed : (records : List Kept) (q : List ℕ) → listed (map kept_path records) q ≡ is_some (record_at records q)
record_listed records q = first_listed kept_path kept_content records q ∙ ap (λ (o : Option Content). is_some o) (sym (record_first records q))

pub record_own : (bytes : List ℕ → List ℕ) (due : Due) (records : List Kept) (n : ℕ) (r : Kept) (goes : Bool) (e : Option Entry) → due.records ≡ records → slice_get records n ≡ Some r → listed (map kept_path (take n records)) r.0 ≡ false
    → said_record bytes is_payload_of r.1 goes e ≡ record_said bytes (record_at due.records r.0) goes e
record_own bytes due records n r goes e is here apart =
    sym (ap (λ (o : Option Content). record_said bytes o goes e) (ap (λ (l : List Kept). record_at l r.0) is ∙ record_first records r.0 ∙ first_here kept_path kept_content records n r here apart))

-- ---- all

combined : (bytes : List ℕ → List ℕ) (a : Option Entry) (r : Option Content) (goes renewed folder gone : Bool) (e : Option Entry)
    → unwrap_or
    (either
    (either (either (either (cond (is_some a) (Some (account_said a)) None) (cond (is_some r) (Some (record_said bytes r goes e)) None)) (cond renewed (Some (role_said role.Renewed e)) None)) (cond folder (Some (role_said role.Folder e)) None))
    (cond gone (Some (role_said role.Gone e)) None)) None
    ≡ said_by bytes is_payload_of a r goes (said_rest renewed folder gone e) e
combined bytes (Some a) r goes renewed folder gone e = refl
combined bytes None (Some b) goes renewed folder gone e = refl
combined bytes None None goes true folder gone e = refl
combined bytes None None goes false true gone e = refl
combined bytes None None goes false false true e = refl
combined bytes None None goes false false false e = refl

meant_told : (bytes : List ℕ → List ℕ) (due : Due) (o : Option (Option Verdict)) → meant bytes due (unwrap_or o None) ≡ unwrap_or (option_map (meant bytes due) o) None
meant_told bytes due (Some v) = refl
meant_told bytes due None = refl

-- the notes of all five lists, one after another
pub record Chain (bytes : List ℕ → List ℕ) (due : Due) (t : Image) (goes : List ℕ → Bool) (zero one two three four five : Notes) (accounts records renewed folders gone : List (List ℕ)) : Type 0 where
  pub none : (q : List ℕ) → noted zero q ≡ None
  pub account : Adds bytes due zero one accounts (λ q. account_said (account_at due.accounts q))
  pub record_ : Adds bytes due one two records (λ q. record_said bytes (record_at due.records q) (goes q) (t.look q))
  pub renew : Adds bytes due two three renewed (λ q. role_said role.Renewed (t.look q))
  pub folder : Adds bytes due three four folders (λ q. role_said role.Folder (t.look q))
  pub go : Adds bytes due four five gone (λ q. role_said role.Gone (t.look q))

pub told_due : (bytes : List ℕ → List ℕ) (due : Due) (t : Image) (goes : List ℕ → Bool) (zero one two three four five : Notes) (accounts : List AccountFile) → due.accounts ≡ map due_file accounts
    → Chain bytes due t goes zero one two three four five (map account_path accounts) (map kept_path due.records) due.renewed due.folders due.gone → ((q : List ℕ) → goes q ≡ goes_with due q)
    → (q : List ℕ) → meant bytes due (told five q) ≡ said bytes is_payload_of due t q
told_due bytes due t goes zero one two three four five accounts is all going q =
    let none : shown bytes due zero q ≡ None = ap (option_map (meant bytes due)) (all.none q) in
    let files = listed (map account_path accounts) q in
    let a = account_at due.accounts q in
    let r = record_at due.records q in
    let e = t.look q in
    let a_is : files ≡ is_some a = account_listed accounts q ∙ ap (λ (l : List DueFile). is_some (account_at l q)) (sym is) in
    let r_is : listed (map kept_path due.records) q ≡ is_some r = record_listed due.records q in
    let first : shown bytes due one q ≡ cond (is_some a) (Some (account_said a)) None = all.account q ∙ ap (λ (o : Option Says). either o (cond files (Some (account_said a)) None)) none ∙ ap (λ (b : Bool). cond b (Some (account_said a)) None) a_is in
    let second = all.record_ q ∙ ap (λ (o : Option Says). either o (cond (listed (map kept_path due.records) q) (Some (record_said bytes r (goes q) e)) None)) first
    ∙ ap (λ (b : Bool). either (cond (is_some a) (Some (account_said a)) None) (cond b (Some (record_said bytes r (goes q) e)) None)) r_is in
    let third = all.renew q ∙ ap (λ (o : Option Says). either o (cond (listed due.renewed q) (Some (role_said role.Renewed e)) None)) second in
    let fourth = all.folder q ∙ ap (λ (o : Option Says). either o (cond (listed due.folders q) (Some (role_said role.Folder e)) None)) third in
    let fifth = all.go q ∙ ap (λ (o : Option Says). either o (cond (listed due.gone q) (Some (role_said role.Gone e)) None)) fourth in
    meant_told bytes due (noted five q) ∙ ap (λ (o : Option Says). unwrap_or o None) fifth ∙ combined bytes a r (goes q) (listed due.renewed q) (listed due.folders q) (listed due.gone q) e
    ∙ ap (λ (b : Bool). said_by bytes is_payload_of a r b (said_rest (listed due.renewed q) (listed due.folders q) (listed due.gone q) e) e) (going q)
