-- What account files and records say fits what is wanted.
use Rattle.std.proofs.Common.{◌≡◌, ℕ, Bool, true, false, cond, ◌||◌, List, [], ◌∷◌, Option, Some, None, is_some, is_none, refl, sym, ◌∙◌, ap, subst, inl, inr}
use Rattle.std.specs.Prelude.{codes}
use Rattle.std.proofs.lemmas.Bool.{and_parts, or_parts, or_cases, or_left, or_right, cases_Bool, false_from_ne_true}
use Rattle.ips_text.specs.Ancestry.{same_path, covers, is_below}
use Rattle.ips_text.proofs.Ancestry.{same_path-true, covers_trans}
use Rattle.ips_outside.specs.Image.{Entry, Dir, File, Image, is_dir}
use Rattle.ips_steps.specs.Steps.{stage_name}
use Rattle.ips_steps.specs.Private.{records_name, journal_name, gate_name, mark_front}
use Rattle.ips_steps.specs.Journal.{may_name}
use Rattle.ips_steps.proofs.Lists.{clash}
use Rattle.ips_after.specs.Findings.{is_account_path}
use Rattle.ips_after.specs.Lists.{listed}
use Rattle.ips_after.specs.Request.{IsWant, Over, OverFits, Want, is_dir_wanted, is_file_wanted, lays, lays_dir, lays_file, plain_entry}
use Rattle.ips_after.proofs.Fits.{below_of, below_trans, dir_of_wanted}
use Rattle.ips_after.proofs.Places.{below_off, may_of}
use Rattle.ips_after.proofs.Saved.{comparable}
use Rattle.ips_due.specs.Due.{Content, Due, DueFile, FitsAccounts, IsDue, IsOverOf, LeavesOwn, account_at, bytes_of_content, goes_with, is_due, is_own, record_at, said, said_by, said_gone, said_rest}

-- what is said of a path, by cases: an account file, a record, a folder or nothing but what goes
pub data Said (due : Due) (q : List ℕ) : Option (Option Entry) → Type 0 where
  Account : (m : ℕ) (b : List ℕ) → account_at due.accounts q ≡ Some (File m b) → Said due q (Some (Some (File m b)))
  Record : (b : List ℕ) → is_some (record_at due.records q) ≡ true → Said due q (Some (Some (File 420 b)))
  Folder : (listed due.renewed q || listed due.folders q) ≡ true → Said due q (Some (Some (Dir 493 false)))
  Gone : listed due.gone q ≡ true → Said due q (Some None)
  Silent : Said due q None

account_file : (files : List DueFile) (q : List ℕ) (e : Entry) → account_at files q ≡ Some e → (m : ℕ) × (b : List ℕ) × (e ≡ File m b)
account_file [] q e h = cc
account_file (f ∷ files) q e h = go (same_path f.path q) (account_file files q e) h
  where
    go : (c : Bool) → (account_at files q ≡ Some e → (m : ℕ) × (b : List ℕ) × (e ≡ File m b)) → cond c (Some (File f.mode f.bytes)) (account_at files q) ≡ Some e → (m : ℕ) × (b : List ℕ) × (e ≡ File m b)
    go true rest h = (f.mode, f.bytes, cc)
    go false rest h = rest h

pub said_is : (bytes : List ℕ → List ℕ) (holds : List ℕ → List ℕ → Bool) (due : Due) (t : Image) (q : List ℕ) → Said due q (said bytes holds due t q)
said_is bytes holds due t q = go (account_at due.accounts q) refl (record_at due.records q) refl
  where
    bottom : (g : Bool) → listed due.gone q ≡ g → (s : Bool) → Said due q (cond g (cond s (Some None) None) None)
    bottom true is true = Gone is
    bottom true is false = Silent
    bottom false is s = Silent

    folder : (f : Bool) → listed due.folders q ≡ f → (d : Bool) → Said due q (cond f (cond d None (Some (Some (Dir 493 false)))) (cond (listed due.gone q) (said_gone (t.look q)) None))
    folder true is true = Silent
    folder true is false = Folder (or_right (listed due.renewed q) _ is)
    folder false is d = bottom (listed due.gone q) refl (is_some (t.look q))

    rest : (n : Bool) → listed due.renewed q ≡ n → Said due q (said_rest n (listed due.folders q) (listed due.gone q) (t.look q))
    rest true is = Folder (or_left _ (listed due.folders q) is)
    rest false is = folder (listed due.folders q) refl (is_dir (t.look q))

    record_due : (x : Content) → record_at due.records q ≡ Some x → (c : Bool) → Said due q (cond c None (Some (Some (File 420 (bytes_of_content bytes x)))))
    record_due x is true = Silent
    record_due x is false = Record (bytes_of_content bytes x) (ap is_some is)

    go : (a : Option Entry) → account_at due.accounts q ≡ a → (b : Option Content) → record_at due.records q ≡ b
        → Said due q (said_by bytes holds a b (goes_with due q) (said_rest (listed due.renewed q) (listed due.folders q) (listed due.gone q) (t.look q)) (t.look q))
    go (Some e) is b at =
        let (m, file, one) = account_file due.accounts q e is in
        subst (λ (x : Entry). Said due q (Some (Some x))) (sym one) (Account m file (is ∙ ap (λ (x : Entry). Some x) one))
    go None is (Some b) at = record_due b at _
    go None is None at = rest (listed due.renewed q) refl

own_of_record : (due : Due) (q : List ℕ) → is_some (record_at due.records q) ≡ true → (is_some (record_at due.records q) || (listed due.renewed q || (listed due.folders q || listed due.gone q))) ≡ true
own_of_record due q h = or_left _ _ h

own_of_folder : (due : Due) (q : List ℕ) → (listed due.renewed q || listed due.folders q) ≡ true → (is_some (record_at due.records q) || (listed due.renewed q || (listed due.folders q || listed due.gone q))) ≡ true
own_of_folder due q h = or_right (is_some (record_at due.records q)) _ (elim (or_cases (listed due.renewed q) (listed due.folders q) h) [
  | inl n ↦ or_left _ _ n
  | inr f ↦ or_right (listed due.renewed q) _ (or_left _ _ f)
])

own_of_gone : (due : Due) (q : List ℕ) → listed due.gone q ≡ true → (is_some (record_at due.records q) || (listed due.renewed q || (listed due.folders q || listed due.gone q))) ≡ true
own_of_gone due q h = or_right (is_some (record_at due.records q)) _ (or_right (listed due.renewed q) _ (or_right (listed due.folders q) _ h))

pub due_of_folder : (due : Due) (q : List ℕ) → (listed due.renewed q || listed due.folders q) ≡ true → is_due due q ≡ true
due_of_folder due q h = or_right (is_some (account_at due.accounts q)) _ (or_right (is_some (record_at due.records q)) _ h)

pub due_of_record : (due : Due) (q : List ℕ) → is_some (record_at due.records q) ≡ true → is_due due q ≡ true
due_of_record due q h = or_right (is_some (account_at due.accounts q)) _ (or_left _ _ h)

pub due_of_account : (due : Due) (q : List ℕ) → is_some (account_at due.accounts q) ≡ true → is_due due q ≡ true
due_of_account due q h = or_left _ _ h

-- an account file isn't the image's own
own_off : (x q : List ℕ) → same_path x q ≡ true → covers records_name x ≡ false → covers (codes "var/sadm/pkg") x ≡ false → is_own q ≡ true → ⊥
own_off x q same one two own =
    let at : x ≡ q = same_path-true x q same in
    elim (or_cases (is_below records_name q) (is_below (codes "var/sadm/pkg") q) own) [
      | inl h ↦ clash (covers records_name q) (and_parts (covers records_name q) _ h).0 (ap (covers records_name) (sym at) ∙ one)
      | inr h ↦ clash (covers (codes "var/sadm/pkg") q) (and_parts (covers (codes "var/sadm/pkg") q) _ h).0 (ap (covers (codes "var/sadm/pkg")) (sym at) ∙ two)
    ]

account_apart : (q : List ℕ) → is_account_path q ≡ true → is_own q ≡ true → ⊥
unfolding records_name
account_apart q acc own = elim (or_cases (same_path (codes "etc/passwd") q) _ acc) [
  | inl one ↦ own_off (codes "etc/passwd") q one refl refl own
  | inr more ↦ elim (or_cases (same_path (codes "etc/shadow") q) _ more) [
    | inl two ↦ own_off (codes "etc/shadow") q two refl refl own
    | inr three ↦ own_off (codes "etc/group") q three refl refl own
  ]
]

-- what is above an account file isn't either
pub own_down : (p q : List ℕ) → is_below p q ≡ true → is_own p ≡ true → is_own q ≡ true
own_down p q up own =
    let over = (and_parts (covers p q) _ up).0 in
    elim (or_cases (is_below records_name p) (is_below (codes "var/sadm/pkg") p) own) [
      | inl h ↦ or_left _ _ (below_trans records_name p q h up)
      | inr h ↦ or_right (is_below records_name q) _ (below_trans (codes "var/sadm/pkg") p q h up)
    ]

module _ (bytes : List ℕ → List ℕ) (holds : List ℕ → List ℕ → Bool) (due : Due) (t : Image) (o : Over) (new : Want) (is : IsDue due) (of : IsOverOf bytes holds due t o) (want : IsWant new) (accounts : FitsAccounts due new) (left : LeavesOwn due new) where
  of_said : (q : List ℕ) → Said due q (o.at q)
  of_said q = subst (Said due q) (sym (of.at q)) (said_is bytes holds due t q)

  entry_plain : (q : List ℕ) (e : Entry) → (x : Option (Option Entry)) → Said due q x → x ≡ Some (Some e) → plain_entry e ≡ true
  entry_plain q e _ (Account m b at) h = let one : File m b ≡ e = cc in ap plain_entry (sym one)
  entry_plain q e _ (Record b at) h = let one : File 420 b ≡ e = cc in ap plain_entry (sym one)
  entry_plain q e _ (Folder at) h = let one : Dir 493 false ≡ e = cc in ap plain_entry (sym one)
  entry_plain q e _ (Gone at) h = cc
  entry_plain q e _ Silent h = cc

  own_unwanted : (q : List ℕ) → is_own q ≡ true → is_some (new.at q) ≡ true → ⊥
  own_unwanted q own h = clash (is_some (new.at q)) h (ap is_some (left.none q own))

  wanted_among : (q : List ℕ) (x : Option (Option Entry)) → Said due q x → is_some x ≡ true → is_some (new.at q) ≡ true → (is_file_wanted (new.at q) ≡ true) × (o.is_account q ≡ true) × (lays_file x ≡ true)
  wanted_among q _ (Account m b at) h new = let there = ap is_some at in (accounts.files q there new, of.accounts q ∙ is.accounts q there, refl)
  wanted_among q _ (Record b at) h new = absurd (own_unwanted q (is.own q (own_of_record due q at)).0 new)
  wanted_among q _ (Folder at) h new = absurd (own_unwanted q (is.own q (own_of_folder due q at)).0 new)
  wanted_among q _ (Gone at) h new = absurd (own_unwanted q (is.own q (own_of_gone due q at)).0 new)
  wanted_among q _ Silent h new = cc

  -- what is wanted at or above a folder that is wanted as a directory is one
  dir_over : (p x : List ℕ) → is_dir_wanted (new.at x) ≡ true → covers p x ≡ true → is_dir_wanted (new.at p) ≡ true
  dir_over p x dir over = elim (cases_Bool (same_path p x)) [
    | inl same ↦ ap (λ (y : List ℕ). is_dir_wanted (new.at y)) (same_path-true p x same) ∙ dir
    | inr apart ↦ want.dirs p x (below_of p x over apart) (dir_of_wanted (new.at x) dir)
  ]

  over_own : (p q x : List ℕ) → is_below p q ≡ true → is_below x q ≡ true → ((y : List ℕ) → is_below x y ≡ true → is_own y ≡ true) → is_dir_wanted (new.at x) ≡ true → is_some (new.at p) ≡ true → is_dir_wanted (new.at p) ≡ true
  over_own p q x up own owned dir there = elim (comparable p x q (and_parts (covers p q) _ up).0 (and_parts (covers x q) _ own).0) [
    | inl over ↦ dir_over p x dir over
    | inr under ↦ elim (cases_Bool (same_path x p)) [
      | inl same ↦ ap (λ (y : List ℕ). is_dir_wanted (new.at y)) (sym (same_path-true x p same)) ∙ dir
      | inr apart ↦ absurd (own_unwanted p (owned p (below_of x p under apart)) there)
    ]
  ]

  own_above : (p q : List ℕ) → is_below p q ≡ true → is_own q ≡ true → is_due due q ≡ true → is_some (new.at p) ≡ true → is_dir_wanted (new.at p) ≡ true
  own_above p q up own wanted there = elim (or_cases (is_below records_name q) (is_below (codes "var/sadm/pkg") q) own) [
    | inl records ↦ over_own p q records_name up records (λ y h. or_left _ _ h) left.folder there
    | inr legacy ↦ over_own p q (codes "var/sadm/pkg") up legacy (λ y h. or_right (is_below records_name y) _ h) (left.legacy q legacy wanted) there
  ]

  above_at : (p q : List ℕ) → is_below p q ≡ true → (x : Option (Option Entry)) → Said due q x → lays x ≡ true → is_some (new.at p) ≡ true → is_dir_wanted (new.at p) ≡ true
  above_at p q up _ (Account m b at) h there = accounts.above p q (ap is_some at) up there
  above_at p q up _ (Record b at) h there = own_above p q up (is.own q (own_of_record due q at)).0 (due_of_record due q at) there
  above_at p q up _ (Folder at) h there = own_above p q up (is.own q (own_of_folder due q at)).0 (due_of_folder due q at) there
  above_at p q up _ (Gone at) h there = cc
  above_at p q up _ Silent h there = cc

  due_of_laid : (q : List ℕ) (x : Option (Option Entry)) → Said due q x → lays x ≡ true → is_due due q ≡ true
  due_of_laid q _ (Account m b at) h = due_of_account due q (ap is_some at)
  due_of_laid q _ (Record b at) h = due_of_record due q at
  due_of_laid q _ (Folder at) h = due_of_folder due q at
  due_of_laid q _ (Gone at) h = cc
  due_of_laid q _ Silent h = cc

  -- above what is laid nothing but folders is spoken of
  laid_above : (p q : List ℕ) → is_below p q ≡ true → is_due due q ≡ true → (x : Option (Option Entry)) → Said due p x → is_some x ≡ true → (lays_dir x ≡ true) × (o.is_account q ≡ false)
  laid_above p q up wanted _ (Account m b at) h = absurd (clash (is_some (account_at due.accounts p)) (ap is_some at) (or_parts (is_some (account_at due.accounts p)) _ (is.flat p q up wanted)).0)
  laid_above p q up wanted _ (Record b at) h = absurd (clash (is_some (record_at due.records p)) at (or_parts (is_some (record_at due.records p)) _ (or_parts (is_some (account_at due.accounts p)) _ (is.flat p q up wanted)).1).0)
  laid_above p q up wanted _ (Gone at) h = absurd (clash (listed due.gone p) at (or_parts (is_some (record_at due.records p)) _ (or_parts (is_some (account_at due.accounts p)) _ (is.flat p q up wanted)).1).1)
  laid_above p q up wanted _ (Folder at) h = (refl, of.accounts q ∙ false_from_ne_true _ (λ acc. account_apart q acc (own_down p q up (is.own p (own_of_folder due p at)).0)))
  laid_above p q up wanted _ Silent h = cc

  pub over_fits : OverFits o new
  over_fits = record {
    keyed = of.keyed;
    closed = of.closed;
    by_bytes = of.by_bytes;
    entries = λ q e at. entry_plain q e (o.at q) (of_said q) at;
    wanted = λ q h there. wanted_among q (o.at q) (of_said q) h there;
    above_wanted = λ p q up laid there. above_at p q up (o.at q) (of_said q) laid there;
    above_laid = λ p q up laid h. laid_above p q up (due_of_laid q (o.at q) (of_said q) laid) (o.at p) (of_said p) h;
  }

-- the image's own isn't above the folder of the records
own_beside : (q : List ℕ) → is_own q ≡ true → covers q records_name ≡ false
unfolding records_name
own_beside q own = elim (or_cases (is_below records_name q) (is_below (codes "var/sadm/pkg") q) own) [
  | inl h ↦ below_off q h
  | inr h ↦ false_from_ne_true _ (λ over. let far : covers (codes "var/sadm/pkg") (codes "var/pkg") ≡ true = covers_trans (codes "var/sadm/pkg") q (codes "var/pkg") (and_parts (covers (codes "var/sadm/pkg") q) _ h).0 over in absurd (cc))
]

account_may : (x q : List ℕ) → same_path x q ≡ true → may_name x ≡ true → may_name q ≡ true
account_may x q same may = ap may_name (sym (same_path-true x q same)) ∙ may

account_named : (q : List ℕ) → is_account_path q ≡ true → may_name q ≡ true
unfolding records_name stage_name journal_name gate_name mark_front
account_named q acc = elim (or_cases (same_path (codes "etc/passwd") q) _ acc) [
  | inl one ↦ account_may (codes "etc/passwd") q one refl
  | inr more ↦ elim (or_cases (same_path (codes "etc/shadow") q) _ more) [
    | inl two ↦ account_may (codes "etc/shadow") q two refl
    | inr three ↦ account_may (codes "etc/group") q three refl
  ]
]

-- a journal can name what is spoken of
pub over_named : (bytes : List ℕ → List ℕ) (holds : List ℕ → List ℕ → Bool) (due : Due) (t : Image) (o : Over) (q : List ℕ) → IsDue due → IsOverOf bytes holds due t o → is_some (o.at q) ≡ true → may_name q ≡ true
over_named bytes holds due t o q is of h = go (o.at q) (subst (Said due q) (sym (of.at q)) (said_is bytes holds due t q)) h
  where
    own : (is_some (record_at due.records q) || (listed due.renewed q || (listed due.folders q || listed due.gone q))) ≡ true → may_name q ≡ true
    own h = let o = is.own q h in may_of q o.1 (own_beside q o.0)

    go : (x : Option (Option Entry)) → Said due q x → is_some x ≡ true → may_name q ≡ true
    go _ (Account m b at) h = account_named q (is.accounts q (ap is_some at))
    go _ (Record b at) h = own (own_of_record due q at)
    go _ (Folder at) h = own (own_of_folder due q at)
    go _ (Gone at) h = own (own_of_gone due q at)
    go _ Silent h = cc

-- of what goes nothing is said where nothing stands
pub nothing_gone : (g : Bool) (e : Option Entry) → is_none e ≡ true → cond g (said_gone e) None ≡ None
nothing_gone true (Some e) h = cc
nothing_gone true None h = refl
nothing_gone false e h = refl
