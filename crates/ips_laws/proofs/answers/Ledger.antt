-- The account files behind a request are those over what is seen of the image, and so is what is said by what is due.
use Rattle.std.proofs.Common.{◌≡◌, inl, inr, ℕ, Bool, true, false, cond, not, ◌||◌, ◌==◌, List, [], ◌∷◌, ◌++◌, map, filter, Option, Some, None, Result, Ok, Err, is_some, codes, refl, sym, ◌∙◌, ap, subst}
use Rattle.std.specs.List.{AllByRecursion}
use Rattle.std.proofs.lemmas.Bool.{false_from_ne_true, or_cases}
use Rattle.ips_text.specs.Ancestry.{same_path}
use Rattle.ips_text.proofs.Ancestry.{same_path-true}
use Rattle.ips_outside.specs.Image.{Entry, Image}
use Rattle.ips_steps.specs.Steps.{stage_name}
use Rattle.ips_steps.specs.Private.{gate_name, is_private, journal_name, mark_front, visible}
use Rattle.ips_steps.proofs.Lists.{clash}
use Rattle.ips_action.specs.Action.{Fields}
use Rattle.ips_meaning.specs.declared.entry.Entry as meaning
use Rattle.ips_index.specs.Rows.{IndexedValue}
use Rattle.ips_state.specs.State.{Installed, Recorded}
use Rattle.ips_state.specs.Records.{common_records, gone_stems, index_records, manifest_path, package_path, records_by, records_of, taken_away, taken_by}
use Rattle.ips_state.specs.declared.state.State.{State}
use Rattle.ips_after.specs.After.{IsEmptied, change_after}
use Rattle.ips_after.specs.Change.{Change, joins, replaces}
use Rattle.ips_after.specs.Findings.{is_account_path}
use Rattle.ips_after.specs.Lists.{listed}
use Rattle.ips_after.specs.Request.{Over, Request}
use Rattle.ips_after.proofs.Fits.{at_listed}
use Rattle.ips_change.specs.wanted.Wanted.{want_of}
use Rattle.ips_due.specs.Delivered.{Delivered, Legacy, License, delivered_gone, delivered_records, gone_license, has_legacy_package, has_license, has_stem, legacy_folder, legacy_record, license_folder, license_record, request_due}
use Rattle.ips_due.specs.Due.{Content, Due, DueFile, IsOverOf, MeansSame, account_at, goes_with, own_records, record_at, said, said_by, said_rest}
use Rattle.ips_due.proofs.Same.{over_same}
use Rattle.ips_due.proofs.StateDue.{all_append, at_record, own_all, packages_seen, renewed_is}
use Rattle.ips_metafiles.specs.Records.{license_path}
use Rattle.ips_account_files.specs.declared.ledger.fault.LedgerFault.{LedgerFault}
use Rattle.ips_account_files.specs.ledger.Blocking.{is_folder_blocked, is_in_way, wants_other_than_file}
use Rattle.ips_account_files.specs.ledger.Left.{IsLeftOf, IsOwnLeft, file_left, left_told, only_file, own_left}
use Rattle.ips_account_files.specs.ledger.Texts.{IsTextLeft}
use Rattle.ips_account_files.specs.declared.ledger.left.Left.{Left}
use Rattle.ips_account_files.specs.Around.{Around, has_accounts}
use Rattle.ips_account_files.specs.Bases.{IsBaseOf, IsBaseWhere, blocked_by}
use Rattle.ips_account_files.specs.Behind.{AreEdited, Behind, BehindWhere, Files}
use Rattle.ips_plan.specs.image_plan.Accounts.{AnsweredWhere, Given, IsLedger, around_given, silent_request}
use Rattle.ips_laws.proofs.answers.Quiet.{IsBetween, after_at, emptied_seen, left_at, look_seen}

-- ---- account files

-- No account file is private.
passwd_seen : is_private (codes "etc/passwd") ≡ false
unfolding stage_name journal_name gate_name mark_front
passwd_seen = refl

shadow_seen : is_private (codes "etc/shadow") ≡ false
unfolding stage_name journal_name gate_name mark_front
shadow_seen = refl

group_seen : is_private (codes "etc/group") ≡ false
unfolding stage_name journal_name gate_name mark_front
group_seen = refl

module _ (was is : List (List ℕ × meaning.Entry)) (bytes : List ℕ → List ℕ) (between : IsBetween (want_of was) (want_of is)) (h : Image) (tells : Bool) (publisher : List ℕ) (repository : Image) where
  abbrev r : Request
  r = silent_request was is bytes

  abbrev v : Image
  v = visible h

  -- what is given with this image
  abbrev given_with : Image → Given
  given_with t = record { told = true; image = t; tells = tells; publisher = publisher; repository = repository }

  shown : (q : List ℕ) → is_private q ≡ false → v.look q ≡ h.look q
  shown q s = look_seen (want_of was) (want_of is) bytes between h q s

  module _ (e : List ℕ → Bool) (empties : IsEmptied r h e) where
    abbrev with_image : Image → Around
    with_image t = around_given (given_with t) e

    own_seen : (p : List ℕ) → is_private p ≡ false → own_left r h e p ≡ own_left r v e p
    own_seen p s = ap (λ (c : Change). cond (joins c) None (file_left r h e p)) (after_at (want_of was) (want_of is) bytes between h e empties p)
        ∙ ap (λ (o : Option Entry). cond (joins (change_after r v e p)) None (only_file o)) (left_at (want_of was) (want_of is) bytes between h e empties p s)

    left_seen : (p : List ℕ) → is_private p ≡ false → (left : Left) → IsLeftOf r h e p left → IsLeftOf r v e p left
    left_seen p s left x = record {
      is = ap (λ (o : Option Entry). left_told bytes o left) (shown p s) ∙ x.is ∙ own_seen p s;
      own = subst (λ (c : Change). IsOwnLeft (replaces c) (r.new.at p) left) (after_at (want_of was) (want_of is) bytes between h e empties p) x.own;
    }

    base_seen : (p : List ℕ) → is_private p ≡ false → (default : ℕ) (text : List ℕ) (mode : ℕ) → IsBaseOf (with_image h) r p default text mode → IsBaseOf (with_image v) r p default text mode
    base_seen p s default text mode x = record {
      left = x.left;
      leaves = λ told. left_seen p s x.left (x.leaves told);
      reads = subst (λ (o : Option Entry). IsTextLeft true o tells publisher repository x.left text) (sym (shown p s)) x.reads;
      gives = x.gives;
      within = x.within;
      small = x.small;
    }

    base_where : (blocked : Bool) (p : List ℕ) → is_private p ≡ false → (default : ℕ) (text : List ℕ) (mode : ℕ) → IsBaseWhere blocked (with_image h) r p default text mode → IsBaseWhere blocked (with_image v) r p default text mode
    base_where true p s default text mode x = x
    base_where false p s default text mode x = base_seen p s default text mode x

    blocked_seen : blocked_by r h ≡ blocked_by r v
    blocked_seen = λ i. record {
      passwd = is_folder_blocked r || (wants_other_than_file (r.new.at (codes "etc/passwd")) || is_in_way (sym (shown (codes "etc/passwd") passwd_seen) i));
      shadow = wants_other_than_file (r.new.at (codes "etc/shadow")) || is_in_way (sym (shown (codes "etc/shadow") shadow_seen) i);
      group = wants_other_than_file (r.new.at (codes "etc/group")) || is_in_way (sym (shown (codes "etc/group") group_seen) i);
    }

    edited_seen : (before after : List Fields) (files : Files) → AreEdited (with_image h) r before after files → AreEdited (with_image v) r before after files
    edited_seen before after files x = record {
      blocked = x.blocked;
      base = x.base;
      modes = x.modes;
      bases = record {
        blocks = record { seen = λ told. x.bases.blocks.seen told ∙ blocked_seen; folder = x.bases.blocks.folder; passwd = x.bases.blocks.passwd; shadow = x.bases.blocks.shadow; group = x.bases.blocks.group };
        passwd = base_where x.blocked.passwd (codes "etc/passwd") passwd_seen 420 x.base.passwd x.modes.passwd x.bases.passwd;
        shadow = base_where x.blocked.shadow (codes "etc/shadow") shadow_seen 256 x.base.shadow x.modes.shadow x.bases.shadow;
        group = base_where x.blocked.group (codes "etc/group") group_seen 420 x.base.group x.modes.group x.bases.group;
      };
      edit = x.edit;
      due = x.due;
    }

    behind_seen : (some : Bool) (before after : List Fields) (files : Files) → BehindWhere some (with_image h) r before after (Ok files) → BehindWhere some (with_image v) r before after (Ok files)
    behind_seen true before after files x = edited_seen before after files x
    behind_seen false before after files x = x

  answered_seen : (some : Bool) (before after : List Fields) (files : Files) → AnsweredWhere some (given_with h) was is bytes before after (Ok files) → AnsweredWhere some (given_with v) was is bytes before after (Ok files)
  answered_seen true before after files x = record {
    emptied = x.emptied;
    is_emptied = λ told. emptied_seen (want_of was) (want_of is) bytes between h x.emptied (x.is_emptied told);
    behind = behind_seen x.emptied (x.is_emptied refl) (has_accounts before after) before after files x.behind;
  }
  answered_seen false before after files x = x

  pub ledger_seen : (old new : State) (files : Files) → IsLedger (given_with h) old new was is bytes (Ok files) → IsLedger (given_with v) old new was is bytes (Ok files)
  ledger_seen old new files x = record { before = x.before; were_accounts = x.were_accounts; after = x.after; are_accounts = x.are_accounts; answered = answered_seen (has_accounts x.before x.after) x.before x.after files x.answered }

-- ---- which files are due

-- Where account files are given, those that are due are account files.
abbrev pub FilesAreAccounts : Type 0
FilesAreAccounts = (a : Around) (r : Request) (old new : List Fields) (files : Files) → Behind a r old new (Ok files) → (q : List ℕ) → is_some (account_at files.due q) ≡ true → is_account_path q ≡ true

abbrev due_in : Result Files LedgerFault → List DueFile
due_in (Ok files) = files.due
due_in (Err why) = []

pub ledger_accounts : FilesAreAccounts → (g : Given) (old new : State) (was is : List (List ℕ × meaning.Entry)) (bytes : List ℕ → List ℕ) (files : Files) → IsLedger g old new was is bytes (Ok files)
    → (q : List ℕ) → is_some (account_at files.due q) ≡ true → is_account_path q ≡ true
ledger_accounts accounts g old new was is bytes files l = go (has_accounts l.before l.after) l.answered
  where
    go : (some : Bool) → AnsweredWhere some g was is bytes l.before l.after (Ok files) → (q : List ℕ) → is_some (account_at files.due q) ≡ true → is_account_path q ≡ true
    go true x = accounts (around_given g x.emptied) (silent_request was is bytes) l.before l.after files x.behind
    go false e = λ q there. let none : is_some (account_at (due_in (Ok files)) q) ≡ false = ap (λ (a : Result Files LedgerFault). is_some (account_at (due_in a) q)) e in clash (is_some (account_at files.due q)) there none

-- ---- what is due is at no private name

abbrev IsShown : List ℕ → Type 0
IsShown q = is_private q ≡ false

both_shown : (xs ys : List (List ℕ)) → AllByRecursion IsShown xs → AllByRecursion IsShown ys → AllByRecursion IsShown (xs ++ ys)
both_shown [] ys a b = b
both_shown (x ∷ xs) ys a b = (a.0, both_shown xs ys a.1 b)

index_shown : (o : Option (List IndexedValue)) → AllByRecursion (λ (e : List ℕ × List ℕ). IsShown e.0) (index_records o)
unfolding stage_name journal_name gate_name mark_front
index_shown None = tt
index_shown (Some rows) = (refl, tt)

common_shown : (r : Recorded) → AllByRecursion (λ (e : List ℕ × List ℕ). IsShown e.0) (common_records r)
unfolding stage_name journal_name gate_name mark_front
common_shown r = (refl, (refl, (refl, (refl, (refl, index_shown r.index)))))

placed_shown : (path : List ℕ → List ℕ) → ((stem : List ℕ) → IsShown (path stem)) → (text : Installed → List ℕ) (ps : List Installed) → AllByRecursion (λ (e : List ℕ × List ℕ). IsShown e.0) (map (λ p. (path p.stem, text p)) ps)
placed_shown path at text [] = tt
placed_shown path at text (p ∷ ps) = (at p.stem, placed_shown path at text ps)

manifest_shown : (stem : List ℕ) → IsShown (manifest_path stem)
unfolding stage_name journal_name gate_name mark_front
manifest_shown stem = refl

package_shown : (stem : List ℕ) → IsShown (package_path stem)
unfolding stage_name journal_name gate_name mark_front
package_shown stem = refl

installed_shown : (f : Bool) (ps : List Installed) → AllByRecursion (λ (e : List ℕ × List ℕ). IsShown e.0) (records_by f ps)
unfolding stage_name journal_name gate_name mark_front
installed_shown true ps = (refl, placed_shown manifest_path manifest_shown _ ps)
installed_shown false ps = placed_shown package_path package_shown _ ps

licenses_shown : (ls : List License) → AllByRecursion (λ (e : List ℕ × Content). IsShown e.0) (map license_record ls)
unfolding stage_name journal_name gate_name mark_front
licenses_shown [] = tt
licenses_shown (l ∷ ls) = (refl, licenses_shown ls)

legacy_shown : (gs : List Legacy) → AllByRecursion (λ (e : List ℕ × Content). IsShown e.0) (map legacy_record gs)
unfolding stage_name journal_name gate_name mark_front
legacy_shown [] = tt
legacy_shown (g ∷ gs) = (refl, legacy_shown gs)

delivered_shown : (d : Delivered) → AllByRecursion (λ (e : List ℕ × Content). IsShown e.0) (delivered_records d)
unfolding stage_name journal_name gate_name mark_front
delivered_shown d = (refl, (refl, all_append IsShown (map license_record d.licenses) (map legacy_record d.legacy) (licenses_shown d.licenses) (legacy_shown d.legacy)))

map_shown : (path : List ℕ → List ℕ) → ((stem : List ℕ) → IsShown (path stem)) → (stems : List (List ℕ)) → AllByRecursion IsShown (map path stems)
map_shown path at [] = tt
map_shown path at (s ∷ stems) = (at s, map_shown path at stems)

taken_shown : (was is : Bool) (old new : List Installed) → AllByRecursion IsShown (taken_by was is old new)
unfolding stage_name journal_name gate_name mark_front
taken_shown true true old new = map_shown manifest_path manifest_shown (gone_stems old new)
taken_shown true false old new = (refl, (refl, tt))
taken_shown false true old new = tt
taken_shown false false old new = map_shown package_path package_shown (gone_stems old new)

license_shown : (l : License) → IsShown (license_path l.stem l.name)
unfolding stage_name journal_name gate_name mark_front
license_shown l = refl

license_folder_shown : (l : License) → IsShown (license_folder l.stem)
unfolding stage_name journal_name gate_name mark_front
license_folder_shown l = refl

gone_license_shown : (b : Bool) (l : License) → IsShown (cond b (license_path l.stem l.name) (license_folder l.stem))
gone_license_shown true l = license_shown l
gone_license_shown false l = license_folder_shown l

gone_shown : (new ls : List License) → AllByRecursion IsShown (map (gone_license new) ls)
gone_shown new [] = tt
gone_shown new (l ∷ ls) = (gone_license_shown (has_stem new l.stem) l, gone_shown new ls)

folders_shown : (gs : List Legacy) → AllByRecursion IsShown (map (λ (g : Legacy). legacy_folder g.pkg) gs)
unfolding stage_name journal_name gate_name mark_front
folders_shown [] = tt
folders_shown (g ∷ gs) = (refl, folders_shown gs)

module _ (files : List DueFile) (old new : Recorded) (was is : Delivered) (accounts : (q : List ℕ) → is_some (account_at files q) ≡ true → is_account_path q ≡ true) where
  abbrev due : Due
  due = request_due files old new was is

  record_shown : (q : List ℕ) → is_some (record_at due.records q) ≡ true → IsShown q
  record_shown q there = at_record IsShown due.records q
      (all_append IsShown (own_records (records_of new)) (delivered_records is)
      (own_all IsShown (records_of new) (all_append IsShown (common_records new) (records_by (new.format == 1) new.installed) (common_shown new) (installed_shown (new.format == 1) new.installed)))
      (delivered_shown is)) there

  renewed_shown : (q : List ℕ) → listed due.renewed q ≡ true → IsShown q
  renewed_shown q there = ap is_private (renewed_is (old.format == 1) (new.format == 1) q there).0 ∙ packages_seen

  gone_are_shown : (q : List ℕ) → listed due.gone q ≡ true → IsShown q
  gone_are_shown q there = at_listed IsShown due.gone q
      (both_shown (taken_away old new) (delivered_gone was is) (taken_shown (old.format == 1) (new.format == 1) old.installed new.installed)
      (both_shown (map (gone_license is.licenses) (filter (λ (l : License). not (has_license is.licenses l)) was.licenses)) (map (λ (g : Legacy). legacy_folder g.pkg) (filter (λ (g : Legacy). not (has_legacy_package is.legacy g.pkg)) was.legacy))
      (gone_shown is.licenses (filter (λ (l : License). not (has_license is.licenses l)) was.licenses)) (folders_shown (filter (λ (g : Legacy). not (has_legacy_package is.legacy g.pkg)) was.legacy)))) there

  module _ (bytes : List ℕ → List ℕ) (holds : List ℕ → List ℕ → Bool) (t : Image) where
    -- where nothing is due it doesn't count what stands
    quiet : (a : Option Entry) (c : Option Content) (n g goes : Bool) (e other : Option Entry) → is_some a ≡ false → is_some c ≡ false → n ≡ false → g ≡ false
        → said_by bytes holds a c goes (said_rest n false g e) e ≡ said_by bytes holds a c goes (said_rest n false g other) other
    quiet None None false false goes e other x y z w = refl
    quiet (Some file) c n g goes e other x y z w = cc
    quiet None (Some content) n g goes e other x y z w = cc
    quiet None None true g goes e other x y z w = cc
    quiet None None false true goes e other x y z w = cc

    said_shown : (q : List ℕ) → said bytes holds due (visible t) q ≡ said bytes holds due t q
    said_shown q = go (is_private q) refl
      where
        account : is_account_path q ≡ true → IsShown q
        account is = elim (or_cases (same_path (codes "etc/passwd") q) _ is) [
          | inl one ↦ subst IsShown (same_path-true (codes "etc/passwd") q one) passwd_seen
          | inr more ↦ elim (or_cases (same_path (codes "etc/shadow") q) _ more) [
            | inl two ↦ subst IsShown (same_path-true (codes "etc/shadow") q two) shadow_seen
            | inr three ↦ subst IsShown (same_path-true (codes "etc/group") q three) group_seen
          ]
        ]

        none : (b : Bool) → is_private q ≡ true → (b ≡ true → IsShown q) → b ≡ false
        none b own shows = false_from_ne_true b (λ there. clash (is_private q) own (shows there))

        go : (b : Bool) → is_private q ≡ b → said bytes holds due (visible t) q ≡ said bytes holds due t q
        go false s = ap (λ (e : Option Entry). said_by bytes holds (account_at due.accounts q) (record_at due.records q) (goes_with due q) (said_rest (listed due.renewed q) (listed due.folders q) (listed due.gone q) e) e) (ap (λ (b : Bool). cond b None (t.look q)) s)
        go true own = quiet (account_at due.accounts q) (record_at due.records q) (listed due.renewed q) (listed due.gone q) (goes_with due q) _ (t.look q)
            (none (is_some (account_at due.accounts q)) own (λ there. account (accounts q there))) (none (is_some (record_at due.records q)) own (record_shown q))
            (none (listed due.renewed q) own (renewed_shown q)) (none (listed due.gone q) own (gone_are_shown q))

    over_due_seen : (o : Over) → IsOverOf bytes holds due t o → IsOverOf bytes holds due (visible t) o
    over_due_seen o x = record { at = λ q. x.at q ∙ sym (said_shown q); accounts = x.accounts; keyed = x.keyed; closed = x.closed; only = x.only; by_bytes = x.by_bytes }

    -- what is said of the whole image is said of the visible one, by whatever means the same
    pub over_seen : (a : Due) (o : Over) → MeansSame a due → IsOverOf bytes holds a t o → IsOverOf bytes holds a (visible t) o
    over_seen a o same x =
        let back : MeansSame due a = record { accounts = λ q. sym (same.accounts q); records = λ q. sym (same.records q); renewed = λ q. sym (same.renewed q); folders = λ q. sym (same.folders q); gone = λ q. sym (same.gone q) } in
        over_same due a back bytes holds (visible t) o (over_due_seen o (over_same a due same bytes holds t o x))
