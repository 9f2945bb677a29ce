-- What a request makes due lies outside the folder of all salvage folders.
use Rattle.std.proofs.Common.{◌≡◌, ◌⊎◌, inl, inr, ℕ, Bool, true, false, not, ◌||◌, ◌==◌, List, [], ◌∷◌, ◌++◌, map, filter, cond, Option, Some, None, is_some, refl, sym, ap, subst}
use Rattle.std.specs.List.{AllByRecursion}
use Rattle.std.proofs.lemmas.Bool.{or_cases, or_left, or_right}
use Rattle.ips_text.specs.Ancestry.{covers}
use Rattle.ips_outside.specs.Image.{Entry, Image}
use Rattle.ips_after.specs.Findings.{is_account_path}
use Rattle.ips_after.specs.Lists.{listed}
use Rattle.ips_after.specs.Request.{Over}
use Rattle.ips_metafiles.specs.Records.{license_path}
use Rattle.ips_index.specs.Rows.{IndexedValue}
use Rattle.ips_state.specs.Records.{common_records, gone_stems, index_records, manifest_path, package_path, records_by, records_of, taken_away, taken_by}
use Rattle.ips_state.specs.State.{Installed, Recorded}
use Rattle.ips_due.specs.Apart.{LeavesSalvage, lost_path}
use Rattle.ips_due.specs.Delivered.{AreNamedByBytes, Delivered, Legacy, License, delivered_gone, delivered_records, gone_license, has_legacy_package, has_license, has_stem, legacy_folder, legacy_record, license_folder, license_record, request_due}
use Rattle.ips_due.specs.Due.{Content, Due, DueFile, IsDue, IsOverOf, account_at, is_own, own_records, record_at}
use Rattle.ips_due.specs.State.{renewed_by}
use Rattle.ips_due.proofs.Fitting.{Account, Folder, Gone, Record, Said, Silent, said_is}
use Rattle.ips_due.proofs.RequestDue.{request_is_due}
use Rattle.ips_after.proofs.Fits.{at_listed}
use Rattle.ips_due.proofs.StateDue.{all_append, at_record, own_all, renewed_is}

-- the path lies outside that folder
abbrev Off : List ℕ → Type 0
Off x = covers lost_path x ≡ false

-- ---- records

abbrev OffFile : {V : Type 0} → List ℕ × V → Type 0
OffFile e = Off e.0

index_off : (o : Option (List IndexedValue)) → AllByRecursion (λ (e : List ℕ × List ℕ). Off e.0) (index_records o)
index_off None = tt
index_off (Some rows) = (refl, tt)

common_off : (r : Recorded) → AllByRecursion (λ (e : List ℕ × List ℕ). Off e.0) (common_records r)
common_off r = (refl, (refl, (refl, (refl, (refl, index_off r.index)))))

placed_off : (path : List ℕ → List ℕ) → ((stem : List ℕ) → Off (path stem)) → (text : Installed → List ℕ) (ps : List Installed) → AllByRecursion (λ (e : List ℕ × List ℕ). Off e.0) (map (λ p. (path p.stem, text p)) ps)
placed_off path at text [] = tt
placed_off path at text (p ∷ ps) = (at p.stem, placed_off path at text ps)

installed_off : (f : Bool) (ps : List Installed) → AllByRecursion (λ (e : List ℕ × List ℕ). Off e.0) (records_by f ps)
installed_off true ps = (refl, placed_off manifest_path (λ s. refl) _ ps)
installed_off false ps = placed_off package_path (λ s. refl) _ ps

licenses_off : (ls : List License) → AllByRecursion (λ (e : List ℕ × Content). Off e.0) (map license_record ls)
licenses_off [] = tt
licenses_off (l ∷ ls) = (refl, licenses_off ls)

legacy_off : (gs : List Legacy) → AllByRecursion (λ (e : List ℕ × Content). Off e.0) (map legacy_record gs)
legacy_off [] = tt
legacy_off (g ∷ gs) = (refl, legacy_off gs)

delivered_off : (d : Delivered) → AllByRecursion (λ (e : List ℕ × Content). Off e.0) (delivered_records d)
delivered_off d = (refl, (refl, all_append Off (map license_record d.licenses) (map legacy_record d.legacy) (licenses_off d.licenses) (legacy_off d.legacy)))

-- ---- what goes

stems_off : (path : List ℕ → List ℕ) → ((s : List ℕ) → Off (path s)) → (stems : List (List ℕ)) → AllByRecursion Off (map path stems)
stems_off path at [] = tt
stems_off path at (s ∷ stems) = (at s, stems_off path at stems)

taken_off : (was is : Bool) (old new : List Installed) → AllByRecursion Off (taken_by was is old new)
taken_off true true old new = stems_off manifest_path (λ s. refl) (gone_stems old new)
taken_off true false old new = (refl, (refl, tt))
taken_off false true old new = tt
taken_off false false old new = stems_off package_path (λ s. refl) (gone_stems old new)

gone_licenses_off : (new ls : List License) → AllByRecursion Off (map (gone_license new) ls)
gone_licenses_off new [] = tt
gone_licenses_off new (l ∷ ls) = (one (has_stem new l.stem), gone_licenses_off new ls)
  where
    one : (b : Bool) → Off (cond b (license_path l.stem l.name) (license_folder l.stem))
    one true = refl
    one false = refl

gone_legacy_off : (gs : List Legacy) → AllByRecursion Off (map (λ (g : Legacy). legacy_folder g.pkg) gs)
gone_legacy_off [] = tt
gone_legacy_off (g ∷ gs) = (refl, gone_legacy_off gs)

both_off : (xs ys : List (List ℕ)) → AllByRecursion Off xs → AllByRecursion Off ys → AllByRecursion Off (xs ++ ys)
both_off [] ys a b = b
both_off (x ∷ xs) ys a b = (a.0, both_off xs ys a.1 b)

module _ (bytes : List ℕ → List ℕ) (holds : List ℕ → List ℕ → Bool) (accounts : List DueFile) (old new : Recorded) (was is : Delivered) (t : Image) (o : Over)
    (files : (q : List ℕ) → is_some (account_at accounts q) ≡ true → is_account_path q ≡ true) (named_old : AreNamedByBytes was) (named : AreNamedByBytes is)
    (over : IsOverOf bytes holds (request_due accounts old new was is) t o) where
  abbrev due : Due
  due = request_due accounts old new was is

  hangs : IsDue due
  hangs = request_is_due accounts old new was is files named_old named

  record_off : (q : List ℕ) → is_some (record_at due.records q) ≡ true → Off q
  record_off q h = at_record Off due.records q (all_append Off (own_records (records_of new)) (delivered_records is)
      (own_all Off (records_of new) (all_append Off (common_records new) (records_by (new.format == 1) new.installed) (common_off new) (installed_off (new.format == 1) new.installed))) (delivered_off is)) h

  gone_off : (q : List ℕ) → listed due.gone q ≡ true → Off q
  gone_off q h = at_listed Off due.gone q (both_off (taken_away old new) (delivered_gone was is) (taken_off (old.format == 1) (new.format == 1) old.installed new.installed)
      (both_off (map (gone_license is.licenses) (filter (λ (l : License). not (has_license is.licenses l)) was.licenses)) _
      (gone_licenses_off is.licenses (filter (λ (l : License). not (has_license is.licenses l)) was.licenses))
      (gone_legacy_off (filter (λ (g : Legacy). not (has_legacy_package is.legacy g.pkg)) was.legacy)))) h

  folder_off : (q : List ℕ) → (listed (renewed_by (old.format == 1) (new.format == 1)) q || false) ≡ true → Off q
  folder_off q h = elim (or_cases (listed (renewed_by (old.format == 1) (new.format == 1)) q) false h) [
    | inl renewed ↦ ap (covers lost_path) (renewed_is (old.format == 1) (new.format == 1) q renewed).0
    | inr none ↦ cc
  ]

  pub leaves : LeavesSalvage o
  leaves = record { at = λ q s. go q (o.at q) (subst (Said due q) (sym (over.at q)) (said_is bytes holds due t q)) s; only = over.only }
    where
      go : (q : List ℕ) (x : Option (Option Entry)) → Said due q x → is_some x ≡ true → (is_account_path q ≡ true) ⊎ ((is_own q ≡ true) × (covers lost_path q ≡ false))
      go q _ (Account m b at) h = inl (files q (ap is_some at))
      go q _ (Record b at) h = inr ((hangs.own q (or_left _ _ at)).0, record_off q at)
      go q _ (Folder at) h = inr ((hangs.own q (or_right (is_some (record_at due.records q)) _ (folder at))).0, folder_off q at)
        where
          folder : (listed due.renewed q || listed due.folders q) ≡ true → (listed due.renewed q || (listed due.folders q || listed due.gone q)) ≡ true
          folder f = elim (or_cases (listed due.renewed q) (listed due.folders q) f) [
            | inl r ↦ or_left _ _ r
            | inr x ↦ cc
          ]
      go q _ (Gone at) h = inr ((hangs.own q (or_right (is_some (record_at due.records q)) _ (or_right (listed due.renewed q) _ (or_right (listed due.folders q) _ at)))).0, gone_off q at)
      go q _ Silent h = cc
