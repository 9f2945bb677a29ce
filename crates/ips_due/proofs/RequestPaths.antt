-- Where a request's account files and records are due, and what goes, are paths.
use Rattle.std.proofs.Common.{◌≡◌, ℕ, ◌<◌, Bool, true, false, cond, not, ◌||◌, ◌==◌, List, [], ◌∷◌, ◌++◌, map, filter, length, Option, Some, None, is_some, refl, sym, ◌∙◌, ap, subst, inl, inr, arith, append_assoc, length-append}
use Rattle.std.specs.Prelude.{codes, IsTrue}
use Rattle.std.specs.List.{AllByRecursion, join_with_byte, list_all}
use borrow.Author.Tests.{leb-true}
use Rattle.std.proofs.lemmas.Bool.{agree_below_at, or_cases}
use Rattle.std.proofs.lemmas.List.Concat.{flat_map-cons}
use Rattle.std.proofs.lemmas.List.Folds.{list_all-append}
use Rattle.ips_text.specs.Ancestry.{same_path}
use Rattle.ips_text.specs.Path.{IsPath}
use Rattle.ips_text.specs.Quote.{quoted, quoted_byte, AreBytes}
use Rattle.ips_text.proofs.Ancestry.{same_path-true}
use Rattle.ips_fmri.specs.Name.{IsStem}
use Rattle.ips_records.proofs.Joined.{is_name_byte, IsFileName, joined_path, pkg_name}
use Rattle.ips_metafiles.specs.Records.{license_path}
use Rattle.ips_metafiles.proofs.Licenses.{license_is_path}
use Rattle.ips_index.specs.Rows.{IndexedValue}
use Rattle.ips_state.specs.Form.{IsPackage}
use Rattle.ips_state.specs.Lawful.{IsLawful}
use Rattle.ips_state.specs.State.{Installed, Recorded}
use Rattle.ips_state.specs.Records.{common_records, index_path, index_records, listed_records, manifest_path, package_path, package_records, packages_path, records_by, records_of, taken_away, taken_by}
use Rattle.ips_state.proofs.Places.{manifest_is_path, package_is_path}
use Rattle.ips_outside.specs.Image.{File}
use Rattle.ips_after.specs.Findings.{is_account_path}
use Rattle.ips_after.specs.Lists.{listed}
use Rattle.ips_due.specs.Due.{account_at, Content, DueFile, HasProperDue, is_due, own_records, record_at}
use Rattle.ips_due.specs.State.{renewed_by}
use Rattle.ips_due.specs.Delivered.{CanBeNamed, CanName, Delivered, Legacy, License, creation_due, delivered_gone, delivered_records, first_folders, gone_license, has_legacy_package, has_license, has_stem, info_path, legacy_folder, legacy_record, license_folder, license_record, request_due}
use Rattle.ips_after.proofs.Fits.{at_listed}
use Rattle.ips_due.proofs.StateDue.{all_append, at_record, own_all, renewed_is}

-- ---- paths by their parts

in_pkg : (name : List ℕ) → IsFileName name → IsPath (join_with_byte 47 (codes "var" ∷ codes "pkg" ∷ name ∷ []))
in_pkg name n = joined_path (codes "var" ∷ codes "pkg" ∷ name ∷ []) (record { bytes = refl; some = omega arith; few = omega arith; no_dots = refl }, (pkg_name, n)) (omega (arith, n.few))

quoted_name : (name : List ℕ) → CanName name → IsFileName (quoted name)
unfolding quoted
quoted_name name h = record { bytes = plain name h.0; some = h.1.some; few = leb-true (length (quoted name)) 255 h.1.short; no_dots = h.1.no_dots }
  where
    plain : (bytes : List ℕ) → AreBytes bytes → list_all is_name_byte (quoted bytes) ≡ true
    plain [] are = refl
    plain (b ∷ bytes) are =
        ap (list_all is_name_byte) (flat_map-cons quoted_byte b bytes) ∙ list_all-append is_name_byte (quoted_byte b) (quoted bytes)
        ∙ rw (agree_below_at (λ c. list_all is_name_byte (quoted_byte c)) (λ c. true) 256 b refl are.0, plain bytes are.1) refl

license_folder_path : (stem : List ℕ) → CanName stem → IsPath (license_folder stem)
license_folder_path stem h =
    let last = quoted_name stem h in
    joined_path (codes "var" ∷ codes "pkg" ∷ codes "license" ∷ quoted stem ∷ []) (record { bytes = refl; some = omega arith; few = omega arith; no_dots = refl }, (pkg_name, (record { bytes = refl; some = omega arith; few = omega arith; no_dots = refl }, last))) (omega (arith, last.few))

legacy_folder_path : (name : List ℕ) → CanName name → IsPath (legacy_folder name)
legacy_folder_path name h =
    let last = quoted_name name h in
    joined_path (codes "var" ∷ codes "sadm" ∷ codes "pkg" ∷ quoted name ∷ []) (record { bytes = refl; some = omega arith; few = omega arith; no_dots = refl }, (record { bytes = refl; some = omega arith; few = omega arith; no_dots = refl }, (pkg_name, last))) (omega (arith, last.few))

info_is_path : (name : List ℕ) → CanName name → IsPath (info_path name)
info_is_path name h =
    let middle = quoted_name name h in
    let names : List (List ℕ) = codes "var" ∷ codes "sadm" ∷ codes "pkg" ∷ quoted name ∷ codes "pkginfo" ∷ [] in
    let is : join_with_byte 47 names ≡ info_path name = simp append_assoc in
    subst IsPath is (joined_path names (record { bytes = refl; some = omega arith; few = omega arith; no_dots = refl }, (record { bytes = refl; some = omega arith; few = omega arith; no_dots = refl }, (pkg_name, (middle, record { bytes = refl; some = omega arith; few = omega arith; no_dots = refl })))) (simp length-append (omega (arith, middle.few))))

file_in : (name : List ℕ) → IsFileName name → IsPath (join_with_byte 47 (codes "etc" ∷ name ∷ []))
file_in name n = joined_path (codes "etc" ∷ name ∷ []) (record { bytes = refl; some = omega arith; few = omega arith; no_dots = refl }, n) (omega (arith, n.few))

account_is : (q : List ℕ) → is_account_path q ≡ true → IsPath q
account_is q h = elim (or_cases (same_path (codes "etc/passwd") q) (same_path (codes "etc/shadow") q || same_path (codes "etc/group") q) h) [
  | inl one ↦ subst IsPath (same_path-true (codes "etc/passwd") q one) (file_in (codes "passwd") (record { bytes = refl; some = omega arith; few = omega arith; no_dots = refl }))
  | inr more ↦ elim (or_cases (same_path (codes "etc/shadow") q) (same_path (codes "etc/group") q) more) [
    | inl two ↦ subst IsPath (same_path-true (codes "etc/shadow") q two) (file_in (codes "shadow") (record { bytes = refl; some = omega arith; few = omega arith; no_dots = refl }))
    | inr three ↦ subst IsPath (same_path-true (codes "etc/group") q three) (file_in (codes "group") (record { bytes = refl; some = omega arith; few = omega arith; no_dots = refl }))
  ]
]

-- ---- records of a state

abbrev ArePaths : List (List ℕ × List ℕ) → Type 0
ArePaths files = AllByRecursion (λ (e : List ℕ × List ℕ). IsPath e.0) files

index_paths : (o : Option (List IndexedValue)) → ArePaths (index_records o)
index_paths None = cc
index_paths (Some rows) = (in_pkg (codes "index") (record { bytes = refl; some = omega arith; few = omega arith; no_dots = refl }), cc)

common_paths : (r : Recorded) → ArePaths (common_records r)
common_paths r = (in_pkg (codes "image") (record { bytes = refl; some = omega arith; few = omega arith; no_dots = refl }), (in_pkg (codes "avoid") (record { bytes = refl; some = omega arith; few = omega arith; no_dots = refl }), (in_pkg (codes "freeze") (record { bytes = refl; some = omega arith; few = omega arith; no_dots = refl }), (in_pkg (codes "mediators") (record { bytes = refl; some = omega arith; few = omega arith; no_dots = refl }), (in_pkg (codes "history") (record { bytes = refl; some = omega arith; few = omega arith; no_dots = refl }), index_paths r.index)))))

package_paths : (path : List ℕ → List ℕ) (text : Installed → List ℕ) → ((s : List ℕ) → IsStem false s → IsPath (path s)) → (ps : List Installed) → AllByRecursion IsPackage ps → ArePaths (map (λ p. (path p.stem, text p)) ps)
package_paths path text at [] each = cc
package_paths path text at (p ∷ ps) each = (at p.stem each.0.stem, package_paths path text at ps each.1)

state_paths : (f : Bool) (r : Recorded) → AllByRecursion IsPackage r.installed → ArePaths (common_records r ++ records_by f r.installed)
state_paths true r each = all_append IsPath (common_records r) (listed_records r.installed) (common_paths r) (in_pkg (codes "installed") (record { bytes = refl; some = omega arith; few = omega arith; no_dots = refl }), package_paths manifest_path _ manifest_is_path r.installed each)
state_paths false r each = all_append IsPath (common_records r) (package_records r.installed) (common_paths r) (package_paths package_path _ package_is_path r.installed each)

stems_are : (ps : List Installed) → AllByRecursion IsPackage ps → AllByRecursion (IsStem false) (map (λ p. p.stem) ps)
stems_are [] each = cc
stems_are (p ∷ ps) each = (each.0.stem, stems_are ps each.1)

-- of what passes a test, each is at a path
kept_paths : {A : Type 0} (P : A → Type 0) (path : A → List ℕ) → ((x : A) → P x → IsPath (path x)) → (test : A → Bool) (xs : List A) → AllByRecursion P xs → AllByRecursion IsPath (map path (filter test xs))
kept_paths P path at test [] all = cc
kept_paths P path at test (x ∷ xs) all = go (test x) (kept_paths P path at test xs all.1)
  where
    go : (c : Bool) → AllByRecursion IsPath (map path (filter test xs)) → AllByRecursion IsPath (map path (cond c (x ∷ filter test xs) (filter test xs)))
    go true rest = (at x all.0, rest)
    go false rest = rest

taken_paths : (was is : Bool) (old new : List Installed) → AllByRecursion IsPackage old → AllByRecursion IsPath (taken_by was is old new)
taken_paths true true old new each = kept_paths (IsStem false) manifest_path manifest_is_path _ (map (λ p. p.stem) old) (stems_are old each)
taken_paths true false old new each = (in_pkg (codes "installed") (record { bytes = refl; some = omega arith; few = omega arith; no_dots = refl }), (in_pkg (codes "manifests") (record { bytes = refl; some = omega arith; few = omega arith; no_dots = refl }), cc))
taken_paths false true old new each = cc
taken_paths false false old new each = kept_paths (IsStem false) package_path package_is_path _ (map (λ p. p.stem) old) (stems_are old each)

-- ---- what is delivered

abbrev NamesLicense : License → Type 0
NamesLicense l = CanName l.stem × CanName l.name

abbrev NamesLegacy : Legacy → Type 0
NamesLegacy g = CanName g.pkg

-- the paths of records are paths
abbrev AreDuePaths : List (List ℕ × Content) → Type 0
AreDuePaths records = AllByRecursion (λ (e : List ℕ × Content). IsPath e.0) records

license_paths : (ls : List License) → AllByRecursion NamesLicense ls → AreDuePaths (map license_record ls)
license_paths [] all = cc
license_paths (l ∷ ls) all = (license_is_path l.stem l.name all.0.0.0 all.0.1.0 all.0.0.1 all.0.1.1, license_paths ls all.1)

legacy_paths : (gs : List Legacy) → AllByRecursion NamesLegacy gs → AreDuePaths (map legacy_record gs)
legacy_paths [] all = cc
legacy_paths (g ∷ gs) all = (info_is_path g.pkg all.0, legacy_paths gs all.1)

delivered_paths : (d : Delivered) → CanBeNamed d → AreDuePaths (delivered_records d)
delivered_paths d h = (in_pkg (codes "owners") (record { bytes = refl; some = omega arith; few = omega arith; no_dots = refl }), (in_pkg (codes "drivers") (record { bytes = refl; some = omega arith; few = omega arith; no_dots = refl }), all_append IsPath (map license_record d.licenses) (map legacy_record d.legacy) (license_paths d.licenses h.licenses) (legacy_paths d.legacy h.packages)))

gone_license_path : (new : List License) (l : License) → NamesLicense l → IsPath (gone_license new l)
gone_license_path new l h = go (has_stem new l.stem)
  where
    go : (c : Bool) → IsPath (cond c (license_path l.stem l.name) (license_folder l.stem))
    go true = license_is_path l.stem l.name h.0.0 h.1.0 h.0.1 h.1.1
    go false = license_folder_path l.stem h.0

both_paths : (xs ys : List (List ℕ)) → AllByRecursion IsPath xs → AllByRecursion IsPath ys → AllByRecursion IsPath (xs ++ ys)
both_paths [] ys a b = b
both_paths (x ∷ xs) ys a b = (a.0, both_paths xs ys a.1 b)

gone_paths : (was is : Delivered) → CanBeNamed was → AllByRecursion IsPath (delivered_gone was is)
gone_paths was is h =
    both_paths (map (gone_license is.licenses) (filter (λ (l : License). not (has_license is.licenses l)) was.licenses)) (map (λ (g : Legacy). legacy_folder g.pkg) (filter (λ (g : Legacy). not (has_legacy_package is.legacy g.pkg)) was.legacy))
    (kept_paths NamesLicense (gone_license is.licenses) (gone_license_path is.licenses) (λ (l : License). not (has_license is.licenses l)) was.licenses h.licenses)
    (kept_paths NamesLegacy (λ (g : Legacy). legacy_folder g.pkg) (λ g n. legacy_folder_path g.pkg n) (λ (g : Legacy). not (has_legacy_package is.legacy g.pkg)) was.legacy h.packages)

-- ---- what a request makes due

module _ (accounts : List DueFile) (old new : Recorded) (was is : Delivered) (files : (q : List ℕ) → IsTrue (is_some (account_at accounts q)) → IsTrue (is_account_path q)) (lawful_old : IsLawful old) (lawful : IsLawful new) (named_old : CanBeNamed was) (named : CanBeNamed is) where
  due_path : (q : List ℕ) → is_due (request_due accounts old new was is) q ≡ true → IsPath q
  due_path q h = elim (or_cases (is_some (account_at accounts q)) _ h) [
    | inl account ↦ account_is q (files q account)
    | inr rest ↦ elim (or_cases (is_some (record_at (own_records (records_of new) ++ delivered_records is) q)) _ rest) [
      | inl record_due ↦ at_record IsPath (own_records (records_of new) ++ delivered_records is) q (all_append IsPath (own_records (records_of new)) (delivered_records is) (own_all IsPath (records_of new) (state_paths (new.format == 1) new lawful.installed.each)) (delivered_paths is named)) record_due
      | inr more ↦ elim (or_cases (listed (renewed_by (old.format == 1) (new.format == 1)) q) false more) [
        | inl renewed ↦ subst IsPath (sym (renewed_is (old.format == 1) (new.format == 1) q renewed).0) (in_pkg (codes "packages") (record { bytes = refl; some = omega arith; few = omega arith; no_dots = refl }))
        | inr none ↦ cc
      ]
    ]
  ]

  gone_path : (q : List ℕ) → listed (taken_away old new ++ delivered_gone was is) q ≡ true → IsPath q
  gone_path q h = at_listed IsPath (taken_away old new ++ delivered_gone was is) q
      (both_paths (taken_away old new) (delivered_gone was is) (taken_paths (old.format == 1) (new.format == 1) old.installed new.installed lawful_old.installed.each) (gone_paths was is named_old)) h

  pub request_is_proper : ((q : List ℕ) (m : ℕ) (b : List ℕ) → account_at accounts q ≡ Some (File m b) → m < 4096) → HasProperDue (request_due accounts old new was is)
  request_is_proper modes = record {
    paths = λ q h. elim (or_cases (is_due (request_due accounts old new was is) q) (listed (taken_away old new ++ delivered_gone was is) q) h) [ inl due ↦ due_path q due | inr gone ↦ gone_path q gone ];
    modes = modes;
  }

-- ---- what an image is made with

abbrev nothing_named : Delivered
nothing_named = record { owners = []; drivers = []; licenses = []; legacy = [] }

module _ (new : Recorded) (lawful : IsLawful new) where
  made_path : (q : List ℕ) → (is_due (creation_due new) q || listed (index_path ∷ []) q) ≡ true → IsPath q
  made_path q h = elim (or_cases (is_due (creation_due new) q) (listed (index_path ∷ []) q) h) [
    | inl due ↦ elim (or_cases (is_some (record_at (own_records (records_of new) ++ delivered_records nothing_named) q)) (listed (packages_path ∷ []) q || listed first_folders q) due) [
      | inl record_due ↦ at_record IsPath (own_records (records_of new) ++ delivered_records nothing_named) q (all_append IsPath (own_records (records_of new)) (delivered_records nothing_named) (own_all IsPath (records_of new) (state_paths (new.format == 1) new lawful.installed.each)) (delivered_paths nothing_named (record { licenses = cc; packages = cc }))) record_due
      | inr more ↦ elim (or_cases (listed (packages_path ∷ []) q) (listed first_folders q) more) [
        | inl packages ↦ at_listed IsPath (packages_path ∷ []) q (in_pkg (codes "packages") (record { bytes = refl; some = omega arith; few = omega arith; no_dots = refl }), tt) packages
        | inr folder ↦ at_listed IsPath first_folders q (in_pkg (codes "license") (record { bytes = refl; some = omega arith; few = omega arith; no_dots = refl }), (in_pkg (codes "lost+found") (record { bytes = refl; some = omega arith; few = omega arith; no_dots = refl }), tt)) folder
      ]
    ]
    | inr gone ↦ at_listed IsPath (index_path ∷ []) q (in_pkg (codes "index") (record { bytes = refl; some = omega arith; few = omega arith; no_dots = refl }), tt) gone
  ]

  pub creation_is_proper : HasProperDue (creation_due new)
  creation_is_proper = record { paths = made_path; modes = λ q m b at. cc }
