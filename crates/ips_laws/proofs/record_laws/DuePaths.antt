-- Where that stands which a request makes due or takes away, beside the index and the packages.
use Rattle.std.proofs.Common.{◌≡◌, ◌⊎◌, ℕ, Bool, true, false, cond, not, ◌||◌, ◌==◌, List, [], ◌∷◌, ◌++◌, map, filter, Option, Some, None, refl, sym, ◌∙◌, ap, subst, inl, inr}
use Rattle.std.specs.Prelude.{codes}
use Rattle.std.specs.List.{AllByRecursion, list_any}
use Rattle.std.specs.Str.{bytes_eq}
use Rattle.std.proofs.lemmas.Bool.{or_cases, or_left, or_right, false_from_ne_true, not_from_false}
use Rattle.std.proofs.lemmas.Slice.Eq.{bytes_eq-Decides}
use Rattle.ips_text.specs.Ancestry.{same_path, covers, is_below, parent}
use Rattle.ips_text.specs.Quote.{quoted}
use Rattle.ips_text.proofs.Ancestry.{covers-parent, covers-self, parent_covers, same_path-true, same_path-self}
use Rattle.ips_steps.specs.Private.{records_name}
use Rattle.ips_steps.proofs.Lists.{clash}
use Rattle.ips_metafiles.specs.Records.{license_path}
use Rattle.ips_index.specs.Rows.{IndexedValue}
use Rattle.ips_state.specs.State.{Installed, Recorded}
use Rattle.ips_state.specs.Records.{common_records, gone_stems, index_path, index_records, manifest_path, package_path, packages_path, records_by, records_of, taken_away, taken_by}
use Rattle.ips_after.specs.Findings.{is_account_path}
use Rattle.ips_after.specs.Lists.{listed}
use Rattle.ips_after.proofs.Fits.{below_of}
use Rattle.ips_due.specs.Apart.{lost_path}
use Rattle.ips_due.specs.Delivered.{Delivered, Legacy, License, delivered_gone, delivered_records, gone_license, has_legacy_package, has_license, has_stem, legacy_folder, legacy_record, license_folder, license_record}
use Rattle.ips_due.specs.Due.{Content, own_records}
use Rattle.ips_due.proofs.StateDue.{all_append, no_slash, own_all, parent_of}

-- one of the packages has its record there, in format 2
abbrev pub holds_package : List Installed → List ℕ → Bool
holds_package ps q = list_any (λ (p : Installed). same_path (package_path p.stem) q) ps

-- where one has, the folder of packages is right above
pub package_parent : (ps : List Installed) (q : List ℕ) → holds_package ps q ≡ true → parent q ≡ Some packages_path
package_parent [] q h = cc
package_parent (p ∷ ps) q h = elim (or_cases (same_path (package_path p.stem) q) (holds_package ps q) h) [
  | inl here ↦ ap parent (sym (same_path-true (package_path p.stem) q here)) ∙ parent_of packages_path (quoted p.stem) (no_slash p.stem)
  | inr later ↦ package_parent ps q later
]

-- what is right below that folder is below it
pub in_packages : (q : List ℕ) → parent q ≡ Some packages_path → is_below packages_path q ≡ true
in_packages q right =
    below_of packages_path q (parent_covers q packages_path right)
    (false_from_ne_true _ (λ same. clash (covers q packages_path) (ap (λ (x : List ℕ). covers x packages_path) (sym (same_path-true packages_path q same)) ∙ covers-self packages_path) (covers-parent q packages_path right)))

-- ---- what is due

-- A path where a record may be due: it isn't at or above the folder of packages, in it it is that of a package, it isn't below the index, nor there where there is none.
pub record IsPlaced (ps : List Installed) (index : Option (List IndexedValue)) (x : List ℕ) : Type 0 where
  pub up : covers x packages_path ≡ false
  pub within : (is_below packages_path x ≡ false) ⊎ (holds_package ps x ≡ true)
  pub under : is_below index_path x ≡ false
  pub apart : index ≡ None → same_path index_path x ≡ false

module _ (all : List Installed) (index : Option (List IndexedValue)) where
  abbrev Placed : List ℕ → Type 0
  Placed x = IsPlaced all index x

  index_placed : (o : Option (List IndexedValue)) → o ≡ index → AllByRecursion (λ (e : List ℕ × List ℕ). Placed e.0) (index_records o)
  index_placed None is = tt
  index_placed (Some rows) is = (record { up = refl; within = inl refl; under = refl; apart = λ none. let bad : Some rows ≡ None = is ∙ none in absurd cc }, tt)

  common_placed : (r : Recorded) → r.index ≡ index → AllByRecursion (λ (e : List ℕ × List ℕ). Placed e.0) (common_records r)
  common_placed r is = (
    record { up = refl; within = inl refl; under = refl; apart = λ none. refl },
    (
      record { up = refl; within = inl refl; under = refl; apart = λ none. refl },
      (
        record { up = refl; within = inl refl; under = refl; apart = λ none. refl },
        (record { up = refl; within = inl refl; under = refl; apart = λ none. refl }, (record { up = refl; within = inl refl; under = refl; apart = λ none. refl }, index_placed r.index is)),
      ),
    ),
  )

  manifests_placed : (text : Installed → List ℕ) (ps : List Installed) → AllByRecursion (λ (e : List ℕ × List ℕ). Placed e.0) (map (λ p. (manifest_path p.stem, text p)) ps)
  manifests_placed text [] = tt
  manifests_placed text (p ∷ ps) = (record { up = refl; within = inl refl; under = refl; apart = λ none. refl }, manifests_placed text ps)

  packages_placed : (text : Installed → List ℕ) (ps : List Installed) → ((x : List ℕ) → holds_package ps x ≡ true → holds_package all x ≡ true) → AllByRecursion (λ (e : List ℕ × List ℕ). Placed e.0) (map (λ p. (package_path p.stem, text p)) ps)
  packages_placed text [] to = tt
  packages_placed text (p ∷ ps) to = (
    record { up = refl; within = inr (to (package_path p.stem) (or_left _ _ (same_path-self (package_path p.stem)))); under = refl; apart = λ none. refl },
    packages_placed text ps (λ x h. to x (or_right (same_path (package_path p.stem) x) _ h)),
  )

  by_format : (first : Bool) → AllByRecursion (λ (e : List ℕ × List ℕ). Placed e.0) (records_by first all)
  by_format true = (record { up = refl; within = inl refl; under = refl; apart = λ none. refl }, manifests_placed _ all)
  by_format false = packages_placed _ all (λ x h. h)

  licenses_placed : (ls : List License) → AllByRecursion (λ (e : List ℕ × Content). Placed e.0) (map license_record ls)
  licenses_placed [] = tt
  licenses_placed (l ∷ ls) = (record { up = refl; within = inl refl; under = refl; apart = λ none. refl }, licenses_placed ls)

  legacy_placed : (gs : List Legacy) → AllByRecursion (λ (e : List ℕ × Content). Placed e.0) (map legacy_record gs)
  legacy_placed [] = tt
  legacy_placed (g ∷ gs) = (record { up = refl; within = inl refl; under = refl; apart = λ none. refl }, legacy_placed gs)

  delivered_placed : (d : Delivered) → AllByRecursion (λ (e : List ℕ × Content). Placed e.0) (delivered_records d)
  delivered_placed d = (
    record { up = refl; within = inl refl; under = refl; apart = λ none. refl },
    (
      record { up = refl; within = inl refl; under = refl; apart = λ none. refl },
      all_append Placed (map license_record d.licenses) (map legacy_record d.legacy) (licenses_placed d.licenses) (legacy_placed d.legacy),
    ),
  )

-- so stands each record that is due
pub due_placed : (r : Recorded) (d : Delivered) → AllByRecursion (λ (e : List ℕ × Content). IsPlaced r.installed r.index e.0) (own_records (records_of r) ++ delivered_records d)
due_placed r d =
    let Q = IsPlaced r.installed r.index in
    all_append Q (own_records (records_of r)) (delivered_records d)
    (own_all Q (records_of r) (all_append Q (common_records r) (records_by (r.format == 1) r.installed) (common_placed r.installed r.index r refl) (by_format r.installed r.index (r.format == 1)))) (delivered_placed r.installed r.index d)

-- ---- the records of a state lie in the folder of the records, outside that of all salvage folders

pub record IsInside (x : List ℕ) : Type 0 where
  pub deep : is_below records_name x ≡ true
  pub off : covers lost_path x ≡ false

index_inside : (o : Option (List IndexedValue)) → AllByRecursion (λ (e : List ℕ × List ℕ). IsInside e.0) (index_records o)
unfolding records_name
index_inside None = tt
index_inside (Some rows) = (record { deep = refl; off = refl }, tt)

common_inside : (r : Recorded) → AllByRecursion (λ (e : List ℕ × List ℕ). IsInside e.0) (common_records r)
unfolding records_name
common_inside r = (record { deep = refl; off = refl }, (record { deep = refl; off = refl }, (record { deep = refl; off = refl }, (record { deep = refl; off = refl }, (record { deep = refl; off = refl }, index_inside r.index)))))

manifest_inside : (s : List ℕ) → IsInside (manifest_path s)
unfolding records_name
manifest_inside s = record { deep = refl; off = refl }

package_inside : (s : List ℕ) → IsInside (package_path s)
unfolding records_name
package_inside s = record { deep = refl; off = refl }

placed_inside : (path : List ℕ → List ℕ) → ((s : List ℕ) → IsInside (path s)) → (text : Installed → List ℕ) (ps : List Installed) → AllByRecursion (λ (e : List ℕ × List ℕ). IsInside e.0) (map (λ p. (path p.stem, text p)) ps)
placed_inside path at text [] = tt
placed_inside path at text (p ∷ ps) = (at p.stem, placed_inside path at text ps)

installed_inside : (first : Bool) (ps : List Installed) → AllByRecursion (λ (e : List ℕ × List ℕ). IsInside e.0) (records_by first ps)
unfolding records_name
installed_inside true ps = (record { deep = refl; off = refl }, placed_inside manifest_path manifest_inside _ ps)
installed_inside false ps = placed_inside package_path package_inside _ ps

pub records_inside : (r : Recorded) → AllByRecursion (λ (e : List ℕ × List ℕ). IsInside e.0) (records_of r)
records_inside r = all_append IsInside (common_records r) (records_by (r.format == 1) r.installed) (common_inside r) (installed_inside (r.format == 1) r.installed)

pub index_is_inside : IsInside index_path
unfolding records_name
index_is_inside = record { deep = refl; off = refl }

pub packages_are_inside : IsInside packages_path
unfolding records_name
packages_are_inside = record { deep = refl; off = refl }

-- ---- account files

account_is : (Q : List ℕ → Type 0) → Q (codes "etc/passwd") → Q (codes "etc/shadow") → Q (codes "etc/group") → (q : List ℕ) → is_account_path q ≡ true → Q q
account_is Q one two three q h = elim (or_cases (same_path (codes "etc/passwd") q) (same_path (codes "etc/shadow") q || same_path (codes "etc/group") q) h) [
  | inl a ↦ subst Q (same_path-true (codes "etc/passwd") q a) one
  | inr more ↦ elim (or_cases (same_path (codes "etc/shadow") q) (same_path (codes "etc/group") q) more) [
    | inl b ↦ subst Q (same_path-true (codes "etc/shadow") q b) two
    | inr c ↦ subst Q (same_path-true (codes "etc/group") q c) three
  ]
]

-- they lie elsewhere
pub account_outside : (q : List ℕ) → is_account_path q ≡ true → is_below records_name q ≡ false
unfolding records_name
account_outside q h = account_is (λ (x : List ℕ). is_below records_name x ≡ false) refl refl refl q h

pub account_not_above : (q : List ℕ) → is_account_path q ≡ true → covers q packages_path ≡ false
account_not_above q h = account_is (λ (x : List ℕ). covers x packages_path ≡ false) refl refl refl q h

-- ---- what goes isn't at or above the folder of packages

abbrev IsAside : List ℕ → Type 0
IsAside x = covers x packages_path ≡ false

stems_aside : (path : List ℕ → List ℕ) → ((s : List ℕ) → IsAside (path s)) → (stems : List (List ℕ)) → AllByRecursion IsAside (map path stems)
stems_aside path at [] = tt
stems_aside path at (s ∷ stems) = (at s, stems_aside path at stems)

taken_aside : (was is : Bool) (old new : List Installed) → AllByRecursion IsAside (taken_by was is old new)
taken_aside true true old new = stems_aside manifest_path (λ s. refl) (gone_stems old new)
taken_aside true false old new = (refl, (refl, tt))
taken_aside false true old new = tt
taken_aside false false old new = stems_aside package_path (λ s. refl) (gone_stems old new)

licenses_aside : (new ls : List License) → AllByRecursion IsAside (map (gone_license new) ls)
licenses_aside new [] = tt
licenses_aside new (l ∷ ls) = (one (has_stem new l.stem), licenses_aside new ls)
  where
    one : (b : Bool) → IsAside (cond b (license_path l.stem l.name) (license_folder l.stem))
    one true = refl
    one false = refl

legacy_aside : (gs : List Legacy) → AllByRecursion IsAside (map (λ (g : Legacy). legacy_folder g.pkg) gs)
legacy_aside [] = tt
legacy_aside (g ∷ gs) = (refl, legacy_aside gs)

both_aside : (xs ys : List (List ℕ)) → AllByRecursion IsAside xs → AllByRecursion IsAside ys → AllByRecursion IsAside (xs ++ ys)
both_aside [] ys a b = b
both_aside (x ∷ xs) ys a b = (a.0, both_aside xs ys a.1 b)

pub gone_aside : (old new : Recorded) (was is : Delivered) → AllByRecursion (λ (x : List ℕ). covers x packages_path ≡ false) (taken_away old new ++ delivered_gone was is)
gone_aside old new was is =
    both_aside (taken_away old new) (delivered_gone was is) (taken_aside (old.format == 1) (new.format == 1) old.installed new.installed)
    (both_aside (map (gone_license is.licenses) (filter (λ (l : License). not (has_license is.licenses l)) was.licenses)) (map (λ (g : Legacy). legacy_folder g.pkg) (filter (λ (g : Legacy). not (has_legacy_package is.legacy g.pkg)) was.legacy))
    (licenses_aside is.licenses (filter (λ (l : License). not (has_license is.licenses l)) was.licenses))
    (legacy_aside (filter (λ (g : Legacy). not (has_legacy_package is.legacy g.pkg)) was.legacy)))

-- ---- the record of a package that isn't installed any more goes

pub listed_front : (xs ys : List (List ℕ)) (q : List ℕ) → listed xs q ≡ true → listed (xs ++ ys) q ≡ true
listed_front [] ys q h = cc
listed_front (x ∷ xs) ys q h = elim (or_cases (same_path x q) (listed xs q) h) [
  | inl here ↦ or_left _ _ here
  | inr later ↦ or_right (same_path x q) _ (listed_front xs ys q later)
]

-- one of the packages has that stem
abbrev has_stem_in : List Installed → List ℕ → Bool
has_stem_in ps s = list_any (λ (p : Installed). bytes_eq s p.stem) ps

held_by : (s q : List ℕ) (ps : List Installed) → same_path (package_path s) q ≡ true → has_stem_in ps s ≡ true → holds_package ps q ≡ true
held_by s q [] at h = cc
held_by s q (p ∷ ps) at h = elim (or_cases (bytes_eq s p.stem) (has_stem_in ps s) h) [
  | inl here ↦ or_left _ _ (subst (λ (x : List ℕ). same_path (package_path x) q ≡ true) ((bytes_eq-Decides s p.stem).0 here) at)
  | inr later ↦ or_right (same_path (package_path p.stem) q) _ (held_by s q ps at later)
]

module _ (new : List Installed) (q : List ℕ) (off : holds_package new q ≡ false) where
  abbrev goes : List ℕ → Bool
  goes s = not (has_stem_in new s)

  abbrev paths_of : List Installed → List (List ℕ)
  paths_of ps = map package_path (filter goes (map (λ p. p.stem) ps))

  pub package_goes : (old : List Installed) → holds_package old q ≡ true → listed (paths_of old) q ≡ true
  package_goes [] h = cc
  package_goes (p ∷ old) h = elim (or_cases (same_path (package_path p.stem) q) (holds_package old q) h) [
    | inl here ↦
        let out : goes p.stem ≡ true = not_from_false _ (false_from_ne_true _ (λ some. clash (holds_package new q) (held_by p.stem q new here some) off)) in
        ap (λ (b : Bool). listed (map package_path (cond b (p.stem ∷ filter goes (map (λ x. x.stem) old)) (filter goes (map (λ x. x.stem) old)))) q) out ∙ or_left _ _ here
    | inr later ↦ behind (goes p.stem) (package_goes old later)
  ]
    where
      behind : (b : Bool) → listed (paths_of old) q ≡ true → listed (map package_path (cond b (p.stem ∷ filter goes (map (λ x. x.stem) old)) (filter goes (map (λ x. x.stem) old)))) q ≡ true
      behind true rest = or_right (same_path (package_path p.stem) q) _ rest
      behind false rest = rest
