-- What texts at paths tell is one state, where one text stands at a path.
use Rattle.std.proofs.Common.{◌≡◌, inl, inr, ℕ, Bool, true, false, ◌||◌, ◌==◌, List, [], ◌∷◌, ◌++◌, map, Option, Some, None, refl, sym, ◌∙◌, ap, ap₂, subst}
use Rattle.std.specs.declared.cmp.Ordering.{Ordering}
use Rattle.std.specs.declared.cmp.Ordering.TheVariants.{Less, Greater}
use Rattle.std.specs.Ordering.{nat_cmp, ordering_reverse}
use Rattle.std.specs.Cmp.Lexicographic.{slice_cmp}
use Rattle.std.specs.List.{AllByRecursion, list_any}
use Rattle.std.proofs.lemmas.Bool.{true≢false, or_cases}
use Rattle.std.proofs.lemmas.Cmp.{nat_list_cmp_total}
use Rattle.std.proofs.lemmas.Map.Keys.{sorted_head, sorted_tail}
use Rattle.std.proofs.lemmas.Option.{same_Some}
use Rattle.ips_text.specs.Ancestry.{same_path}
use Rattle.ips_text.proofs.Ancestry.{same_path-self, same_path-true}
use Rattle.ips_text.proofs.Truths.{or_true}
use Rattle.ips_fmri.specs.Name.{IsStem}
use Rattle.ips_fmri.specs.Version.{Parts}
use Rattle.ips_fmri.specs.declared.fmri.Fmri.{Fmri}
use Rattle.ips_index.specs.Rows.{IndexedValue, index_text}
use Rattle.ips_index.specs.Text.{AreIndexRows}
use Rattle.ips_index.proofs.IndexFiles.{rows_one}
use Rattle.std.specs.Prelude.{IfSome}
use Rattle.ips_manifest.specs.Manifest.{IsManifestOf}
use Rattle.ips_records.specs.Form.{IsNamed}
use Rattle.ips_records.specs.Lines.{lines_text}
use Rattle.ips_state.specs.State.{Ascend, Head, Installed, Recorded, head_of}
use Rattle.ips_state.specs.Form.{IsPackage}
use Rattle.ips_state.specs.Text.{head_lines, mediator_line, name_lines, package_head, versioned_stem}
use Rattle.ips_state.specs.Lawful.{ArePackages, AreVersioned, IsLawful}
use Rattle.ips_state.specs.Records.{avoid_path, freeze_path, history_path, image_path, index_path, installed_path, manifest_path, mediators_path, package_path}
use Rattle.ips_load.proofs.OneText.{mediators_one, names_one, stems_one}
use Rattle.ips_entries.proofs.OneHead.{head_one, history_one}
use Rattle.ips_entries.proofs.OnePackage.{manifest_one, record_one}

abbrev cmp_stems : List ℕ → List ℕ → Ordering
cmp_stems a b = slice_cmp nat_cmp a b

-- ---- lists that ascend and have the same members

abbrev pub among : List (List ℕ) → List ℕ → Bool
among xs x = list_any (λ y. same_path y x) xs

less_not_more : (x y : List ℕ) → cmp_stems x y ≡ Less → cmp_stems y x ≡ Less → ⊥
less_not_more x y up down = let turned : cmp_stems x y ≡ Greater = nat_list_cmp_total.antisymm x y ∙ ap ordering_reverse down in cc

pub not_less_itself : (x y : List ℕ) → x ≡ y → cmp_stems x y ≡ Less → ⊥
not_less_itself x y e up = less_not_more x x (ap (λ (z : List ℕ). cmp_stems x z) e ∙ up) (ap (λ (z : List ℕ). cmp_stems x z) e ∙ up)

-- what is in a list whose members are all above x is above x
pub above_all : (x y : List ℕ) (xs : List (List ℕ)) → AllByRecursion (λ z. cmp_stems x z ≡ Less) xs → among xs y ≡ true → cmp_stems x y ≡ Less
above_all x y [] all is = absurd (true≢false (sym is))
above_all x y (z ∷ xs) all is = elim (or_cases (same_path z y) (among xs y) is) [
  | inl here ↦ subst (λ (w : List ℕ). cmp_stems x w ≡ Less) (same_path-true z y here) all.0
  | inr later ↦ above_all x y xs all.1 later
]

pub head_among : (x : List ℕ) (xs : List (List ℕ)) → among (x ∷ xs) x ≡ true
head_among x xs = ap (λ (b : Bool). b || among xs x) (same_path-self x)

pub tail_among : (x y : List ℕ) (xs : List (List ℕ)) → among xs y ≡ true → among (x ∷ xs) y ≡ true
tail_among x y xs is = ap (λ (b : Bool). same_path x y || b) is ∙ or_true (same_path x y)

-- the heads of two such lists are the same
pub heads_same : (x y : List ℕ) (xs ys : List (List ℕ)) → AllByRecursion (λ z. cmp_stems x z ≡ Less) xs → AllByRecursion (λ z. cmp_stems y z ≡ Less) ys → among (y ∷ ys) x ≡ true → among (x ∷ xs) y ≡ true → x ≡ y
heads_same x y xs ys above_x above_y is_x is_y = elim (or_cases (same_path y x) (among ys x) is_x) [
  | inl here ↦ sym (same_path-true y x here)
  | inr later ↦ elim (or_cases (same_path x y) (among xs y) is_y) [
    | inl here ↦ same_path-true x y here
    | inr behind ↦ absurd (less_not_more x y (above_all x y xs above_x behind) (above_all y x ys above_y later))
  ]
]

tail_from : (x y z : List ℕ) (xs ys : List (List ℕ)) → x ≡ y → AllByRecursion (λ w. cmp_stems x w ≡ Less) xs → among xs z ≡ true → among (y ∷ ys) z ≡ true → among ys z ≡ true
tail_from x y z xs ys same above is other = elim (or_cases (same_path y z) (among ys z) other) [
  | inl here ↦ absurd (not_less_itself x z (same ∙ same_path-true y z here) (above_all x z xs above is))
  | inr later ↦ later
]

pub ascend_one : (xs ys : List (List ℕ)) → Ascend xs → Ascend ys → ((x : List ℕ) → among xs x ≡ true → among ys x ≡ true) → ((y : List ℕ) → among ys y ≡ true → among xs y ≡ true) → xs ≡ ys
ascend_one [] [] up_x up_y to back = refl
ascend_one [] (y ∷ ys) up_x up_y to back = absurd (true≢false (sym (back y (head_among y ys))))
ascend_one (x ∷ xs) [] up_x up_y to back = absurd (true≢false (sym (to x (head_among x xs))))
ascend_one (x ∷ xs) (y ∷ ys) up_x up_y to back =
    let above_x = sorted_head cmp_stems x xs up_x in
    let above_y = sorted_head cmp_stems y ys up_y in
    let same = heads_same x y xs ys above_x above_y (to x (head_among x xs)) (back y (head_among y ys)) in
    let rest = ascend_one xs ys (sorted_tail cmp_stems x xs up_x) (sorted_tail cmp_stems y ys up_y)
    (λ z is. tail_from x y z xs ys same above_x is (to z (tail_among x z xs is)))
    (λ z is. tail_from y x z ys xs (sym same) above_y is (back z (tail_among y z ys is))) in
    ap₂ (λ (a : List ℕ) (l : List (List ℕ)). a ∷ l) same rest

-- ---- what stands at paths

-- a text with this front, and a manifest of the package's lines behind it, stands at the path
pub record Manifested (At : List ℕ → List ℕ → Type 0) (path front : List ℕ) (p : Installed) : Type 0 where
  pub text : List ℕ
  pub at : At path (front ++ text)
  pub means : IsManifestOf text p.lines

abbrev pub stems_in : List Installed → List (List ℕ)
stems_in packages = map (λ (p : Installed). p.stem) packages

-- the records of the packages stand there, in the format that the flag tells
abbrev pub EachAt : Bool → (List ℕ → List ℕ → Type 0) → List Installed → Type 0
EachAt true At packages = At installed_path (lines_text (name_lines (map versioned_stem packages))) × AllByRecursion (λ (p : Installed). Manifested At (manifest_path p.stem) [] p) packages
EachAt false At packages = AllByRecursion (λ (p : Installed). Manifested At (package_path p.stem) (package_head p.version) p) packages

-- and in format 2 no other package's does
abbrev pub PackagesAt : Bool → (List ℕ → List ℕ → Type 0) → List Installed → Type 0
PackagesAt true At packages = EachAt true At packages
PackagesAt false At packages = EachAt false At packages × ((stem bytes : List ℕ) → IsStem false stem → At (package_path stem) bytes → among (stems_in packages) stem ≡ true)

abbrev pub IndexAt : (List ℕ → List ℕ → Type 0) → Option (List IndexedValue) → Type 0
IndexAt At None = (bytes : List ℕ) → At index_path bytes → ⊥
IndexAt At (Some rows) = At index_path (index_text rows)

-- the texts tell this state
pub record Tells (At : List ℕ → List ℕ → Type 0) (r : Recorded) : Type 0 where
  pub lawful : IsLawful r
  pub head : At image_path (lines_text (head_lines (head_of r)))
  pub packages : PackagesAt (r.format == 1) At r.installed
  pub avoid : At avoid_path (lines_text r.avoid)
  pub freeze : At freeze_path (lines_text (name_lines r.freeze))
  pub mediators : At mediators_path (lines_text (map mediator_line r.mediators))
  pub history : At history_path (lines_text r.history)
  pub index : IndexAt At r.index

same_package : (p q : Installed) → p.stem ≡ q.stem → p.version ≡ q.version → p.lines ≡ q.lines → p ≡ q
same_package p q s v l = λ j. record { stem = s j; version = v j; lines = l j }

pub versioned : (packages : List Installed) → ArePackages packages → AreVersioned (map versioned_stem packages)
versioned packages h = record { each = each packages h.each; order = subst Ascend (stems packages) h.order }
  where
    each : (ps : List Installed) → AllByRecursion IsPackage ps → AllByRecursion IsNamed (map versioned_stem ps)
    each [] all = tt
    each (p ∷ ps) all = (record { publisher = refl; stem = all.0.stem; version = all.0.version }, each ps all.1)

    stems : (ps : List Installed) → stems_in ps ≡ map (λ (f : Fmri). f.stem) (map versioned_stem ps)
    stems [] = refl
    stems (p ∷ ps) = ap (λ (l : List (List ℕ)). p.stem ∷ l) (stems ps)

abbrev version_of_name : Fmri → Option Parts
version_of_name f = f.version

module _ (At : List ℕ → List ℕ → Type 0) (one : (path a b : List ℕ) → At path a → At path b → a ≡ b) where
  moved : (path other text : List ℕ) → path ≡ other → At path text → At other text
  moved path other text e at = subst (λ (p : List ℕ). At p text) e at

  listed_same : (ps qs : List Installed) → map versioned_stem ps ≡ map versioned_stem qs → AllByRecursion (λ (p : Installed). Manifested At (manifest_path p.stem) [] p) ps
      → AllByRecursion (λ (p : Installed). Manifested At (manifest_path p.stem) [] p) qs → ps ≡ qs
  listed_same [] [] e hp hq = refl
  listed_same [] (q ∷ qs) e hp hq = absurd cc
  listed_same (p ∷ ps) [] e hp hq = absurd cc
  listed_same (p ∷ ps) (q ∷ qs) e hp hq =
      let name : versioned_stem p ≡ versioned_stem q = cc in
      let others : map versioned_stem ps ≡ map versioned_stem qs = cc in
      let stem : p.stem ≡ q.stem = ap (λ (f : Fmri). f.stem) name in
      let version : p.version ≡ q.version = same_Some p.version q.version (ap version_of_name name) in
      let text = one (manifest_path q.stem) hp.0.text hq.0.text (moved (manifest_path p.stem) (manifest_path q.stem) hp.0.text (ap manifest_path stem) hp.0.at) hq.0.at in
      let lines = manifest_one hp.0.text hq.0.text p.lines q.lines text hp.0.means hq.0.means in
      ap₂ (λ (x : Installed) (l : List Installed). x ∷ l) (same_package p q stem version lines)
      (listed_same ps qs others hp.1 hq.1)

  recorded_same : (ps qs : List Installed) → stems_in ps ≡ stems_in qs → AllByRecursion IsPackage ps → AllByRecursion IsPackage qs
      → AllByRecursion (λ (p : Installed). Manifested At (package_path p.stem) (package_head p.version) p) ps
      → AllByRecursion (λ (p : Installed). Manifested At (package_path p.stem) (package_head p.version) p) qs → ps ≡ qs
  recorded_same [] [] e ap_ aq hp hq = refl
  recorded_same [] (q ∷ qs) e ap_ aq hp hq = absurd cc
  recorded_same (p ∷ ps) [] e ap_ aq hp hq = absurd cc
  recorded_same (p ∷ ps) (q ∷ qs) e ap_ aq hp hq =
      let stem : p.stem ≡ q.stem = cc in
      let others : stems_in ps ≡ stems_in qs = cc in
      let text = one (package_path q.stem) (package_head p.version ++ hp.0.text) (package_head q.version ++ hq.0.text) (moved (package_path p.stem) (package_path q.stem) (package_head p.version ++ hp.0.text) (ap package_path stem) hp.0.at) hq.0.at in
      let parts = record_one p.version q.version hp.0.text hq.0.text ap_.0.version aq.0.version text in
      let lines = manifest_one hp.0.text hq.0.text p.lines q.lines parts.1 hp.0.means hq.0.means in
      ap₂ (λ (x : Installed) (l : List Installed). x ∷ l) (same_package p q stem parts.0 lines)
      (recorded_same ps qs others ap_.1 aq.1 hp.1 hq.1)

  among_told : (ps qs : List Installed) → AllByRecursion IsPackage ps → AllByRecursion (λ (p : Installed). Manifested At (package_path p.stem) (package_head p.version) p) ps
      → ((stem bytes : List ℕ) → IsStem false stem → At (package_path stem) bytes → among (stems_in qs) stem ≡ true) → (x : List ℕ) → among (stems_in ps) x ≡ true → among (stems_in qs) x ≡ true
  among_told [] qs all held only x is = absurd (true≢false (sym is))
  among_told (p ∷ ps) qs all held only x is = elim (or_cases (same_path p.stem x) (among (stems_in ps) x) is) [
    | inl here ↦ subst (λ (s : List ℕ). among (stems_in qs) s ≡ true) (same_path-true p.stem x here) (only p.stem (package_head p.version ++ held.0.text) all.0.stem held.0.at)
    | inr later ↦ among_told ps qs all.1 held.1 only x later
  ]

  packages_same : (first : Bool) (ps qs : List Installed) → ArePackages ps → ArePackages qs → PackagesAt first At ps → PackagesAt first At qs → ps ≡ qs
  packages_same true ps qs hp hq told other =
      let names = names_one (map versioned_stem ps) (map versioned_stem qs) (versioned ps hp) (versioned qs hq) (one installed_path (lines_text (name_lines (map versioned_stem ps))) (lines_text (name_lines (map versioned_stem qs))) told.0 other.0) in
      listed_same ps qs names told.1 other.1
  packages_same false ps qs hp hq told other =
      let stems = ascend_one (stems_in ps) (stems_in qs) hp.order hq.order (among_told ps qs hp.each told.0 other.1) (among_told qs ps hq.each other.0 told.1) in
      recorded_same ps qs stems hp.each hq.each told.0 other.0

  index_same : (a b : Option (List IndexedValue)) → IfSome a AreIndexRows → IfSome b AreIndexRows → IndexAt At a → IndexAt At b → a ≡ b
  index_same None None ha hb at other = refl
  index_same None (Some rows) ha hb at other = absurd (at (index_text rows) other)
  index_same (Some rows) None ha hb at other = absurd (other (index_text rows) at)
  index_same (Some rows) (Some others) ha hb at other = ap (λ (l : List IndexedValue). Some l) (rows_one rows others ha hb (one index_path (index_text rows) (index_text others) at other))

  pub told_one : (r s : Recorded) → Tells At r → Tells At s → r ≡ s
  told_one r s a b =
      let head = head_one (head_of r) (head_of s) a.lawful.head b.lawful.head (one image_path (lines_text (head_lines (head_of r))) (lines_text (head_lines (head_of s))) a.head b.head) in
      let format : r.format ≡ s.format = ap (λ (h : Head). h.format) head in
      let told = subst (λ (f : ℕ). PackagesAt (f == 1) At r.installed) format a.packages in
      let packages = packages_same (s.format == 1) r.installed s.installed a.lawful.installed b.lawful.installed told b.packages in
      let avoid = stems_one r.avoid s.avoid a.lawful.avoid b.lawful.avoid (one avoid_path (lines_text r.avoid) (lines_text s.avoid) a.avoid b.avoid) in
      let freeze = names_one r.freeze s.freeze a.lawful.freeze b.lawful.freeze (one freeze_path (lines_text (name_lines r.freeze)) (lines_text (name_lines s.freeze)) a.freeze b.freeze) in
      let mediators = mediators_one r.mediators s.mediators a.lawful.mediators b.lawful.mediators (one mediators_path (lines_text (map mediator_line r.mediators)) (lines_text (map mediator_line s.mediators)) a.mediators b.mediators) in
      let history = history_one r.history s.history a.lawful.history b.lawful.history (one history_path (lines_text r.history) (lines_text s.history) a.history b.history) in
      let index = index_same r.index s.index a.lawful.index b.lawful.index a.index b.index in
      λ j. record {
        format = (head j).format;
        publisher = (head j).publisher;
        origins = (head j).origins;
        actuator = (head j).actuator;
        settings = (head j).settings;
        installed = packages j;
        avoid = avoid j;
        freeze = freeze j;
        mediators = mediators j;
        history = history j;
        index = index j;
      }
