-- The texts of lists, and places of packages one after another.
use Rattle.std.proofs.Common.{◌≡◌, ℕ, zero, suc, ◌+◌, ◌<◌, Bool, false, Result, Ok, Err, OnOk, codes, refl, List, [], ◌∷◌, ◌++◌, length, map, take, get_or, sym, ◌∙◌, ap, subst, arith, append_assoc}
use Rattle.std.specs.List.{AllByRecursion, flat_map}
use Rattle.std.specs.Cmp.{IsStrictWeakOrder}
use Rattle.std.proofs.lemmas.Cmp.{nat_list_cmp_total}
use Rattle.std.proofs.lemmas.List.{length-map, length-take-le, map-append}
use Rattle.std.proofs.lemmas.List.Folds.{flat_map-map}
use Rattle.std.proofs.lemmas.List.MinMax.{ranks_by}
use Rattle.ips_text.specs.Path.{IsPath}
use Rattle.ips_text.proofs.Lists.{map_item}
use Rattle.ips_records.proofs.Joined.{IsFileName, joined_path, pkg_name}
use Rattle.ips_fmri.specs.Fmri.{fmri_text}
use Rattle.ips_fmri.specs.Name.{IsStem}
use Rattle.ips_fmri.specs.declared.fmri.Fmri.{Fmri}
use Rattle.ips_manifest.specs.declared.package.Package.{Package}
use Rattle.ips_mediate.specs.declared.set.SetMediator.{SetMediator}
use Rattle.ips_records.specs.Lines.{ended, lines_text}
use Rattle.ips_state.specs.State.{Installed, Recorded, installed}
use Rattle.ips_state.specs.Records.{entry_of}
use Rattle.ips_state.specs.declared.state.Record.{Record}
use Rattle.ips_state.specs.Form.{IsPackage}
use Rattle.ips_state.specs.Text.{mediator_line, name_lines, versioned_stem}
use Rattle.ips_entries.specs.declared.part.Place.{Place}
use Rattle.ips_entries.specs.Part.{Owned, entry_at, numbered, owned_package}
use Rattle.ips_entries.proofs.Parts.{numbered_append}
use Rattle.ips_entries.proofs.PathsDiffer.{before_place}

-- ---- texts

pub names_written : (names : List Fmri) → flat_map (λ f. ended (fmri_text f)) names ≡ lines_text (name_lines names)
names_written names = sym (flat_map-map ended fmri_text names)

pub mediators_written : (mediators : List SetMediator) → flat_map (λ m. ended (mediator_line m)) mediators ≡ lines_text (map mediator_line mediators)
mediators_written mediators = sym (flat_map-map ended mediator_line mediators)

pub installed_written : (packages : List Package) → flat_map (λ p. ended (fmri_text (versioned_stem (installed p)))) packages ≡ lines_text (name_lines (map versioned_stem (map installed packages)))
installed_written packages =
    sym (flat_map-map (λ (q : Installed). ended (fmri_text (versioned_stem q))) installed packages) ∙ sym (flat_map-map (λ (f : Fmri). ended (fmri_text f)) versioned_stem (map installed packages))
    ∙ names_written (map versioned_stem (map installed packages))

-- ---- places

pub ranks_places : IsStrictWeakOrder before_place
ranks_places = ranks_by nat_list_cmp_total (λ (p : Place). p.path.bytes)

pub stem_numbered : (packages : List Package) (i : ℕ) (p : Package) → AllByRecursion IsPackage (map installed packages) → i < length packages → p ≡ get_or packages i p → IsStem false p.stem
stem_numbered [] i p all lt at = absurd (omega (arith, lt))
stem_numbered (q ∷ packages) zero p all lt at = subst (λ (x : Package). IsStem false x.stem) (sym at) all.0.stem
stem_numbered (q ∷ packages) (suc i) p all lt at = stem_numbered packages i p all.1 (omega (arith, lt)) at

pub placed_more : (first : Bool) (packages : List Package) (i : ℕ) (p : Package) (old before now : List Owned) → i < length packages → p ≡ get_or packages i p → before ≡ old ++ numbered first 0 (map installed (take i packages))
    → now ≡ before ++ owned_package first i (installed p) ∷ [] → now ≡ old ++ numbered first 0 (map installed (take (i + 1) packages))
placed_more first packages i p old before now lt at b n =
    let count : 0 + length (map installed (take i packages)) ≡ i = omega (arith, length-map (take i packages) installed, length-take-le i packages (omega (arith, lt)), lt) in
    let more : numbered first 0 (map installed (take (i + 1) packages)) ≡ numbered first 0 (map installed (take i packages)) ++ owned_package first i (installed p) ∷ []
    = ap (numbered first 0) (map_item installed packages i p lt at) ∙ numbered_append first 0 (map installed (take i packages)) (installed p) ∙ ap (λ (k : ℕ). numbered first 0 (map installed (take i packages)) ++ owned_package first k (installed p) ∷ []) count in
    n ∙ ap (λ (l : List Owned). l ++ owned_package first i (installed p) ∷ []) b ∙ append_assoc old (numbered first 0 (map installed (take i packages))) (owned_package first i (installed p) ∷ []) ∙ ap (λ (l : List Owned). old ++ l) (sym more)

-- ---- paths

pub path_in : (name : List ℕ) → IsFileName name → IsPath (codes "var/pkg/" ++ name)
path_in name n = joined_path (codes "var" ∷ codes "pkg" ∷ name ∷ []) (record { bytes = refl; some = omega arith; few = omega arith; no_dots = refl }, (pkg_name, n)) (omega (arith, n.few))

-- ---- answers

pub on_told : {X E : Type 0} (r : Result X E) (A B : Type 0) → (A → B) → OnOk r A → OnOk r B
on_told (Ok x) A B to a = to a
on_told (Err e) A B to a = tt

-- ---- records

pub one_of : {A : Type 0} (P : A → Type 0) (xs : List A) (i : ℕ) (x : A) → AllByRecursion P xs → i < length xs → x ≡ get_or xs i x → P x
one_of P [] i x all lt at = absurd (omega (arith, lt))
one_of P (y ∷ xs) zero x all lt at = subst P (sym at) all.0
one_of P (y ∷ xs) (suc i) x all lt at = one_of P xs i x all.1 (omega (arith, lt)) at

pub record_more : (r : Recorded) (places : List Place) (i : ℕ) (place : Place) (old new : List Record) (one : Record) → i < length places → place ≡ get_or places i place → new ≡ old ++ one ∷ []
    → map entry_of old ≡ map (entry_at r) (take i places) → entry_of one ≡ entry_at r place → map entry_of new ≡ map (entry_at r) (take (i + 1) places)
record_more r places i place old new one lt at e all same =
    ap (map entry_of) e ∙ map-append entry_of old (one ∷ []) ∙ (λ j. all j ++ same j ∷ []) ∙ sym (map_item (entry_at r) places i place lt at)
