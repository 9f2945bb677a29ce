-- The texts of all parts of a state are its records.
use Rattle.std.proofs.Common.{◌≡◌, ℕ, suc, ◌+◌, Bool, true, false, ◌==◌, List, [], ◌∷◌, ◌++◌, length, map, slice_get, Option, Some, None, refl, sym, ◌∙◌, ap, subst, arith, append_assoc, length-append}
use Rattle.std.specs.List.{All, AllByRecursion}
use Rattle.std.specs.List.Sorted.{IsPermutation}
use Rattle.std.proofs.lemmas.List.{map-append}
use Rattle.std.proofs.lemmas.Map.Views.{All-map-IsPermutation}
use Rattle.std.proofs.lemmas.Simd.{map-map}
use Rattle.ips_text.proofs.Lists.{all_append}
use Rattle.ips_index.specs.Rows.{IndexedValue}
use Rattle.ips_state.specs.State.{Installed, Recorded}
use Rattle.ips_state.specs.Records.{common_records, index_path, index_records, installed_path, package_place, records_by, records_of}
use Rattle.ips_packages.proofs.Sorting.{to_all}
use Rattle.ips_entries.specs.declared.part.Part.TheVariants as part
use Rattle.ips_entries.specs.declared.part.Place.{Place}
use Rattle.ips_entries.specs.Part.{HasPart, Owned, common_parts, entry_at, index_parts, numbered, owned, owned_package, package_parts, record_text, parts_of, text_of_index, text_of_package}

-- the record of a part that stands at its path
abbrev pub entry_in : Recorded → Owned → List ℕ × List ℕ
entry_in r s = (s.0, record_text r s.1)

entries_shown : (r : Recorded) (places : List Place) → map (entry_at r) places ≡ map (entry_in r) (map owned places)
entries_shown r places = sym (map-map (entry_in r) owned places)

-- ---- packages

behind_front : {A : Type 0} (front : List A) (x : A) (more : List A) → slice_get (front ++ x ∷ more) (length front) ≡ Some x
behind_front [] x more = refl
behind_front (y ∷ front) x more = behind_front front x more

abbrev entry_of_package : Bool → Installed → List ℕ × List ℕ
entry_of_package first p = (package_place first p.stem, text_of_package first (Some p))

numbered_entries : (r : Recorded) (first : Bool) (front packages : List Installed) → (r.format == 1) ≡ first → r.installed ≡ front ++ packages
    → map (entry_in r) (numbered first (length front) packages) ≡ map (entry_of_package first) packages
numbered_entries r first front [] is all = refl
numbered_entries r first front (p ∷ packages) is all =
    let at : slice_get r.installed (length front) ≡ Some p = ap (λ (l : List Installed). slice_get l (length front)) all ∙ behind_front front p packages in
    let count : length front + 1 ≡ length (front ++ p ∷ []) = omega (arith, length-append front (p ∷ [])) in
    let more = ap (λ (n : ℕ). map (entry_in r) (numbered first n packages)) count ∙ numbered_entries r first (front ++ p ∷ []) packages is (all ∙ sym (append_assoc front (p ∷ []) packages)) in
    λ j. (package_place first p.stem, text_of_package (is j) (at j)) ∷ more j

by_format : (r : Recorded) (first : Bool) → (r.format == 1) ≡ first → map (entry_in r) (package_parts first r.installed) ≡ records_by first r.installed
by_format r true is = ap (λ (l : List (List ℕ × List ℕ)). entry_in r (installed_path, part.Installed) ∷ l) (numbered_entries r true [] r.installed is refl)
by_format r false is = numbered_entries r false [] r.installed is refl

-- ---- the rest

of_index : (r : Recorded) (o : Option (List IndexedValue)) → r.index ≡ o → map (entry_in r) (index_parts o) ≡ index_records o
of_index r None is = refl
of_index r (Some rows) is = λ j. (index_path, text_of_index (is j)) ∷ []

of_common : (r : Recorded) → map (entry_in r) (common_parts ++ index_parts r.index) ≡ common_records r
of_common r = map-append (entry_in r) common_parts (index_parts r.index) ∙ ap (λ (l : List (List ℕ × List ℕ)). map (entry_in r) common_parts ++ l) (of_index r r.index refl)

parts_told : (r : Recorded) → map (entry_in r) (parts_of r) ≡ records_of r
parts_told r = map-append (entry_in r) (common_parts ++ index_parts r.index) (package_parts (r.format == 1) r.installed) ∙ (λ j. of_common r j ++ by_format r (r.format == 1) refl j)

pub entries_told : (r : Recorded) (places : List Place) → map owned places ≡ parts_of r → map (entry_at r) places ≡ records_of r
entries_told r places all = entries_shown r places ∙ ap (map (entry_in r)) all ∙ parts_told r

-- ---- the state has each of them

has_numbered : (r : Recorded) (first : Bool) (front packages : List Installed) → r.installed ≡ front ++ packages → AllByRecursion (λ (s : Owned). HasPart r s.1) (numbered first (length front) packages)
has_numbered r first front [] all = tt
has_numbered r first front (p ∷ packages) all =
    let count : length front + 1 ≡ length (front ++ p ∷ []) = omega (arith, length-append front (p ∷ [])) in (
      omega (arith, ap length all, length-append front (p ∷ packages)),
      subst (λ (n : ℕ). AllByRecursion (λ (s : Owned). HasPart r s.1) (numbered first n packages)) (sym count) (has_numbered r first (front ++ p ∷ []) packages (all ∙ sym (append_assoc front (p ∷ []) packages))),
    )

has_package : (r : Recorded) (first : Bool) → AllByRecursion (λ (s : Owned). HasPart r s.1) (package_parts first r.installed)
has_package r true = (tt, has_numbered r true [] r.installed refl)
has_package r false = has_numbered r false [] r.installed refl

has_index : (r : Recorded) (o : Option (List IndexedValue)) → r.index ≡ o → AllByRecursion (λ (s : Owned). HasPart r s.1) (index_parts o)
has_index r None is = tt
has_index r (Some rows) is = (rw is refl, tt)

has_parts : (r : Recorded) → AllByRecursion (λ (s : Owned). HasPart r s.1) (parts_of r)
has_parts r = all_append (λ (s : Owned). HasPart r s.1) (common_parts ++ index_parts r.index) (package_parts (r.format == 1) r.installed) (tt, (tt, (tt, (tt, (tt, has_index r r.index refl))))) (has_package r (r.format == 1))

-- ---- in another order

pub parts_moved : (r : Recorded) (old new : List Place) → map owned old ≡ parts_of r → IsPermutation old new → AllByRecursion (λ (p : Place). HasPart r p.part) new
parts_moved r old new all moved =
    back new (All-map-IsPermutation owned (λ (s : Owned). HasPart r s.1) old new moved (to_all (λ (s : Owned). HasPart r s.1) (map owned old) (subst (AllByRecursion (λ (s : Owned). HasPart r s.1)) (sym all) (has_parts r))))
  where
    back : (places : List Place) → All (λ (s : Owned). HasPart r s.1) (map owned places) → AllByRecursion (λ (p : Place). HasPart r p.part) places
    back [] h = tt
    back (p ∷ places) h = (h 0 (owned p) (omega arith), back places (λ k d lt. h (suc k) d (omega (arith, lt))))

-- ---- one more package

pub numbered_append : (first : Bool) (n : ℕ) (packages : List Installed) (p : Installed) → numbered first n (packages ++ p ∷ []) ≡ numbered first n packages ++ owned_package first (n + length packages) p ∷ []
numbered_append first n [] p = let same : n ≡ n + 0 = omega arith in ap (λ (k : ℕ). owned_package first k p ∷ []) same
numbered_append first n (q ∷ packages) p =
    let count : n + 1 + length packages ≡ n + suc (length packages) = omega arith in
    ap (λ (l : List Owned). owned_package first n q ∷ l) (numbered_append first (n + 1) packages p ∙ ap (λ (k : ℕ). numbered first (n + 1) packages ++ owned_package first k p ∷ []) count)
