-- Each record of a state is due with its own bytes, in front of others.
use Rattle.std.proofs.Common.{◌≡◌, ℕ, Bool, true, false, cond, ◌==◌, List, [], ◌∷◌, ◌++◌, map, Option, Some, None, nat_cmp, refl, sym, ap, ◌∙◌}
use Rattle.std.specs.List.{AllByRecursion}
use Rattle.std.specs.Cmp.Lexicographic.{slice_cmp}
use Rattle.std.specs.declared.cmp.Ordering.TheVariants.{Equal, Less}
use Rattle.std.proofs.lemmas.Bool.{false_from_ne_true}
use Rattle.std.proofs.lemmas.Cmp.{nat_list_cmp_total, tied_itself}
use Rattle.std.proofs.lemmas.Map.Keys.{sorted_head, sorted_tail}
use Rattle.ips_text.specs.Ancestry.{same_path}
use Rattle.ips_text.proofs.Ancestry.{same_path-self, same_path-true}
use Rattle.ips_text.proofs.Lists.{all_append}
use Rattle.ips_fmri.specs.Name.{IsStem}
use Rattle.ips_index.specs.Rows.{IndexedValue}
use Rattle.ips_manifest.specs.Manifest.{manifest_text}
use Rattle.ips_records.specs.Lines.{lines_text}
use Rattle.ips_state.specs.State.{Ascend, Installed, Recorded, head_of}
use Rattle.ips_state.specs.Form.{IsPackage}
use Rattle.ips_state.specs.Lawful.{ArePackages}
use Rattle.ips_state.specs.Records.{avoid_path, freeze_path, history_path, image_path, index_records, installed_path, listed_records, mediators_path, package_place, package_records, records_by, records_of}
use Rattle.ips_state.specs.Text.{head_lines, mediator_line, name_lines, package_text, versioned_stem}
use Rattle.ips_entries.specs.Standing.{Written}
use Rattle.ips_entries.proofs.PathsDiffer.{place_one}
use Rattle.ips_due.specs.Due.{Content, Own, own_records, record_at}

-- what is due: paths and contents
abbrev pub DueRecords : Type 0
DueRecords = List (List ℕ × Content)

-- the record is due as it is
abbrev pub IsFound : DueRecords → Written → Type 0
IsFound all e = record_at all e.0 ≡ Some (Own e.1)

-- ---- packages

less_apart : (x y : List ℕ) → slice_cmp nat_cmp x y ≡ Less → x ≡ y → ⊥
less_apart x y less same = let bad : Less ≡ Equal = sym less ∙ ap (slice_cmp nat_cmp x) (sym same) ∙ tied_itself nat_list_cmp_total x in absurd cc

abbrev stem_of : Installed → List ℕ
stem_of p = p.stem

module _ (first : Bool) (text : Installed → List ℕ) (rest : DueRecords) where
  abbrev written : Installed → Written
  written p = (package_place first p.stem, text p)

  abbrev due_of : List Installed → DueRecords
  due_of ps = own_records (map written ps) ++ rest

  found_first : (p : Installed) (ps : List Installed) → IsFound (due_of (p ∷ ps)) (written p)
  found_first p ps = ap (λ (b : Bool). cond b (Some (Own (text p))) (record_at (due_of ps) (package_place first p.stem))) (same_path-self (package_place first p.stem))

  -- those behind one with a lesser stem are found behind it
  found_later : (p : Installed) (ps qs : List Installed) → IsStem false p.stem → AllByRecursion IsPackage qs → AllByRecursion (λ (s : List ℕ). slice_cmp nat_cmp p.stem s ≡ Less) (map stem_of qs)
      → AllByRecursion (IsFound (due_of ps)) (map written qs) → AllByRecursion (IsFound (due_of (p ∷ ps))) (map written qs)
  found_later p ps [] stem each less all = tt
  found_later p ps (q ∷ qs) stem each less all =
      let apart : same_path (package_place first p.stem) (package_place first q.stem) ≡ false = false_from_ne_true _ (λ same. less_apart p.stem q.stem less.0 (place_one first p.stem q.stem stem each.0.stem (same_path-true (package_place first p.stem) (package_place first q.stem) same))) in
      (ap (λ (b : Bool). cond b (Some (Own (text p))) (record_at (due_of ps) (package_place first q.stem))) apart ∙ all.0, found_later p ps qs stem each.1 less.1 all.1)

  found_packages : (ps : List Installed) → AllByRecursion IsPackage ps → Ascend (map stem_of ps) → AllByRecursion (IsFound (due_of ps)) (map written ps)
  found_packages [] each up = tt
  found_packages (p ∷ ps) each up = (found_first p ps, found_later p ps ps each.0.stem each.1 (sorted_head _ p.stem (map stem_of ps) up) (found_packages ps each.1 (sorted_tail _ p.stem (map stem_of ps) up)))

-- what is found of packages stays found where nothing at their places is in front
moved_found : (first : Bool) (text : Installed → List ℕ) (all more : DueRecords) → ((s : List ℕ) → record_at more (package_place first s) ≡ record_at all (package_place first s)) → (ps : List Installed)
    → AllByRecursion (IsFound all) (map (written first text []) ps) → AllByRecursion (IsFound more) (map (written first text []) ps)
moved_found first text all more same [] found = tt
moved_found first text all more same (p ∷ ps) found = (same p.stem ∙ found.0, moved_found first text all more same ps found.1)

-- ---- all records

module _ (r : Recorded) (rest : DueRecords) where
  -- the records that both formats have, where this is the index
  abbrev common : Option (List IndexedValue) → List Written
  common index = (image_path, lines_text (head_lines (head_of r))) ∷ (avoid_path, lines_text r.avoid) ∷ (freeze_path, lines_text (name_lines r.freeze))
      ∷ (mediators_path, lines_text (map mediator_line r.mediators)) ∷ (history_path, lines_text r.history) ∷ index_records index

  abbrev whole : Option (List IndexedValue) → List Written → DueRecords
  whole index files = own_records (common index ++ files) ++ rest

  common_found : (index : Option (List IndexedValue)) (files : List Written) → AllByRecursion (IsFound (whole index files)) (common index)
  common_found None files = (refl, (refl, (refl, (refl, (refl, tt)))))
  common_found (Some rows) files = (refl, (refl, (refl, (refl, (refl, (refl, tt))))))

  place_behind : (first : Bool) (index : Option (List IndexedValue)) (files : List Written) (s : List ℕ) → record_at (whole index files) (package_place first s) ≡ record_at (own_records files ++ rest) (package_place first s)
  place_behind true None files s = refl
  place_behind true (Some rows) files s = refl
  place_behind false None files s = refl
  place_behind false (Some rows) files s = refl

  list_found : (index : Option (List IndexedValue)) (text : List ℕ) (files : List Written) → record_at (whole index ((installed_path, text) ∷ files)) installed_path ≡ Some (Own text)
  list_found None text files = refl
  list_found (Some rows) text files = refl

  abbrev manifest : Installed → List ℕ
  manifest p = manifest_text p.lines

  abbrev record_of : Installed → List ℕ
  record_of p = package_text p.version p.lines

  by_format : ArePackages r.installed → (first : Bool) → AllByRecursion (IsFound (whole r.index (records_by first r.installed))) (common r.index ++ records_by first r.installed)
  by_format are true =
      let files = listed_records r.installed in
      let list = lines_text (name_lines (map versioned_stem r.installed)) in
      let placed = map (written true manifest []) r.installed in
      let behind = moved_found true manifest (own_records placed ++ rest) (own_records files ++ rest) (λ s. refl) r.installed (found_packages true manifest rest r.installed are.each are.order) in
      all_append (IsFound (whole r.index files)) (common r.index) files (common_found r.index files)
      (list_found r.index list placed, moved_found true manifest (own_records files ++ rest) (whole r.index files) (place_behind true r.index files) r.installed behind)
  by_format are false =
      let files = package_records r.installed in
      all_append (IsFound (whole r.index files)) (common r.index) files (common_found r.index files)
      (moved_found false record_of (own_records files ++ rest) (whole r.index files) (place_behind false r.index files) r.installed (found_packages false record_of rest r.installed are.each are.order))

  pub records_found : ArePackages r.installed → AllByRecursion (IsFound (own_records (records_of r) ++ rest)) (records_of r)
  records_found are = by_format are (r.format == 1)
