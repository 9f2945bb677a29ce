-- Findings taken one by one along the wanted paths.
use Rattle.std.proofs.Common.{◌≡◌, ℕ, zero, suc, ◌+◌, ◌<◌, Bool, true, false, not, List, [], ◌∷◌, ◌++◌, drop, length, get_or, map, take, Option, Some, None, refl, sym, ◌∙◌, ap, subst, arith, Contains}
use Rattle.std.specs.Prelude.{slice_get}
use Rattle.std.specs.List.{AllByRecursion}
use Rattle.std.specs.List.Sorted.{IsStrictlySortedBy}
use Rattle.std.specs.Ordering.{nat_cmp}
use Rattle.std.specs.Cmp.Lexicographic.{slice_cmp}
use Rattle.std.proofs.lemmas.Bool.{and_parts, not-true}
use Rattle.std.proofs.lemmas.List.Elements.{Contains-get_or}
use Rattle.std.proofs.lemmas.Option.{get_or_from_slice_get, slice_get_within}
use Rattle.ips_text.specs.Ancestry.{same_path}
use Rattle.ips_text.proofs.Ancestry.{same_path-self}
use Rattle.ips_text.proofs.Lists.{map_item}
use Rattle.ips_outside.specs.Image.{Image}
use Rattle.ips_after.specs.Findings.{Damage, Finding, finding, findings_at, with_finding}
use Rattle.ips_after.specs.Lists.{listed, unrepeated}
use Rattle.ips_after.specs.Repaired.{Repair, found, mended, mended_as}
use Rattle.ips_after.specs.Request.{Want, Wanted}
use Rattle.ips_after.proofs.Sorted.{sorted_once}
use Rattle.ips_meaning.specs.declared.entry.Entry.{Entry}
use Rattle.ips_change.specs.wanted.Wanted.{want_of, wanted_of}
use Rattle.ips_change.proofs.wanted.Found.{found_at}
use Rattle.ips_change.specs.declared.survey.row.Row.{Row}
use Rattle.ips_change.specs.survey.Marks.{row_paths}
use Rattle.ips_change.specs.survey.Rows.{row_pair}
use Rattle.ips_change.proofs.survey.Filling.{or_none, rows_more}
use Rattle.ips_change.specs.declared.change.Change.{Change}
use Rattle.ips_change.specs.Fitting.{Fits}
use Rattle.ips_links.specs.Fitting.{AllFit}
use Rattle.ips_mend.specs.mended.Mending.{AllFitAt, IsRowFor}
use Rattle.ips_mend.specs.mended.Merging.{damage_next, left_next}

-- ---- the next row's path, and those behind it

record Split (paths : List (List ℕ)) (i : ℕ) (p : List ℕ) : Type 0 where
  here : drop i paths ≡ p ∷ drop (i + 1) paths
  apart : listed (drop (i + 1) paths) p ≡ false

split_at : (rows : List Row) (i : ℕ) (row : Row) → i < length rows → row ≡ get_or rows i row → unrepeated (row_paths rows) ≡ true → Split (row_paths rows) i row.path.now.bytes
split_at [] i row lt is once = absurd (omega arith)
split_at (r ∷ rows) zero row lt is once =
    let parts = and_parts (not (listed (row_paths rows) r.path.now.bytes)) (unrepeated (row_paths rows)) once in
    record {
      here = ap (λ (x : Row). x.path.now.bytes ∷ row_paths rows) (sym is);
      apart = ap (λ (x : Row). listed (row_paths rows) x.path.now.bytes) is ∙ not-true _ parts.0;
    }
split_at (r ∷ rows) (suc i) row lt is once =
    let parts = and_parts (not (listed (row_paths rows) r.path.now.bytes)) (unrepeated (row_paths rows)) once in
    let rest = split_at rows i row (omega (arith, lt)) is parts.1 in
    let on : suc (i + 1) ≡ suc i + 1 = omega arith in
    record {
      here = rest.here ∙ ap (λ (n : ℕ). row.path.now.bytes ∷ drop n (row_paths (r ∷ rows))) on;
      apart = ap (λ (n : ℕ). listed (drop n (row_paths (r ∷ rows))) row.path.now.bytes) (sym on) ∙ rest.apart;
    }

-- ---- what is found there, and what is left

record Taken (p : List ℕ) (d : Option Damage) (all left : List Finding) : Type 0 where
  damage : damage_next p all ≡ d
  left_is : left_next p all ≡ left

module _ (holds : List ℕ → List ℕ → Bool) (want : Want) (t : Image) (p : List ℕ) where
  -- behind the path nothing is found at it
  passed : (rest : List (List ℕ)) → listed rest p ≡ false → Taken p None (findings_at holds want t rest) (findings_at holds want t rest)
  passed [] apart = record { damage = refl; left_is = refl }
  passed (q ∷ rest) apart = go (finding holds want t q) (or_none (same_path q p) (listed rest p) apart) (passed rest)
    where
      go : (d : Option Damage) → (listed rest p ≡ false) × (same_path q p ≡ false) → (listed rest p ≡ false → Taken p None (findings_at holds want t rest) (findings_at holds want t rest))
          → Taken p None (with_finding q d (findings_at holds want t rest)) (with_finding q d (findings_at holds want t rest))
      go None both behind = behind both.0
      go (Some d) both behind = record { damage = rw both.1 refl; left_is = rw both.1 refl }

  taken_at : (rest : List (List ℕ)) → listed rest p ≡ false → (d : Option Damage) → Taken p d (with_finding p d (findings_at holds want t rest)) (findings_at holds want t rest)
  taken_at rest apart None = passed rest apart
  taken_at rest apart (Some d) = record { damage = rw (same_path-self p) refl; left_is = rw (same_path-self p) refl }

pub record Goes (f : Repair) (t : Image) (rows : List Row) (i : ℕ) (p : List ℕ) (left : List Finding) : Type 0 where
  pub damage : damage_next p left ≡ found f t p
  pub rest : left_next p left ≡ findings_at f.holds f.want t (drop (i + 1) (row_paths rows))

pub goes : (f : Repair) (t : Image) (rows : List Row) (i : ℕ) (row : Row) (left : List Finding) → i < length rows → row ≡ get_or rows i row → IsStrictlySortedBy (slice_cmp nat_cmp) (row_paths rows)
    → left ≡ findings_at f.holds f.want t (drop i (row_paths rows)) → Goes f t rows i row.path.now.bytes left
goes f t rows i row left lt is order are =
    let p = row.path.now.bytes in
    let split = split_at rows i row lt is (sorted_once (row_paths rows) order) in
    let taken = taken_at f.holds f.want t p (drop (i + 1) (row_paths rows)) split.apart (found f t p) in
    let all : left ≡ with_finding p (found f t p) (findings_at f.holds f.want t (drop (i + 1) (row_paths rows))) = are ∙ ap (findings_at f.holds f.want t) split.here in
    record { damage = ap (damage_next p) all ∙ taken.damage; rest = ap (left_next p) all ∙ taken.left_is }

-- what becomes of the path by what is found there
pub mended_here : (f : Repair) (t : Image) (p : List ℕ) (w : Option Wanted) (d next : Option Damage) → w ≡ f.want.at p → d ≡ next → next ≡ found f t p → mended_as f.bytes w d ≡ mended f t p
mended_here f t p w d next at is there = ap (λ (x : Option Wanted). mended_as f.bytes x d) at ∙ ap (mended_as f.bytes (f.want.at p)) (is ∙ there)

-- ---- rows of a Want

-- what is wanted at the path of an entry
pub entry_there : (entries : List (List ℕ × Entry)) (i : ℕ) (p : List ℕ) (e : Entry) → slice_get entries i ≡ Some (p, e) → IsStrictlySortedBy (slice_cmp nat_cmp) (want_of entries).keys → (want_of entries).at p ≡ Some (wanted_of e)
entry_there entries i p e there order =
    let one : List ℕ × Entry = (p, e) in
    let get : one ≡ get_or entries i one = sym (get_or_from_slice_get entries i one one there) in
    found_at entries p e (sorted_once _ order) (subst (Contains entries) (sym get) (Contains-get_or entries i one (slice_get_within entries i one there)))

pub row_next : (entries : List (List ℕ × Entry)) (i : ℕ) (row : Row) (e : Entry) → slice_get entries i ≡ Some (row.path.now.bytes, e) → (row_pair row).wanted ≡ Some (wanted_of e)
    → IsStrictlySortedBy (slice_cmp nat_cmp) (want_of entries).keys → IsRowFor (want_of entries) row
row_next entries i row e there is order = is ∙ sym (entry_there entries i row.path.now.bytes e there order)

pub row_paths_next : (entries : List (List ℕ × Entry)) (i : ℕ) (front new : List Row) (row : Row) (e : Entry) → new ≡ front ++ row ∷ [] → slice_get entries i ≡ Some (row.path.now.bytes, e)
    → row_paths front ≡ map (λ (x : List ℕ × Entry). x.0) (take i entries) → row_paths new ≡ map (λ (x : List ℕ × Entry). x.0) (take (i + 1) entries)
row_paths_next entries i front new row e more there are =
    let one : List ℕ × Entry = (row.path.now.bytes, e) in
    ap row_paths more ∙ rows_more front row ∙ ap (λ (l : List (List ℕ)). l ++ row.path.now.bytes ∷ []) are
    ∙ sym (map_item (λ (x : List ℕ × Entry). x.0) entries i one (slice_get_within entries i one there) (sym (get_or_from_slice_get entries i one one there)))

-- what fits rows fits what is wanted at their paths
pub fit_at : (want : Want) (rows : List Row) (changes : List Change) → AllByRecursion (IsRowFor want) rows → AllFit Fits rows changes → AllFitAt want (row_paths rows) changes
fit_at want rows [] are all = tt
fit_at want [] (c ∷ changes) are all = tt
fit_at want (row ∷ rows) (c ∷ changes) are all = (subst (λ (w : Option Wanted). Fits w c) are.0 all.0, fit_at want rows changes are.1 all.1)
