-- The records of a state mean the same in any order.
use Rattle.std.proofs.Common.{◌≡◌, ℕ, Bool, true, false, cond, List, [], ◌∷◌, ◌++◌, ◌==◌, map, Option, Some, None, is_some, nat_cmp, refl, sym, ap, ap₂, subst, ◌∙◌, inl, inr}
use Rattle.std.specs.List.{AllByRecursion, list_any}
use Rattle.std.specs.List.Sorted.{IsPermutation}
use Rattle.std.specs.Cmp.Lexicographic.{slice_cmp}
use Rattle.std.specs.declared.cmp.Ordering.TheVariants.{Equal, Less}
use Rattle.std.proofs.lemmas.Bool.{and_parts, false_from_ne_true, or_cases, true≢false}
use Rattle.std.proofs.lemmas.Cmp.{nat_list_cmp_total, tied_itself}
use Rattle.std.proofs.lemmas.List.Sorted.{list_any-IsPermutation}
use Rattle.std.proofs.lemmas.Map.Keys.{sorted_head, sorted_tail}
use Rattle.std.proofs.lemmas.Option.{same_Some}
use Rattle.ips_text.specs.Ancestry.{same_path}
use Rattle.ips_text.proofs.Ancestry.{same_path-true}
use Rattle.ips_state.specs.State.{Ascend, Recorded}
use Rattle.ips_state.specs.Records.{AreRecords, index_path, packages_path, records_of, taken_away}
use Rattle.ips_entries.specs.Part.{entry_at}
use Rattle.ips_entries.specs.Standing.{Written}
use Rattle.ips_entries.specs.declared.part.Place.{Place}
use Rattle.ips_entries.proofs.ReadBack.{HasEntry, entry_here, entry_later, entry_told, is_entry}
use Rattle.ips_after.specs.Lists.{listed}
use Rattle.ips_due.specs.Due.{Content, DueFile, MeansSame, Own, own_records, record_at}
use Rattle.ips_due.specs.State.{renewed_by}
use Rattle.ips_due.specs.Delivered.{Delivered, creation_due, delivered_gone, delivered_records, first_folders, request_due}
use Rattle.ips_due.specs.outstanding.Noted.{either}
use Rattle.ips_due.specs.declared.outstanding.due.DueRecord.{DueRecord}
use Rattle.ips_due.specs.outstanding.Parts.{due_record}
use Rattle.ips_request_due.specs.state_due.Parts.{due_at, placed_records}
use Rattle.ips_request_due.proofs.state_due.Behind.{DueEntry}

-- ---- the first record of a path

pub found_append : (xs ys : List DueEntry) (q : List ℕ) → record_at (xs ++ ys) q ≡ either (record_at xs q) (record_at ys q)
found_append [] ys q = refl
found_append (x ∷ xs) ys q = go (same_path x.0 q) (found_append xs ys q)
  where
    go : (b : Bool) → record_at (xs ++ ys) q ≡ either (record_at xs q) (record_at ys q) → cond b (Some x.1) (record_at (xs ++ ys) q) ≡ either (cond b (Some x.1) (record_at xs q)) (record_at ys q)
    go true rest = refl
    go false rest = rest

-- what is found is in the list
found_entry : (files : List Written) (q : List ℕ) (c : Content) → record_at (own_records files) q ≡ Some c → (b : List ℕ) × (c ≡ Own b) × HasEntry files q b
found_entry [] q c is = cc
found_entry (e ∷ files) q c is = go (same_path e.0 q) refl (found_entry files q c) is
  where
    go : (s : Bool) → same_path e.0 q ≡ s → (record_at (own_records files) q ≡ Some c → (b : List ℕ) × (c ≡ Own b) × HasEntry files q b) → cond s (Some (Own e.1)) (record_at (own_records files) q) ≡ Some c
        → (b : List ℕ) × (c ≡ Own b) × HasEntry (e ∷ files) q b
    go true same rest is = (e.1, sym (same_Some (Own e.1) c is), subst (λ (p : List ℕ). HasEntry (e ∷ files) p e.1) (same_path-true e.0 q same) (entry_here e files))
    go false same rest is = let w = rest is in (w.0, w.1, entry_later e files q w.0 w.2)

-- what is in the list is found, if not as it is
some_found : (files : List Written) (q b : List ℕ) → HasEntry files q b → is_some (record_at (own_records files) q) ≡ true
some_found [] q b is = absurd (true≢false (sym is))
some_found (e ∷ files) q b is = elim (or_cases (is_entry q b e) (list_any (is_entry q b) files) is) [
  | inl here ↦ ap (λ (s : Bool). is_some (cond s (Some (Own e.1)) (record_at (own_records files) q))) (and_parts (same_path e.0 q) (same_path e.1 b) here).0
  | inr later ↦ go (same_path e.0 q) (some_found files q b later)
]
  where
    go : (s : Bool) → is_some (record_at (own_records files) q) ≡ true → is_some (cond s (Some (Own e.1)) (record_at (own_records files) q)) ≡ true
    go true rest = refl
    go false rest = rest

all_of_map : {A B : Type 0} (P : B → Type 0) (f : A → B) (xs : List A) → AllByRecursion P (map f xs) → AllByRecursion (λ (x : A). P (f x)) xs
all_of_map P f [] all = tt
all_of_map P f (x ∷ xs) all = (all.0, all_of_map P f xs all.1)

abbrev path_of : Written → List ℕ
path_of e = e.0

-- where paths ascend, what is in the list is found as it is
only_found : (files : List Written) → Ascend (map path_of files) → (q b : List ℕ) → HasEntry files q b → record_at (own_records files) q ≡ Some (Own b)
only_found [] up q b is = absurd (true≢false (sym is))
only_found (e ∷ files) up q b is = elim (or_cases (is_entry q b e) (list_any (is_entry q b) files) is) [
  | inl here ↦
      let parts = and_parts (same_path e.0 q) (same_path e.1 b) here in
      ap (λ (s : Bool). cond s (Some (Own e.1)) (record_at (own_records files) q)) parts.0 ∙ ap (λ (x : List ℕ). Some (Own x)) (same_path-true e.1 b parts.1)
  | inr later ↦
      let less : slice_cmp nat_cmp e.0 q ≡ Less = entry_told (λ p x. slice_cmp nat_cmp e.0 p ≡ Less) files q b (all_of_map (λ (y : List ℕ). slice_cmp nat_cmp e.0 y ≡ Less) path_of files (sorted_head _ e.0 (map path_of files) up)) later in
      let apart = false_from_ne_true (same_path e.0 q) (λ same. let bad : Less ≡ Equal = sym less ∙ ap (slice_cmp nat_cmp e.0) (sym (same_path-true e.0 q same)) ∙ tied_itself nat_list_cmp_total e.0 in absurd cc) in
      ap (λ (s : Bool). cond s (Some (Own e.1)) (record_at (own_records files) q)) apart ∙ only_found files (sorted_tail _ e.0 (map path_of files) up) q b later
]

moved_same : (xs ys : List Written) → IsPermutation xs ys → Ascend (map path_of ys) → (q : List ℕ) → record_at (own_records ys) q ≡ record_at (own_records xs) q
moved_same xs ys moved up q = go (record_at (own_records xs) q) refl (record_at (own_records ys) q) refl
  where
    go : (a : Option Content) → record_at (own_records xs) q ≡ a → (b : Option Content) → record_at (own_records ys) q ≡ b → record_at (own_records ys) q ≡ record_at (own_records xs) q
    go (Some c) is b there =
        let w = found_entry xs q c is in
        only_found ys up q w.0 (sym (list_any-IsPermutation (is_entry q w.0) xs ys moved) ∙ w.2) ∙ ap (λ (x : Content). Some x) (sym w.1) ∙ sym is
    go None is (Some c) there =
        let w = found_entry ys q c there in
        let some = some_found xs q w.0 (list_any-IsPermutation (is_entry q w.0) xs ys moved ∙ w.2) in
        absurd (true≢false (sym some ∙ ap (λ (o : Option Content). is_some o) is))
    go None is None there = there ∙ sym is

-- ---- a state by its places

places_own : (r : Recorded) (places : List Place) → map (due_at r) places ≡ own_records (map (entry_at r) places)
places_own r [] = refl
places_own r (p ∷ places) = ap (λ (l : List DueEntry). due_at r p ∷ l) (places_own r places)

pub records_same : (r : Recorded) (places : List Place) (others : List DueRecord) → AreRecords r (map (entry_at r) places) → (q : List ℕ) → record_at (placed_records r places others) q ≡ record_at (own_records (records_of r) ++ map due_record others) q
records_same r places others are q =
    found_append (map (due_at r) places) (map due_record others) q
    ∙ ap (λ (o : Option Content). either o (record_at (map due_record others) q)) (ap (λ (l : List DueEntry). record_at l q) (places_own r places) ∙ moved_same (records_of r) (map (entry_at r) places) are.due are.order q)
    ∙ sym (found_append (own_records (records_of r)) (map due_record others) q)

-- with others behind them that mean the same
behind_same : (r : Recorded) (places : List Place) (others : List DueRecord) (rest : List DueEntry) → AreRecords r (map (entry_at r) places) → ((q : List ℕ) → record_at (map due_record others) q ≡ record_at rest q)
    → (q : List ℕ) → record_at (placed_records r places others) q ≡ record_at (own_records (records_of r) ++ rest) q
behind_same r places others rest are same q =
    records_same r places others are q ∙ found_append (own_records (records_of r)) (map due_record others) q
    ∙ ap (either (record_at (own_records (records_of r)) q)) (same q) ∙ sym (found_append (own_records (records_of r)) rest q)

pub request_same : (accounts : List DueFile) (old new : Recorded) (was is : Delivered) (places : List Place) (others : List DueRecord) (gone : List (List ℕ)) → AreRecords new (map (entry_at new) places)
    → ((q : List ℕ) → record_at (map due_record others) q ≡ record_at (delivered_records is) q) → ((q : List ℕ) → listed gone q ≡ listed (taken_away old new ++ delivered_gone was is) q)
    → MeansSame (record { accounts = accounts; records = placed_records new places others; renewed = renewed_by (old.format == 1) (new.format == 1); folders = []; gone = gone }) (request_due accounts old new was is)
request_same accounts old new was is places others gone are same_others same_gone = record {
  accounts = λ q. refl;
  records = behind_same new places others (delivered_records is) are same_others;
  renewed = λ q. refl;
  folders = λ q. refl;
  gone = same_gone;
}

pub creation_same : (new : Recorded) (places : List Place) (others : List DueRecord) → AreRecords new (map (entry_at new) places)
    → ((q : List ℕ) → record_at (map due_record others) q ≡ record_at (delivered_records (record { owners = []; drivers = []; licenses = []; legacy = [] })) q)
    → MeansSame (record { accounts = []; records = placed_records new places others; renewed = packages_path ∷ []; folders = first_folders; gone = index_path ∷ [] }) (creation_due new)
creation_same new places others are same_others = record {
  accounts = λ q. refl;
  records = behind_same new places others (delivered_records (record { owners = []; drivers = []; licenses = []; legacy = [] })) are same_others;
  renewed = λ q. refl;
  folders = λ q. refl;
  gone = λ q. refl;
}
