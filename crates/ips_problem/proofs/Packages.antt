-- The packages that a choice selects, one stem at a time.
use Rattle.std.proofs.Common.{◌≡◌, ◌≢◌, ◌↔◌, ℕ, zero, suc, ◌+◌, ◌<◌, Bool, true, false, List, [], ◌∷◌, ◌++◌, map, length, slice_get, get_or, Contains, Option, Some, None, option_map, option_and_then, refl, sym, ap, subst, ◌∙◌, inl, inr, ◌⊎◌, String, Global, string_bytes, bytes_eq, add-one, arith}
use Rattle.std.specs.Option.{option_to_list}
use Rattle.std.specs.declared.cmp.Ordering.{Ordering}
use Rattle.std.specs.declared.cmp.Ordering.TheVariants.{Less, Equal, Greater}
use Rattle.std.specs.Ordering.{nat_cmp, is_lt, ordering_reverse}
use Rattle.std.specs.Cmp.{IsStrictWeakOrder}
use Rattle.std.specs.Cmp.Lexicographic.{slice_cmp, nat_list_eq_equiv}
use Rattle.std.specs.FinMap.{slice_cmp-IsAntisymmetric, nat_cmp-IsAntisymmetric}
use Rattle.std.specs.List.{IsDistinct}
use Rattle.std.specs.List.Sorted.{IsPermutation, IsSortedBy}
use Rattle.std.proofs.lemmas.Bool.{both_ways, cases_Bool, cond-true, cond-false, cases_lt}
use Rattle.std.proofs.lemmas.Cmp.{nat_list_cmp_total}
use Rattle.std.proofs.lemmas.List.{append-nil, map_push, get_or-map, length-map}
use Rattle.std.proofs.lemmas.List.Quantifiers.{position-Some, all_pairs_push}
use Rattle.std.proofs.lemmas.List.Sorted.{Contains-permutation, IsPermutation-map, IsPermutation-sym, ranks_by}
use Rattle.std.proofs.lemmas.Map.Keys.{apart_from_distinct, IsDistinct-IsPermutation, sorted_from_all_adjacent}
use Rattle.std.proofs.lemmas.Map.Made.{AllPairs-from_IsDistinct, IsDistinct-from_AllPairs}
use Rattle.std.proofs.lemmas.Option.{none-some, same_Some, slice_get-map, slice_get-get_or, slice_get_read, slice_get_within, get_or_from_slice_get}
use Rattle.std.proofs.lemmas.Slice.Eq.{bytes_eq-Decides}
use Rattle.ips_manifest.specs.declared.package.Package.{Package}
use Rattle.ips_refute.specs.Meaning.{pairs}
use Rattle.ips_state.specs.State.{Ascend, Installed, installed}
use Rattle.ips_request.specs.Stems.{stems_of}
use Rattle.ips_request.proofs.StemLists.{AreDistinct, own_number, same_stem, none_or_some}
use Rattle.ips_problem.specs.declared.rows.Row as declared
use Rattle.ips_problem.specs.Posed.{Offer, StemRow, Posed, candidate_of, number_of, picked, version_at, version_of}
use Rattle.ips_problem.specs.Seen.{puzzle_of, seen_row}
use Rattle.ips_problem.specs.Taken.{AreTaken, offer_at, package_of, package_with, selected_at, selected_below}
use Rattle.ips_problem.proofs.Members.{Among, among_left, among_right, among_cases, among_at, place_among, contained_at, at_contained}
use Rattle.ips_problem.proofs.Picking.{chosen_at}
use Rattle.ips_text.proofs.Lists.{element}

-- ---- one stem more

one_below : (p : Posed) (choice : List ℕ) (i : ℕ) → selected_below p choice (i + 1) ≡ selected_below p choice i ++ option_to_list (selected_at p choice i)
one_below p choice i = ap (selected_below p choice) (add-one i)

-- what is selected of the stem with a number, as it is read
selected_read : (keys : List (String Global)) (rows : List declared.Row) (choice : List ℕ) (i : ℕ) (key : String Global) (row : declared.Row) → length rows ≡ length keys → length choice ≡ length keys → i < length keys
    → key ≡ get_or keys i key → row ≡ get_or rows i row
    → selected_at (puzzle_of keys rows) choice i ≡ package_of (Some (string_bytes key)) (offer_at (Some (seen_row row)) (Some (get_or choice i 0)))
selected_read keys rows choice i key row known chosen l at read =
    let within : i < length rows = omega arith in
    let offered : i < length choice = omega arith in
    let stem : slice_get (stems_of keys) i ≡ Some (string_bytes key) = slice_get-map (λ (k : String Global). string_bytes k) keys i ∙ ap (option_map (λ (k : String Global). string_bytes k)) (slice_get_read keys (length keys) i key refl l at) in
    let own : slice_get (map seen_row rows) i ≡ Some (seen_row row) = slice_get-map seen_row rows i ∙ ap (option_map seen_row) (slice_get_read rows (length rows) i row refl within read) in
    let candidate = slice_get-get_or choice i 0 offered in
    λ j. package_of (stem j) (offer_at (own j) (candidate j))

pub selected_more : (keys : List (String Global)) (rows : List declared.Row) (choice : List ℕ) (i : ℕ) (key : String Global) (row : declared.Row) (stem : List ℕ) (old new : List Package) (o : Option Package)
    → length rows ≡ length keys → length choice ≡ length keys → i < length keys → key ≡ get_or keys i key → row ≡ get_or rows i row → stem ≡ string_bytes key
    → option_map installed o ≡ package_of (Some stem) (offer_at (Some (seen_row row)) (Some (get_or choice i 0)))
    → map installed old ≡ selected_below (puzzle_of keys rows) choice i → new ≡ old ++ option_to_list o → map installed new ≡ selected_below (puzzle_of keys rows) choice (i + 1)
selected_more keys rows choice i key row stem old new o known chosen l at read is told before added =
    let own : option_map installed o ≡ selected_at (puzzle_of keys rows) choice i =
    told ∙ ap (λ (s : List ℕ). package_of (Some s) (offer_at (Some (seen_row row)) (Some (get_or choice i 0)))) is ∙ sym (selected_read keys rows choice i key row known chosen l at read) in
    ap (map installed) added ∙ grown o own ∙ sym (one_below (puzzle_of keys rows) choice i)
  where
    grown : (o : Option Package) → option_map installed o ≡ selected_at (puzzle_of keys rows) choice i → map installed (old ++ option_to_list o) ≡ selected_below (puzzle_of keys rows) choice i ++ option_to_list (selected_at (puzzle_of keys rows) choice i)
    grown None e = ap (map installed) (append-nil old) ∙ before ∙ sym (append-nil (selected_below (puzzle_of keys rows) choice i)) ∙ ap (λ (p : Option Installed). selected_below (puzzle_of keys rows) choice i ++ option_to_list p) e
    grown (Some q) e = map_push installed old q ∙ ap (λ (l : List Installed). l ++ installed q ∷ []) before ∙ ap (λ (p : Option Installed). selected_below (puzzle_of keys rows) choice i ++ option_to_list p) e

-- ---- what is selected

-- the stem of what is selected is that of the number
stem_selected : (p : Posed) (choice : List ℕ) (i : ℕ) (q : Installed) → selected_at p choice i ≡ Some q → slice_get p.stems i ≡ Some q.stem
stem_selected p choice i q e = go (slice_get p.stems i) (offer_at (slice_get p.rows i) (slice_get choice i)) e
  where
    go : (s : Option (List ℕ)) (o : Option Offer) → package_of s o ≡ Some q → s ≡ Some q.stem
    go None o e = absurd (none-some q e)
    go (Some stem) None e = absurd (none-some q e)
    go (Some stem) (Some offer) e = ap (option_map (λ (r : Installed). r.stem)) e

among_option : {X : Type 0} (o : Option X) (x : X) → Among x (option_to_list o) → o ≡ Some x
among_option None x h = absurd h
among_option (Some y) x (inl e) = ap (λ z. Some z) e
among_option (Some y) x (inr h) = absurd h

option_among : {X : Type 0} (o : Option X) (x : X) → o ≡ Some x → Among x (option_to_list o)
option_among o x e = subst (λ p. Among x (option_to_list p)) (sym e) (inl refl)

below_selected : (p : Posed) (choice : List ℕ) (n : ℕ) (q : Installed) → Among q (selected_below p choice n) → (i : ℕ) × (i < n) × (selected_at p choice i ≡ Some q)
below_selected p choice zero q h = absurd h
below_selected p choice (suc n) q h = elim (among_cases q (selected_below p choice n) (option_to_list (selected_at p choice n)) h) [
  | inl a ↦ let (i, l, e) = below_selected p choice n q a in (i, omega arith, e)
  | inr b ↦ (n, omega arith, among_option (selected_at p choice n) q b)
]

selected_is_below : (p : Posed) (choice : List ℕ) (n i : ℕ) (q : Installed) → i < n → selected_at p choice i ≡ Some q → Among q (selected_below p choice n)
selected_is_below p choice zero i q l e = absurd (omega arith)
selected_is_below p choice (suc n) i q l e = elim (cases_lt i n) [
  | inl h ↦ among_left q (selected_below p choice n) (option_to_list (selected_at p choice n)) (selected_is_below p choice n i q h e)
  | inr h ↦
      let same : n ≡ i = omega arith in
      among_right q (selected_below p choice n) (option_to_list (selected_at p choice n)) (option_among (selected_at p choice n) q (ap (selected_at p choice) same ∙ e))
]

-- ---- each stem once

abbrev stems_in : List Installed → List (List ℕ)
stems_in packages = map (λ (q : Installed). q.stem) packages

-- two numbers don't have one stem
one_number : (p : Posed) (i n : ℕ) (stem : List ℕ) → AreDistinct p.stems → slice_get p.stems i ≡ Some stem → slice_get p.stems n ≡ Some stem → i ≡ n
one_number p i n stem d e f = same_Some i n (sym (own_number p.stems i stem d e) ∙ own_number p.stems n stem d f)

distinct_below : (p : Posed) (choice : List ℕ) → AreDistinct p.stems → (n : ℕ) → AreDistinct (stems_in (selected_below p choice n))
distinct_below p choice d zero = λ i j z l m. absurd (omega arith)
distinct_below p choice d (suc n) = go (distinct_below p choice d n) (selected_at p choice n) refl
  where
    apart : (q : Installed) → selected_at p choice n ≡ Some q → (k : ℕ) (z : List ℕ) → k < length (stems_in (selected_below p choice n)) → get_or (stems_in (selected_below p choice n)) k z ≢ q.stem
    apart q e k z l same =
        let (r, at) = element (selected_below p choice n) k (omega (arith, length-map (selected_below p choice n) (λ (q : Installed). q.stem))) in
        let (i, m, f) = below_selected p choice n r (among_at (selected_below p choice n) k r at) in
        let own = get_or_from_slice_get (stems_in (selected_below p choice n)) k r.stem z (slice_get-map (λ (q : Installed). q.stem) (selected_below p choice n) k ∙ ap (option_map (λ (q : Installed). q.stem)) at) in
        let one = one_number p i n q.stem d (stem_selected p choice i r f ∙ ap (λ (s : List ℕ). Some s) (sym own ∙ same)) (stem_selected p choice n q e) in
        absurd (omega arith)

    go : AreDistinct (stems_in (selected_below p choice n)) → (o : Option Installed) → selected_at p choice n ≡ o → AreDistinct (stems_in (selected_below p choice n ++ option_to_list o))
    go before None e = subst (λ l. AreDistinct (stems_in l)) (sym (append-nil (selected_below p choice n))) before
    go before (Some q) e =
        subst AreDistinct (sym (map_push (λ (q : Installed). q.stem) (selected_below p choice n) q))
        (all_pairs_push (λ (x y : List ℕ). x ≢ y) (stems_in (selected_below p choice n)) q.stem before (apart q e))

-- keys that are apart have stems that are
pub distinct_keys : (keys : List (String Global)) → IsDistinct (λ a b. bytes_eq (string_bytes a) (string_bytes b)) keys → AreDistinct (stems_of keys)
distinct_keys [] h i j d l m e = absurd (omega arith)
distinct_keys (k ∷ keys) h i j d l m e =
    let at = get_or-map (λ (k : String Global). string_bytes k) (k ∷ keys) in
    let far : j < length (k ∷ keys) = omega (arith, length-map (k ∷ keys) (λ (k : String Global). string_bytes k)) in
    let near : i < length (k ∷ keys) = omega arith in
    let unlike = apart_from_distinct (λ a b. bytes_eq (string_bytes a) (string_bytes b)) (k ∷ keys) i j k h l far in
    both_ways (bytes_eq (string_bytes (get_or (k ∷ keys) i k)) (string_bytes (get_or (k ∷ keys) j k))) unlike
    ((bytes_eq-Decides (string_bytes (get_or (k ∷ keys) i k)) (string_bytes (get_or (k ∷ keys) j k))).1 (sym (at i k d near) ∙ e ∙ at j k d far))

-- ---- in order

abbrev by_bytes : List ℕ → List ℕ → Ordering
by_bytes = slice_cmp nat_cmp

abbrev pub before : Package → Package → Bool
before a b = is_lt (by_bytes a.stem b.stem)

pub before_order : IsStrictWeakOrder before
before_order = ranks_by nat_list_cmp_total (λ (q : Package). q.stem)

-- of two stems that differ, the first is before the second where the second isn't before the first
rises : (a b : List ℕ) → is_lt (by_bytes b a) ≡ false → a ≢ b → by_bytes a b ≡ Less
rises a b h n = go (by_bytes b a) refl h
  where
    go : (o : Ordering) → by_bytes b a ≡ o → is_lt o ≡ false → by_bytes a b ≡ Less
    go Less e g = absurd (both_ways true g refl)
    go Equal e g = absurd (n (sym (slice_cmp-IsAntisymmetric nat_cmp-IsAntisymmetric b a e)))
    go Greater e g = nat_list_cmp_total.antisymm a b ∙ ap ordering_reverse e

sorted_stems : (ys : List Package) → IsSortedBy before ys → (k : ℕ) (d : List ℕ) → k + 1 < length (stems_in (map installed ys)) → is_lt (by_bytes (get_or (stems_in (map installed ys)) (k + 1) d) (get_or (stems_in (map installed ys)) k d)) ≡ false
sorted_stems [] up k d l = absurd (omega arith)
sorted_stems (y ∷ ys) up k d l =
    let xs = y ∷ ys in
    let behind : k + 1 < length xs = omega (arith, length-map (map installed (y ∷ ys)) (λ (q : Installed). q.stem), length-map (y ∷ ys) installed) in
    let at = λ (i : ℕ) (h : i < length (y ∷ ys)).
    let within : i < length (map installed (y ∷ ys)) = omega (arith, length-map (y ∷ ys) installed) in
    get_or-map (λ (q : Installed). q.stem) (map installed (y ∷ ys)) i (installed y) d within ∙ ap (λ (q : Installed). q.stem) (get_or-map installed (y ∷ ys) i y (installed y) h) in
    let here : k < length (y ∷ ys) = omega arith in
    (λ j. is_lt (by_bytes (at (k + 1) behind j) (at k here j))) ∙ up k y (omega arith) behind

ascend : (stems : List (List ℕ)) → ((k : ℕ) (d : List ℕ) → k + 1 < length stems → is_lt (by_bytes (get_or stems (k + 1) d) (get_or stems k d)) ≡ false) → AreDistinct stems → Ascend stems
ascend stems up d = sorted_from_all_adjacent nat_list_cmp_total stems [] (λ k l. rises (get_or stems k []) (get_or stems (k + 1) []) (up k [] l) (d k (k + 1) [] (omega arith) l))

distinct_moved : (xs ys : List (List ℕ)) → IsPermutation xs ys → AreDistinct xs → AreDistinct ys
distinct_moved xs ys moved d =
    AllPairs-from_IsDistinct bytes_eq-Decides ys (IsDistinct-IsPermutation bytes_eq nat_list_eq_equiv.symm xs ys moved (IsDistinct-from_AllPairs bytes_eq-Decides xs d))

-- ---- the selection of a choice

version_selected : (r : Option StemRow) (k : Option ℕ) → version_at r k ≡ option_map (λ (o : Offer). o.version) (offer_at r k)
version_selected None k = refl
version_selected (Some row) None = refl
version_selected (Some row) (Some k) = go (slice_get row.candidates k)
  where
    go : (o : Option (Option Offer)) → version_of o ≡ option_map (λ (o : Offer). o.version) (option_and_then (λ p. p) o)
    go None = refl
    go (Some None) = refl
    go (Some (Some offer)) = refl

-- the selection has what is selected at its version
picked_selected : (p : Posed) (choice : List ℕ) (i : ℕ) (q : Installed) → AreDistinct p.stems → selected_at p choice i ≡ Some q → picked p (pairs choice) q.stem ≡ Some q.version
picked_selected p choice i q d e =
    ap (option_and_then (λ j. version_at (slice_get p.rows j) (candidate_of (pairs choice) j))) (own_number p.stems i q.stem d (stem_selected p choice i q e))
    ∙ ap (version_at (slice_get p.rows i)) (chosen_at choice i)
    ∙ version_selected (slice_get p.rows i) (slice_get choice i)
    ∙ go (slice_get p.stems i) (offer_at (slice_get p.rows i) (slice_get choice i)) e
  where
    go : (s : Option (List ℕ)) (o : Option Offer) → package_of s o ≡ Some q → option_map (λ (o : Offer). o.version) o ≡ Some q.version
    go None o e = absurd (none-some q e)
    go (Some stem) None e = absurd (none-some q e)
    go (Some stem) (Some offer) e = ap (option_map (λ (r : Installed). r.version)) e

-- and of any other stem nothing
picked_cases : (p : Posed) (choice : List ℕ) (stem : List ℕ) → (picked p (pairs choice) stem ≡ None) ⊎ ((i : ℕ) × (q : Installed) × (selected_at p choice i ≡ Some q) × (q.stem ≡ stem))
picked_cases p choice stem = elim (none_or_some (number_of p stem)) [
  | inl e ↦ inl (ap (option_and_then (λ j. version_at (slice_get p.rows j) (candidate_of (pairs choice) j))) e)
  | inr (i, e) ↦
      let found = position-Some (bytes_eq stem) p.stems i stem e in
      let at : slice_get p.stems i ≡ Some stem = slice_get-get_or p.stems i stem found.0 ∙ ap (λ (s : List ℕ). Some s) (sym (same_stem stem (get_or p.stems i stem) found.1)) in
      let told = ap (option_and_then (λ j. version_at (slice_get p.rows j) (candidate_of (pairs choice) j))) e ∙ ap (version_at (slice_get p.rows i)) (chosen_at choice i) ∙ version_selected (slice_get p.rows i) (slice_get choice i) in
      elim (none_or_some (offer_at (slice_get p.rows i) (slice_get choice i))) [
        | inl none ↦ inl (told ∙ ap (option_map (λ (o : Offer). o.version)) none)
        | inr (offer, some) ↦ inr (i, record { stem = stem; version = offer.version; lines = offer.lines }, (λ j. package_of (at j) (some j)), refl)
      ]
]

with_cases : (stem : List ℕ) (packages : List Installed)
    → ((package_with stem packages ≡ None) × ((q : Installed) → Among q packages → q.stem ≡ stem → ⊥)) ⊎ ((q : Installed) × (package_with stem packages ≡ Some q) × Among q packages × (q.stem ≡ stem))
with_cases stem [] = inl (refl, λ q a e. a)
with_cases stem (r ∷ packages) = elim (cases_Bool (bytes_eq stem r.stem)) [
  | inl h ↦ inr (r, cond-true (bytes_eq stem r.stem) (Some r) (package_with stem packages) h, inl refl, sym (same_stem stem r.stem h))
  | inr h ↦
      let on = cond-false (bytes_eq stem r.stem) (Some r) (package_with stem packages) h in
      elim (with_cases stem packages) [
        | inl (none, other) ↦ inl (
          on ∙ none,
          λ q a e. elim a [
            | inl same ↦ both_ways (bytes_eq stem r.stem) h ((bytes_eq-Decides stem r.stem).1 (sym e ∙ ap (λ (s : Installed). s.stem) (sym same)))
            | inr b ↦ other q b e
          ],
        )
        | inr (q, some, a, e) ↦ inr (q, on ∙ some, inr a, e)
      ]
]

selection_of : (p : Posed) (choice : List ℕ) (packages : List Installed) → AreDistinct p.stems → ((q : Installed) → Contains packages q ↔ ((i : ℕ) × (selected_at p choice i ≡ Some q)))
    → (stem : List ℕ) → picked p (pairs choice) stem ≡ option_map (λ (q : Installed). q.version) (package_with stem packages)
selection_of p choice packages d each stem = elim (with_cases stem packages) [
  | inl (none, other) ↦ elim (picked_cases p choice stem) [
    | inl e ↦ e ∙ ap (option_map (λ (q : Installed). q.version)) (sym none)
    | inr (i, q, e, same) ↦ let (k, at) = contained_at packages q ((each q).1 (i, e)) in absurd (other q (among_at packages k q at) same)
  ]
  | inr (q, some, a, same) ↦
      let (k, at) = place_among q packages a in
      let (i, e) = (each q).0 (at_contained packages k q at) in
      ap (picked p (pairs choice)) (sym same) ∙ picked_selected p choice i q d e ∙ ap (option_map (λ (q : Installed). q.version)) (sym some)
]

-- ---- all packages

-- the packages of all stems, once they stand by their stems
pub taken : (p : Posed) (choice : List ℕ) (xs ys : List Package) → AreDistinct p.stems → map installed xs ≡ selected_below p choice (length p.stems) → IsPermutation xs ys → IsSortedBy before ys
    → AreTaken p choice (map installed ys)
taken p choice xs ys d all moved up = record {
  order = ascend (stems_in (map installed ys)) (sorted_stems ys up) (distinct_moved (stems_in (map installed xs)) (stems_in (map installed ys)) (IsPermutation-map (λ (q : Installed). q.stem) (map installed xs) (map installed ys) packages) apart);
  each = each;
  selection = selection_of p choice (map installed ys) d each;
}
  where
    packages : IsPermutation (map installed xs) (map installed ys)
    packages = IsPermutation-map installed xs ys moved

    apart : AreDistinct (stems_in (map installed xs))
    apart = subst (λ l. AreDistinct (stems_in l)) (sym all) (distinct_below p choice d (length p.stems))

    each : (q : Installed) → Contains (map installed ys) q ↔ ((i : ℕ) × (selected_at p choice i ≡ Some q))
    each q = (
      λ h.
          let (k, at) = contained_at (map installed xs) q (Contains-permutation (map installed ys) (map installed xs) q (IsPermutation-sym (map installed xs) (map installed ys) packages) h) in
          let (i, l, e) = below_selected p choice (length p.stems) q (among_at (selected_below p choice (length p.stems)) k q (ap (λ l. slice_get l k) (sym all) ∙ at)) in
          (i, e),
      λ s.
          let within = slice_get_within p.stems s.0 q.stem (stem_selected p choice s.0 q s.1) in
          let (k, at) = place_among q (selected_below p choice (length p.stems)) (selected_is_below p choice (length p.stems) s.0 q within s.1) in
          Contains-permutation (map installed xs) (map installed ys) q packages (at_contained (map installed xs) k q (ap (λ l. slice_get l k) all ∙ at)),
    )

-- what is selected depends on the stems and their rows alone
pub selected_alike : (p : Posed) (choice : List ℕ) (n : ℕ) → selected_below (record { stems = p.stems; rows = p.rows; tests = []; avoid = [] }) choice n ≡ selected_below p choice n
selected_alike p choice zero = refl
selected_alike p choice (suc n) = ap (λ (l : List Installed). l ++ option_to_list (selected_at p choice n)) (selected_alike p choice n)
