-- Patterns without wildcards, and rows found by their token.
use Rattle.std.proofs.Common.{◌≡◌, ◌⊎◌, inl, inr, ℕ, Bool, true, false, cond, not, ◌&&◌, List, [], ◌∷◌, ◌++◌, filter, refl, sym, ◌∙◌, ap, subst, arith}
use Rattle.std.specs.Prelude.{◌≢◌, Contains}
use Rattle.std.specs.List.{AllByRecursion}
use Rattle.std.specs.Bool.{MatchBool}
use Rattle.std.specs.List.Sorted.{IsStrictlySortedBy}
use Rattle.std.specs.Str.{chars, encode_utf8_all, IsUtf8}
use Rattle.std.specs.declared.cmp.Ordering.{Ordering}
use Rattle.std.specs.declared.cmp.Ordering.TheVariants.{Less, Equal, Greater}
use Rattle.std.specs.Ordering.{nat_cmp, is_le, ordering_then, ordering_reverse}
use Rattle.std.specs.Cmp.Lexicographic.{slice_cmp}
use Rattle.std.proofs.lemmas.Bool.{true≢false}
use Rattle.std.proofs.lemmas.List.Elements.{Contains-append_right}
use Rattle.std.proofs.lemmas.List.{append-nil}
use Rattle.std.proofs.lemmas.List.Kept.{IsStrictlySortedBy-filter}
use Rattle.std.proofs.lemmas.Map.Keys.{sorted_head, sorted_tail}
use Rattle.std.proofs.lemmas.Str.{encodes-chars}
use Rattle.std.proofs.lemmas.Cmp.{nat_list_cmp_total, tied_itself}
use Rattle.ips_fmri.specs.Pattern.{Matches}
use Rattle.ips_fmri.specs.Matching.{HasNone}
use Rattle.ips_action.specs.Attrs.{is_same}
use Rattle.ips_action.proofs.KeyOrder.{equal_is, same_self, same_true}
use Rattle.ips_index.specs.Rows.{IndexedValue, row_cmp, rest_cmp, row_total}
use Rattle.ips_index.specs.Scan.{AreFound}
use Rattle.ips_index.specs.Entries.{IsPlain, AreNamed}
use Rattle.ips_index.proofs.Picked.{Picks, picks_ascend, picks_each, head_in, tail_in, one_or_rest}
use Rattle.ips_index.proofs.Found.{Meets}

-- ---- patterns

pub plain_is : (pattern text : List ℕ) → HasNone 42 pattern → HasNone 63 pattern → Matches pattern text → pattern ≡ text
plain_is [] text stars marks m = sym m
plain_is (c ∷ pattern) text stars marks m = elim m [
  | inl star ↦ absurd (stars.0 star.0)
  | inr w ↦ elim w.1.3 [
    | inl mark ↦ absurd (marks.0 mark.1)
    | inr one ↦ ap (λ (d : ℕ). d ∷ pattern) one ∙ ap (λ (l : List ℕ). w.1.0 ∷ l) (plain_is pattern w.1.1 stars.1 marks.1 w.1.4) ∙ sym w.1.2
  ]
]

pub plain_self : (pattern : List ℕ) → HasNone 42 pattern → Matches pattern pattern
plain_self [] stars = refl
plain_self (c ∷ pattern) stars = inr (stars.0, (c, pattern, refl, inr refl, plain_self pattern stars.1))

pub same_text : (a b : List ℕ) → IsUtf8 a → IsUtf8 b → chars a ≡ chars b → a ≡ b
same_text a b of_a of_b e = sym (encodes-chars a of_a) ∙ ap encode_utf8_all e ∙ encodes-chars b of_b

-- what a test that failed says
pub no_match : (r : Bool) (P Q : Type 0) → MatchBool r P Q → r ≡ false → Q
no_match true P Q h e = absurd (true≢false e)
no_match false P Q h e = h

-- ---- rows of one token

-- the first isn't behind the second
abbrev pub UpTo : IndexedValue → IndexedValue → Type 0
UpTo a b = is_le (row_cmp a b) ≡ true

bytes_up_to : List ℕ → List ℕ → Type 0
bytes_up_to a b = is_le (slice_cmp nat_cmp a b) ≡ true

then_up : (x y : Ordering) → is_le (ordering_then x y) ≡ true → is_le x ≡ true
then_up Less y h = refl
then_up Equal y h = refl
then_up Greater y h = h

token_up : (a b : IndexedValue) → UpTo a b → bytes_up_to a.token b.token
unfolding bytes_up_to
token_up a b h = then_up (slice_cmp nat_cmp a.token b.token) (rest_cmp a b) h

both_up : (a b : List ℕ) → bytes_up_to a b → bytes_up_to b a → a ≡ b
unfolding bytes_up_to
both_up a b h g = go (slice_cmp nat_cmp a b) refl h
  where
    go : (o : Ordering) → slice_cmp nat_cmp a b ≡ o → is_le o ≡ true → a ≡ b
    go Less e up = absurd (true≢false (sym g ∙ ap is_le (nat_list_cmp_total.antisymm b a ∙ ap ordering_reverse e)))
    go Equal e up = equal_is a b e
    go Greater e up = absurd (true≢false (sym up))

-- what stands before all rows of a token
pub starts_up : (start row : IndexedValue) → start.token ≡ row.token → start.index ≡ [] → row.index ≢ [] → UpTo start row
starts_up start row token index some = go row.index some refl
  where
    same : slice_cmp nat_cmp start.token row.token ≡ Equal
    same = ap (λ (t : List ℕ). slice_cmp nat_cmp t row.token) token ∙ tied_itself nat_list_cmp_total row.token

    go : (i : List ℕ) → i ≢ [] → row.index ≡ i → UpTo start row
    go [] differs e = absurd (differs refl)
    go (b ∷ i) differs e = rw (same, index, e) refl

-- ---- rows in a part of the set

filter_case : (test : IndexedValue → Bool) (x : IndexedValue) (rows : List IndexedValue) (t : Bool) → test x ≡ t → Picks (λ r. test r ≡ true) rows (filter test rows)
    → ((rest : List IndexedValue) × (cond t (x ∷ filter test rows) (filter test rows) ≡ x ∷ rest) × (test x ≡ true) × Picks (λ r. test r ≡ true) rows rest) ⊎ ((test x ≡ true → ⊥) × Picks (λ r. test r ≡ true) rows (cond t (x ∷ filter test rows) (filter test rows)))
filter_case test x rows true e more = inl (filter test rows, refl, e, more)
filter_case test x rows false e more = inr (λ h. true≢false (sym h ∙ e), more)

picks_filter : (test : IndexedValue → Bool) (rows : List IndexedValue) → Picks (λ r. test r ≡ true) rows (filter test rows)
unfolding Picks
picks_filter test [] = refl
picks_filter test (x ∷ rows) = filter_case test x rows (test x) refl (picks_filter test rows)

picks_front : (P : IndexedValue → Type 0) (front rest : List IndexedValue) → AllByRecursion P front → ((r : IndexedValue) → Contains rest r → P r → ⊥) → Picks P (front ++ rest) front
unfolding Picks
picks_front P [] [] all none = refl
picks_front P [] (r ∷ rest) all none = inr (none r (head_in r rest), picks_front P [] rest tt (λ other h. none other (tail_in r other rest h)))
picks_front P (x ∷ front) rest all none = inl (front, refl, all.0, picks_front P front rest all.1 none)

pub token_found : (p : List ℕ) (keys part front rest : List IndexedValue) (start : IndexedValue) → IsPlain p → IsUtf8 p → AreNamed keys → start.token ≡ p → start.index ≡ [] → part ≡ filter (λ r. is_le (row_cmp start r) && true) keys
    → IsStrictlySortedBy row_cmp keys → part ≡ front ++ rest → AllByRecursion (λ (r : IndexedValue). r.token ≡ p) front → ((r : IndexedValue) → Contains rest r → r.token ≡ p → ⊥) → AreFound p keys front
token_found p keys part front rest start plain text named token index between ascend parts all none = record {
  ascend = picks_ascend (Meets p) (front ++ rest) front picks (subst (λ (l : List IndexedValue). IsStrictlySortedBy row_cmp l) whole (IsStrictlySortedBy-filter row_cmp (λ r. is_le (row_cmp start r) && true) keys ascend));
  each = λ row. (
    λ h. let both = (picks_each (Meets p) (front ++ rest) front picks row).0 h in (in_part row (subst (λ (l : List IndexedValue). Contains l row) (sym whole) both.0), both.1),
    λ w. (picks_each (Meets p) (front ++ rest) front picks row).1 (subst (λ (l : List IndexedValue). Contains l row) whole (in_part_from row w.0 w.1), w.1),
  );
}
  where
    whole : filter (λ r. is_le (row_cmp start r) && true) keys ≡ front ++ rest
    whole = sym between ∙ parts

    is_token : (row : IndexedValue) → Contains keys row → Meets p row → p ≡ row.token
    is_token row h m = same_text p row.token text (named row h).1 (plain_is (chars p) (chars row.token) plain.0 plain.1 m)

    meets : (r : IndexedValue) → r.token ≡ p → Meets p r
    meets r e = subst (λ (t : List ℕ). Matches (chars p) (chars t)) (sym e) (plain_self (chars p) plain.0)

    met : (rows : List IndexedValue) → AllByRecursion (λ (r : IndexedValue). r.token ≡ p) rows → AllByRecursion (Meets p) rows
    met [] h = tt
    met (r ∷ rows) h = (meets r h.0, met rows h.1)

    in_keys : (row : IndexedValue) → Contains (front ++ rest) row → Contains keys row
    in_keys row h = ((picks_each (λ r. (is_le (row_cmp start r) && true) ≡ true) keys _ (picks_filter (λ r. is_le (row_cmp start r) && true) keys) row).0 (subst (λ (l : List IndexedValue). Contains l row) (sym whole) h)).0

    picks : Picks (Meets p) (front ++ rest) front
    picks = picks_front (Meets p) front rest (met front all) (λ r h m. none r h (sym (is_token r (in_keys r (Contains-append_right front rest r h)) m)))

    in_part : (row : IndexedValue) → Contains (filter (λ r. is_le (row_cmp start r) && true) keys) row → Contains keys row
    in_part row h = ((picks_each (λ r. (is_le (row_cmp start r) && true) ≡ true) keys _ (picks_filter (λ r. is_le (row_cmp start r) && true) keys) row).0 h).0

    in_part_from : (row : IndexedValue) → Contains keys row → Meets p row → Contains (filter (λ r. is_le (row_cmp start r) && true) keys) row
    in_part_from row h m = (picks_each (λ r. (is_le (row_cmp start r) && true) ≡ true) keys _ (picks_filter (λ r. is_le (row_cmp start r) && true) keys) row).1
        (h, rw (starts_up start row (token ∙ is_token row h m) index (named row h).0) refl)

less_at : (x : IndexedValue) (rest : List IndexedValue) (other : IndexedValue) → AllByRecursion (λ (y : IndexedValue). row_cmp x y ≡ Less) rest → Contains rest other → row_cmp x other ≡ Less
less_at x [] other all h = absurd (omega (arith, h.1))
less_at x (r ∷ rest) other all h = elim (one_or_rest r other rest h) [ inl one ↦ subst (λ (y : IndexedValue). row_cmp x y ≡ Less) one all.0 | inr later ↦ less_at x rest other all.1 later ]

-- no row behind one of another token has the token
pub none_behind : (p : List ℕ) (start row : IndexedValue) (front rest : List IndexedValue) → start.token ≡ p → UpTo start row → (row.token ≡ p → ⊥) → IsStrictlySortedBy row_cmp (front ++ row ∷ rest) → (r : IndexedValue) → Contains (row ∷ rest) r → r.token ≡ p → ⊥
none_behind p start row [] rest token up differs sorted r h e =
    differs (sym (both_up p row.token (subst (λ (t : List ℕ). bytes_up_to t row.token) token (token_up start row up)) (subst (λ (t : List ℕ). bytes_up_to row.token t) e (token_up row r (behind r h)))))
  where
    behind : (other : IndexedValue) → Contains (row ∷ rest) other → UpTo row other
    behind other there = elim (one_or_rest row other rest there) [
      | inl one ↦ subst (λ (x : IndexedValue). UpTo row x) one (ap is_le (tied_itself row_total row))
      | inr later ↦ ap is_le (less_at row rest other (sorted_head row_cmp row rest sorted) later)
    ]
none_behind p start row (f ∷ front) rest token up differs sorted r h e = none_behind p start row front rest token up differs (sorted_tail row_cmp f (front ++ row ∷ rest) sorted) r h e

in_range : (start : IndexedValue) (keys : List IndexedValue) (row : IndexedValue) → Contains (filter (λ r. is_le (row_cmp start r) && true) keys) row → UpTo start row
in_range start keys row h = front_true (is_le (row_cmp start row)) ((picks_each (λ r. (is_le (row_cmp start r) && true) ≡ true) keys _ (picks_filter (λ r. is_le (row_cmp start r) && true) keys) row).0 h).1
  where
    front_true : (t : Bool) → (t && true) ≡ true → t ≡ true
    front_true true e = refl
    front_true false e = e

-- a search that stops at a row of another token
pub token_stopped : (p : List ℕ) (keys part front rest : List IndexedValue) (start row : IndexedValue) → IsPlain p → IsUtf8 p → AreNamed keys → start.token ≡ p → start.index ≡ [] → part ≡ filter (λ r. is_le (row_cmp start r) && true) keys
    → IsStrictlySortedBy row_cmp keys → part ≡ front ++ row ∷ rest → AllByRecursion (λ (r : IndexedValue). r.token ≡ p) front → (row.token ≡ p → ⊥) → AreFound p keys front
token_stopped p keys part front rest start row plain text named token index between ascend parts all differs =
    let whole = sym between ∙ parts in
    let sorted = subst (λ (l : List IndexedValue). IsStrictlySortedBy row_cmp l) whole (IsStrictlySortedBy-filter row_cmp (λ r. is_le (row_cmp start r) && true) keys ascend) in
    let up = in_range start keys row (subst (λ (l : List IndexedValue). Contains l row) (sym whole) (Contains-append_right front (row ∷ rest) row (head_in row rest))) in
    token_found p keys part front (row ∷ rest) start plain text named token index between ascend parts all (none_behind p start row front rest token up differs sorted)

-- a search that comes to the end
pub token_ended : (p : List ℕ) (keys part front : List IndexedValue) (start : IndexedValue) → IsPlain p → IsUtf8 p → AreNamed keys → start.token ≡ p → start.index ≡ [] → part ≡ filter (λ r. is_le (row_cmp start r) && true) keys
    → IsStrictlySortedBy row_cmp keys → front ≡ part → AllByRecursion (λ (r : IndexedValue). r.token ≡ p) front → AreFound p keys front
token_ended p keys part front start plain text named token index between ascend whole all =
    token_found p keys part front [] start plain text named token index between ascend (sym whole ∙ sym (append-nil front)) all (λ r h. absurd (omega (arith, h.1)))

-- texts that are told apart
pub told_apart : (a b : List ℕ) → true ≡ not (is_same a b) → a ≡ b → ⊥
told_apart a b e same = true≢false (e ∙ ap not (same_self a b same))

pub told_same : (a b : List ℕ) → false ≡ not (is_same a b) → a ≡ b
told_same a b e = same_true a b (turned (is_same a b) e)
  where
    turned : (t : Bool) → false ≡ not t → t ≡ true
    turned true h = refl
    turned false h = h
