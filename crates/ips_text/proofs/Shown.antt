-- Paths as they are shown, byte by byte.
use Rattle.std.proofs.Common.{◌≡◌, ℕ, ◌<◌, ◌≤◌, ◌/◌, ◌%◌, Bool, true, false, cond, not, ◌||◌, eqb, List, [], ◌∷◌, ◌++◌, map, refl, sym, ap, ◌∙◌, append_assoc, arith, inl, inr}
use Rattle.std.specs.List.{onto_first, join_with_byte}
use Rattle.std.proofs.lemmas.Bool.{agree_below, agree_below_at, cases_lt, eqb-true}
use Rattle.std.proofs.lemmas.List.Splits.{slice_split-cons_no}
use Rattle.std.proofs.lemmas.List.Elements.{All-from_recursion}
use Rattle.std.specs.Fmt.{digit_glyph}
use Rattle.percent_encoding.specs.AsciiSet.{contains, should_percent_encode}
use Rattle.percent_encoding.specs.Percent.{percent_encode, percent_encode_byte, percent_decode}
use Rattle.percent_encoding.proofs.PercentLemmas.{percent_encode-nil, percent_encode_escaped, percent_encode_kept, round_trip, IsByte}
use Rattle.ips_text.specs.declared.quoting.TheConstants.{ESCAPED_IN_PATH}
use Rattle.ips_text.specs.Path.{parts}
use Rattle.ips_text.specs.Quote.{is_plain, quoted_byte, quoted, shown, AreBytes}
use Rattle.ips_text.proofs.Quotes.{high_ascii, low_ascii}
use Rattle.ips_text.proofs.Fronts.{some_part}

abbrev pub shown_byte : ℕ → List ℕ
shown_byte b = cond (eqb b 47) (b ∷ []) (quoted_byte b)

escaped_set : agree_below (contains ESCAPED_IN_PATH) (λ b. not (is_plain b || eqb b 47)) 128 ≡ true
escaped_set = refl

high_slash : (b : ℕ) → 128 ≤ b → (is_plain b || eqb b 47) ≡ false
high_slash b le = grind arith

should_is : (b : ℕ) → should_percent_encode ESCAPED_IN_PATH b ≡ not (is_plain b || eqb b 47)
unfolding should_percent_encode
should_is b =
    elim (cases_lt b 128) [
      | inl lt ↦ ap (λ (t : Bool). not t || contains ESCAPED_IN_PATH b) (low_ascii b lt) ∙ agree_below_at (contains ESCAPED_IN_PATH) (λ b. not (is_plain b || eqb b 47)) 128 b escaped_set lt
      | inr le ↦ ap (λ (t : Bool). not t || contains ESCAPED_IN_PATH b) (high_ascii b le) ∙ sym (ap not (high_slash b le))
    ]

one_byte : (b : ℕ) (t s : Bool) → is_plain b ≡ t → eqb b 47 ≡ s → b < 256 → (bs : List ℕ) → percent_encode ESCAPED_IN_PATH (b ∷ bs) ≡ shown_byte b ++ percent_encode ESCAPED_IN_PATH bs
unfolding percent_encode_byte
one_byte b true true e f lt bs = percent_encode_kept ESCAPED_IN_PATH b bs (should_is b ∙ rw e refl) ∙ rw (f) refl
one_byte b true false e f lt bs = percent_encode_kept ESCAPED_IN_PATH b bs (should_is b ∙ rw e refl) ∙ rw (f, e) refl
one_byte b false true e f lt bs = percent_encode_kept ESCAPED_IN_PATH b bs (should_is b ∙ rw (e, f) refl) ∙ rw (f) refl
one_byte b false false e f lt bs =
    let high : b / 16 % 16 ≡ b / 16 = omega arith in
    percent_encode_escaped ESCAPED_IN_PATH b bs (should_is b ∙ rw (e, f) refl) ∙ rw (f, e, high) refl

-- ---- the parts of a path with one more byte in front

pub behind_byte : (b : ℕ) (x : List ℕ) (xs : List (List ℕ)) → join_with_byte 47 (map quoted ((b ∷ x) ∷ xs)) ≡ quoted_byte b ++ join_with_byte 47 (map quoted (x ∷ xs))
unfolding quoted
behind_byte b x [] = refl
behind_byte b x (y ∷ ys) = append_assoc (quoted_byte b) (quoted x) (47 ∷ join_with_byte 47 (map quoted (y ∷ ys)))

pub shown_more : (b : ℕ) (bs : List ℕ) → shown (b ∷ bs) ≡ shown_byte b ++ shown bs
unfolding shown quoted
shown_more b bs = go (eqb b 47) refl (some_part bs)
  where
    go : (t : Bool) → eqb b 47 ≡ t → ((x : List ℕ) × (xs : List (List ℕ)) × (parts bs ≡ x ∷ xs)) → shown (b ∷ bs) ≡ shown_byte b ++ shown bs
    go true e w = rw (e, w.2) (let is : b ≡ 47 = eqb-true b 47 e in rw is refl)
    go false e w = rw (e, w.2) (behind_byte b w.0 w.1)

pub shown_is : (bs : List ℕ) → AreBytes bs → percent_encode ESCAPED_IN_PATH bs ≡ shown bs
unfolding shown quoted
shown_is [] h = percent_encode-nil ESCAPED_IN_PATH
shown_is (b ∷ bs) h = one_byte b (is_plain b) (eqb b 47) refl refl h.0 bs ∙ ap (λ (l : List ℕ). shown_byte b ++ l) (shown_is bs h.1) ∙ sym (shown_more b bs)

pub shown_back : (bs : List ℕ) → AreBytes bs → percent_decode (shown bs) ≡ bs
shown_back bs h = ap percent_decode (sym (shown_is bs h)) ∙ round_trip ESCAPED_IN_PATH bs refl (All-from_recursion IsByte bs h)

pub shown_apart : (a b : List ℕ) → AreBytes a → AreBytes b → shown a ≡ shown b → a ≡ b
shown_apart a b ha hb e = sym (shown_back a ha) ∙ ap percent_decode e ∙ shown_back b hb

-- ---- the parts of what is shown

glyph_high : (n : ℕ) → eqb (digit_glyph true n) 47 ≡ false
glyph_high n = grind arith

-- a byte that isn't the mark goes to the first part
no_cut : (c : ℕ) (l y : List ℕ) (ys : List (List ℕ)) → eqb c 47 ≡ false → parts l ≡ y ∷ ys → parts (c ∷ l) ≡ (c ∷ y) ∷ ys
no_cut c l y ys e is = slice_split-cons_no (λ b. eqb b 47) c l e ∙ ap (onto_first c) is

quoted_uncut : (b : ℕ) (t : Bool) (l y : List ℕ) (ys : List (List ℕ)) → is_plain b ≡ t → eqb b 47 ≡ false → parts l ≡ y ∷ ys → parts (quoted_byte b ++ l) ≡ (quoted_byte b ++ y) ∷ ys
quoted_uncut b true l y ys e f is = rw e (no_cut b l y ys f is)
quoted_uncut b false l y ys e f is =
    let low = no_cut (digit_glyph true (b % 16)) l y ys (glyph_high (b % 16)) is in
    let high = no_cut (digit_glyph true (b / 16)) (digit_glyph true (b % 16) ∷ l) (digit_glyph true (b % 16) ∷ y) ys (glyph_high (b / 16)) low in
    rw e (no_cut 37 (digit_glyph true (b / 16) ∷ digit_glyph true (b % 16) ∷ l) (digit_glyph true (b / 16) ∷ digit_glyph true (b % 16) ∷ y) ys refl high)

pub shown_parts : (bs : List ℕ) → AreBytes bs → parts (shown bs) ≡ map quoted (parts bs)
unfolding shown quoted
shown_parts [] h = refl
shown_parts (b ∷ bs) h = ap parts (shown_more b bs) ∙ go (shown_parts bs h.1) (eqb b 47) refl (some_part bs)
  where
    go : parts (shown bs) ≡ map quoted (parts bs) → (t : Bool) → eqb b 47 ≡ t → ((x : List ℕ) × (xs : List (List ℕ)) × (parts bs ≡ x ∷ xs)) → parts (shown_byte b ++ shown bs) ≡ map quoted (parts (b ∷ bs))
    go rest true e w = rw (e) (let is : b ≡ 47 = eqb-true b 47 e in rw is (ap (λ (l : List (List ℕ)). [] ∷ l) rest))
    go rest false e w =
        rw e
        (quoted_uncut b (is_plain b) (shown bs) (quoted w.0) (map quoted w.1) refl e (rest ∙ ap (map quoted) w.2) ∙ ap (λ (l : List (List ℕ)). map quoted (onto_first b l)) (sym w.2))
