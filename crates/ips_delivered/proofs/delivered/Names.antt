-- Names of licenses and legacy packages can be names of files in their quoted form.
use Rattle.std.proofs.Common.{◌≡◌, ℕ, ◌/◌, ◌%◌, ◌<◌, Bool, true, false, List, [], ◌∷◌, ◌++◌, length, refl, ap, ◌∙◌, arith}
use Rattle.std.proofs.lemmas.List.Concat.{flat_map-cons}
use Rattle.std.specs.Fmt.{digit_glyph}
use Rattle.ips_text.specs.Path.{is_dots}
use Rattle.ips_text.specs.Quote.{is_plain, quoted, quoted_byte}
use Rattle.ips_action.specs.Check.{IsFileName}
use Rattle.ips_metafiles.specs.Records.{IsQuotedName}

front : (b : ℕ) (bytes : List ℕ) → quoted (b ∷ bytes) ≡ quoted_byte b ++ quoted bytes
unfolding quoted
front b bytes = flat_map-cons quoted_byte b bytes

quoted_none : quoted [] ≡ []
unfolding quoted
quoted_none = refl

as_is : (b : ℕ) (bytes : List ℕ) → is_plain b ≡ true → quoted (b ∷ bytes) ≡ b ∷ quoted bytes
as_is b bytes plain = front b bytes ∙ rw plain refl

escaped : (b : ℕ) (bytes : List ℕ) → is_plain b ≡ false → (x y : ℕ) × (quoted (b ∷ bytes) ≡ 37 ∷ x ∷ y ∷ quoted bytes)
escaped b bytes plain = (digit_glyph true (b / 16), digit_glyph true (b % 16), front b bytes ∙ rw plain refl)

some_quoted : (b : ℕ) (bytes : List ℕ) → (x : ℕ) × (rest : List ℕ) × (quoted (b ∷ bytes) ≡ x ∷ rest)
some_quoted b bytes = go (is_plain b) refl
  where
    go : (t : Bool) → is_plain b ≡ t → (x : ℕ) × (rest : List ℕ) × (quoted (b ∷ bytes) ≡ x ∷ rest)
    go true plain = (b, quoted bytes, as_is b bytes plain)
    go false plain = let w = escaped b bytes plain in (37, w.0 ∷ w.1 ∷ quoted bytes, w.2)

escaped_no_dots : (b : ℕ) (bytes : List ℕ) → is_plain b ≡ false → is_dots (quoted (b ∷ bytes)) ≡ false
escaped_no_dots b bytes plain = ap is_dots (escaped b bytes plain).2

second_escaped : (b c : ℕ) (bytes : List ℕ) → is_plain b ≡ true → is_plain c ≡ false → is_dots (quoted (b ∷ c ∷ bytes)) ≡ false
second_escaped b c bytes plain other = ap is_dots (as_is b (c ∷ bytes) plain ∙ ap (λ (l : List ℕ). b ∷ l) (escaped c bytes other).2)

no_dots : (name : List ℕ) → is_dots name ≡ false → is_dots (quoted name) ≡ false
no_dots [] is = ap is_dots quoted_none
no_dots (b ∷ []) is = go (is_plain b) refl
  where
    go : (t : Bool) → is_plain b ≡ t → is_dots (quoted (b ∷ [])) ≡ false
    go true plain = ap is_dots (as_is b [] plain ∙ ap (λ (l : List ℕ). b ∷ l) quoted_none) ∙ is
    go false plain = escaped_no_dots b [] plain
no_dots (b ∷ c ∷ []) is = go (is_plain b) refl (is_plain c) refl
  where
    go : (t : Bool) → is_plain b ≡ t → (u : Bool) → is_plain c ≡ u → is_dots (quoted (b ∷ c ∷ [])) ≡ false
    go true plain true also = ap is_dots (as_is b (c ∷ []) plain ∙ ap (λ (l : List ℕ). b ∷ l) (as_is c [] also ∙ ap (λ (l : List ℕ). c ∷ l) quoted_none)) ∙ is
    go true plain false other = second_escaped b c [] plain other
    go false plain u also = escaped_no_dots b (c ∷ []) plain
no_dots (b ∷ c ∷ d ∷ bytes) is = go (is_plain b) refl (is_plain c) refl
  where
    go : (t : Bool) → is_plain b ≡ t → (u : Bool) → is_plain c ≡ u → is_dots (quoted (b ∷ c ∷ d ∷ bytes)) ≡ false
    go true plain true also = ap is_dots (as_is b (c ∷ d ∷ bytes) plain ∙ ap (λ (l : List ℕ). b ∷ l) (as_is c (d ∷ bytes) also ∙ ap (λ (l : List ℕ). c ∷ l) (some_quoted d bytes).2))
    go true plain false other = second_escaped b c (d ∷ bytes) plain other
    go false plain u also = escaped_no_dots b (c ∷ d ∷ bytes) plain

some : (name : List ℕ) → 0 < length name → 0 < length (quoted name)
some [] lt = absurd (omega (arith, lt))
some (b ∷ bytes) lt = let w = some_quoted b bytes in omega (arith, ap length w.2)

pub quoted_name : (name : List ℕ) → IsFileName name → IsQuotedName name
quoted_name name is = record { some = some name is.some; short = is.short; no_dots = no_dots name is.proper }
