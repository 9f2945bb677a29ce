-- Percent-encoded fields.
use Rattle.std.proofs.Common.{◌≡◌, ℕ, ◌+◌, ◌*◌, ◌/◌, ◌%◌, ◌<◌, ◌≤◌, Bool, true, false, cond, ◌||◌, eqb, List, [], ◌∷◌, ◌++◌, length, take, get_or, refl, sym, ap, ap₂, ◌∙◌, arith, append_assoc, append-nil, length-append}
use Rattle.std.specs.Fmt.{digit_glyph}
use Rattle.std.proofs.lemmas.Bool.{eqb-true}
use Rattle.std.proofs.lemmas.Bool.Decides.{nat_tests}
use Rattle.std.proofs.lemmas.List.{take_more}
use Rattle.std.proofs.lemmas.List.Concat.{flat_map-cons}
use Rattle.ips_text.specs.Path.{parts}
use Rattle.ips_text.specs.Quote.{is_plain, quoted_byte, quoted, shown, AreBytes}
use Rattle.ips_journal.specs.Escape.{is_kept, escaped_byte, escaped}
use Rattle.ips_text.proofs.Cuts.{IsClear, clear_append}
use Rattle.ips_text.proofs.Fronts.{some_part}
use Rattle.ips_text.proofs.Shown.{behind_byte}

-- ---- one byte

percent : (slash : Bool) → is_kept slash 37 ≡ false
percent true = refl
percent false = refl

pub glyph_same : (a b : ℕ) → a < 16 → b < 16 → digit_glyph true a ≡ digit_glyph true b → a ≡ b
glyph_same a b la lb e = grind (arith, nat_tests)

-- the front of an escaped form tells its byte
pub byte_once : (slash : Bool) (b c : ℕ) (x y : List ℕ) → b < 256 → c < 256 → escaped_byte slash b ++ x ≡ escaped_byte slash c ++ y → (b ≡ c) × (x ≡ y)
byte_once slash b c x y hb hc e = go (is_kept slash b) refl (is_kept slash c) refl e
  where
    go : (s : Bool) → is_kept slash b ≡ s → (t : Bool) → is_kept slash c ≡ t
        → cond s (b ∷ []) (37 ∷ digit_glyph true (b / 16) ∷ digit_glyph true (b % 16) ∷ []) ++ x ≡ cond t (c ∷ []) (37 ∷ digit_glyph true (c / 16) ∷ digit_glyph true (c % 16) ∷ []) ++ y → (b ≡ c) × (x ≡ y)
    go true s true t e = (cc, cc)
    go true s false t e = let is : b ≡ 37 = cc in absurd (let off = percent slash in cc)
    go false s true t e = let is : c ≡ 37 = cc in absurd (let off = percent slash in cc)
    go false s false t e =
        let high : digit_glyph true (b / 16) ≡ digit_glyph true (c / 16) = cc in
        let low : digit_glyph true (b % 16) ≡ digit_glyph true (c % 16) = cc in
        let same_high = glyph_same (b / 16) (c / 16) (omega arith) (omega arith) high in
        let same_low = glyph_same (b % 16) (c % 16) (omega arith) (omega arith) low in
        (omega arith, cc)

pub byte_there : (slash : Bool) (b : ℕ) (x : List ℕ) → escaped_byte slash b ++ x ≡ [] → ⊥
byte_there slash b x e = go (is_kept slash b) e
  where
    go : (s : Bool) → cond s (b ∷ []) (37 ∷ digit_glyph true (b / 16) ∷ digit_glyph true (b % 16) ∷ []) ++ x ≡ [] → ⊥
    go true e = cc
    go false e = cc

byte_clear : (slash : Bool) (b : ℕ) → b < 256 → IsClear (escaped_byte slash b)
byte_clear slash b lt = go (is_kept slash b) refl
  where
    kept_clear : (slash : Bool) → is_kept slash b ≡ true → 32 < b
    kept_clear true e = grind (arith, nat_tests)
    kept_clear false e = grind (arith, nat_tests)

    glyph_clear : (d : ℕ) → 32 < digit_glyph true d
    glyph_clear d = grind (arith, nat_tests)

    go : (s : Bool) → is_kept slash b ≡ s → IsClear (cond s (b ∷ []) (37 ∷ digit_glyph true (b / 16) ∷ digit_glyph true (b % 16) ∷ []))
    go true e = (kept_clear slash e, tt)
    go false e = (omega arith, (glyph_clear (b / 16), (glyph_clear (b % 16), tt)))

byte_long : (slash : Bool) (b : ℕ) → length (escaped_byte slash b) ≤ 3
byte_long slash b = go (is_kept slash b)
  where
    go : (s : Bool) → length (cond s (b ∷ []) (37 ∷ digit_glyph true (b / 16) ∷ digit_glyph true (b % 16) ∷ [])) ≤ 3
    go true = omega arith
    go false = omega arith

-- ---- lists

pub escaped_more : (slash : Bool) (x y : List ℕ) → escaped slash (x ++ y) ≡ escaped slash x ++ escaped slash y
escaped_more slash [] y = refl
escaped_more slash (b ∷ x) y = ap (λ (l : List ℕ). escaped_byte slash b ++ l) (escaped_more slash x y) ∙ sym (append_assoc (escaped_byte slash b) (escaped slash x) (escaped slash y))

pub escaped_clear : (slash : Bool) (x : List ℕ) → AreBytes x → IsClear (escaped slash x)
escaped_clear slash [] h = tt
escaped_clear slash (b ∷ x) h = clear_append (escaped_byte slash b) (escaped slash x) (byte_clear slash b h.0) (escaped_clear slash x h.1)

pub escaped_long : (slash : Bool) (x : List ℕ) → length (escaped slash x) ≤ 3 * length x
escaped_long slash [] = omega arith
escaped_long slash (b ∷ x) = omega (arith, byte_long slash b, escaped_long slash x, length-append (escaped_byte slash b) (escaped slash x))

-- what an escaped form begins with is the front of what it tells
pub record HasFront (slash : Bool) (front rest list : List ℕ) : Type 0 where
  pub more : List ℕ
  pub parts : list ≡ front ++ more
  pub behind : rest ≡ escaped slash more
  pub bytes : AreBytes more

pub front_told : (slash : Bool) (front rest list : List ℕ) → AreBytes front → AreBytes list → escaped slash front ++ rest ≡ escaped slash list → HasFront slash front rest list
front_told slash [] rest list hf hl e = record { more = list; parts = refl; behind = e; bytes = hl }
front_told slash (b ∷ front) rest [] hf hl e = absurd (byte_there slash b (escaped slash front ++ rest) (sym (append_assoc (escaped_byte slash b) (escaped slash front) rest) ∙ e))
front_told slash (b ∷ front) rest (c ∷ list) hf hl e =
    let once = byte_once slash b c (escaped slash front ++ rest) (escaped slash list) hf.0 hl.0 (sym (append_assoc (escaped_byte slash b) (escaped slash front) rest) ∙ e) in
    let later = front_told slash front rest list hf.1 hl.1 once.1 in
    record { more = later.more; parts = ap₂ (λ (x : ℕ) (l : List ℕ). x ∷ l) (sym once.0) later.parts; behind = later.behind; bytes = later.bytes }

-- the front isn't all, where more is behind it
none_behind : (slash : Bool) (more : List ℕ) → length more ≡ 0 → escaped slash more ≡ []
none_behind slash [] e = refl
none_behind slash (b ∷ more) e = absurd (omega arith)

-- where the front of the rest tells no byte, nothing else does
pub none_told : (slash : Bool) (front rest list : List ℕ) → AreBytes front → AreBytes list → 0 < length rest → ((b : ℕ) (x : List ℕ) → b < 256 → rest ≡ escaped_byte slash b ++ x → ⊥) → escaped slash front ++ rest ≡ escaped slash list → ⊥
none_told slash front rest list hf hl some none e =
    let h = front_told slash front rest list hf hl e in
    go h.more h.behind h.bytes
  where
    go : (more : List ℕ) → rest ≡ escaped slash more → AreBytes more → ⊥
    go [] behind bytes = omega (arith, some, ap length behind)
    go (b ∷ more) behind bytes = none b (escaped slash more) bytes.0 behind

-- and where the front fills what there is room for, the list is longer
pub too_long : (slash : Bool) (front rest list : List ℕ) → AreBytes front → AreBytes list → 0 < length rest → length list ≤ length front → escaped slash front ++ rest ≡ escaped slash list → ⊥
too_long slash front rest list hf hl some le e =
    let h = front_told slash front rest list hf hl e in
    omega (arith, some, ap length h.behind, ap length (none_behind slash h.more (omega (arith, le, ap length h.parts, length-append front h.more))))

-- each byte has an escaped form
pub rest_shorter : (slash : Bool) (b : ℕ) (rest after : List ℕ) → rest ≡ escaped_byte slash b ++ after → length after < length rest
rest_shorter slash b rest after e = rw e (go (is_kept slash b))
  where
    go : (s : Bool) → length after < length (cond s (b ∷ []) (37 ∷ digit_glyph true (b / 16) ∷ digit_glyph true (b % 16) ∷ []) ++ after)
    go true = omega arith
    go false = omega arith

-- one more byte was told
pub told_more : (slash : Bool) (bytes front rest after : List ℕ) (b : ℕ) → bytes ≡ escaped slash front ++ rest → rest ≡ escaped_byte slash b ++ after → bytes ≡ escaped slash (front ++ b ∷ []) ++ after
told_more slash bytes front rest after b told e =
    told
    ∙ ap (λ (l : List ℕ). escaped slash front ++ l) e
    ∙ sym (append_assoc (escaped slash front) (escaped_byte slash b) after)
    ∙ ap (λ (l : List ℕ). (escaped slash front ++ l) ++ after) (sym (append-nil (escaped_byte slash b)))
    ∙ ap (λ (l : List ℕ). l ++ after) (sym (escaped_more slash front (b ∷ [])))

-- no two lists have one escaped form
pub escaped_apart : (slash : Bool) (x y : List ℕ) → AreBytes x → AreBytes y → escaped slash x ≡ escaped slash y → x ≡ y
escaped_apart slash [] [] hx hy e = refl
escaped_apart slash [] (c ∷ y) hx hy e = absurd (byte_there slash c (escaped slash y) (sym e))
escaped_apart slash (b ∷ x) [] hx hy e = absurd (byte_there slash b (escaped slash x) e)
escaped_apart slash (b ∷ x) (c ∷ y) hx hy e =
    let once = byte_once slash b c (escaped slash x) (escaped slash y) hx.0 hy.0 e in
    let rest = escaped_apart slash x y hx.1 hy.1 once.1 in
    ap₂ (λ (x : ℕ) (l : List ℕ). x ∷ l) once.0 rest

-- one more byte is written
pub written_more : (slash : Bool) (bytes : List ℕ) (i : ℕ) (start was now : List ℕ) → i < length bytes → was ≡ start ++ escaped slash (take i bytes) → now ≡ was ++ escaped_byte slash (get_or bytes i 0)
    → now ≡ start ++ escaped slash (take (i + 1) bytes)
written_more slash bytes i start was now lt so_far one =
    let b = get_or bytes i 0 in
    one
    ∙ ap (λ (l : List ℕ). l ++ escaped_byte slash b) so_far
    ∙ append_assoc start (escaped slash (take i bytes)) (escaped_byte slash b)
    ∙ ap (λ (l : List ℕ). start ++ l)
    (ap (λ (l : List ℕ). escaped slash (take i bytes) ++ l) (sym (append-nil (escaped_byte slash b))) ∙ sym (escaped_more slash (take i bytes) (b ∷ [])) ∙ ap (escaped slash) (sym (take_more bytes i 0 lt)))

-- ---- quoted and shown forms

one_quoted : (b : ℕ) → escaped_byte false b ≡ quoted_byte b
one_quoted b = go (is_plain b)
  where
    go : (s : Bool) → cond (s || false) (b ∷ []) (37 ∷ digit_glyph true (b / 16) ∷ digit_glyph true (b % 16) ∷ []) ≡ cond s (b ∷ []) (37 ∷ digit_glyph true (b / 16) ∷ digit_glyph true (b % 16) ∷ [])
    go true = refl
    go false = refl

pub escaped_quoted : (x : List ℕ) → escaped false x ≡ quoted x
unfolding quoted
escaped_quoted [] = refl
escaped_quoted (b ∷ x) = rw (one_quoted b, escaped_quoted x) (sym (flat_map-cons quoted_byte b x))

one_shown : (b : ℕ) → eqb b 47 ≡ false → escaped_byte true b ≡ quoted_byte b
one_shown b e = go (is_plain b) (eqb b 47) e
  where
    go : (s t : Bool) → t ≡ false → cond (s || t) (b ∷ []) (37 ∷ digit_glyph true (b / 16) ∷ digit_glyph true (b % 16) ∷ []) ≡ cond s (b ∷ []) (37 ∷ digit_glyph true (b / 16) ∷ digit_glyph true (b % 16) ∷ [])
    go true t e = refl
    go false true e = cc
    go false false e = refl

shown_more : (b : ℕ) (bs : List ℕ) → shown (b ∷ bs) ≡ escaped_byte true b ++ shown bs
unfolding shown quoted
shown_more b bs = go (eqb b 47) refl (some_part bs)
  where
    go : (t : Bool) → eqb b 47 ≡ t → ((x : List ℕ) × (xs : List (List ℕ)) × (parts bs ≡ x ∷ xs)) → shown (b ∷ bs) ≡ escaped_byte true b ++ shown bs
    go true e w = rw (e, w.2) (let is : b ≡ 47 = eqb-true b 47 e in rw is refl)
    go false e w = rw (one_shown b e) (rw (e, w.2) (behind_byte b w.0 w.1))

pub escaped_shown : (x : List ℕ) → escaped true x ≡ shown x
unfolding shown quoted
escaped_shown [] = refl
escaped_shown (b ∷ x) = rw (escaped_shown x) (sym (shown_more b x))
