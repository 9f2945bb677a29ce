-- A line that is read piece by piece.
use Rattle.std.proofs.Common.{◌≡◌, ℕ, ◌+◌, ◌-◌, ◌^◌, ◌<◌, ◌≤◌, false, List, ◌∷◌, ◌++◌, length, Option, take, drop, take-add, take_all, inl, inr, refl, sym, ap, ◌∙◌, subst, arith, append_assoc, length-drop, length-take, length-take-le}
use Rattle.std.proofs.Math.Seq.{drop-append-add, take-append_seam}
use Rattle.std.proofs.lemmas.Bool.{cases_lt}
use Rattle.std.proofs.lemmas.List.{take-take, take-append-drop, drop-drop, drop-take}
use Rattle.ips_outside.specs.Outside.{IsRead}
use Rattle.ips_journal.specs.Text.{line}
use Rattle.ips_text.specs.Cut.{has_byte, IsCut}
use Rattle.ips_journal.specs.Line.{ComeFirst, BeginsLine, IsLineFound}
use Rattle.ips_text.proofs.Cuts.{lacks_append}

-- The buffer has so many bytes of what lies ahead, none of them a newline.
pub record IsFilled (ahead buffer : List ℕ) (filled : ℕ) : Type 0 where
  pub same : take filled buffer ≡ take filled ahead
  pub lacks : has_byte 10 (take filled buffer) ≡ false

-- a read from a file, seen from a place of it
pub read_ahead : (file buffer : List ℕ) (place filled count : ℕ) → IsRead file (place + filled) buffer count → IsRead (drop place file) filled buffer count
read_ahead file buffer place filled count read = record {
  bytes = read.bytes ∙ ap (take count) (sym (drop-drop filled place file));
  within = omega (arith, read.within, length-drop place file, length-drop filled (drop place file), length-drop (place + filled) file);
  some = λ room more. read.some room (omega (arith, more, length-drop place file));
}

-- what is behind a cut
tail_is : (x y ahead : List ℕ) → ahead ≡ x ++ 10 ∷ y → drop (length x + 1) ahead ≡ y
tail_is x y ahead e = ap (drop (length x + 1)) e ∙ drop-append-add x (10 ∷ y) 1

module _ (ahead old new : List ℕ) (filled : ℕ) (is : IsFilled ahead old filled) (kept : take filled new ≡ take filled old) where
  pub piece_more : (count : ℕ) → IsRead ahead filled (drop filled new) count → take (filled + count) new ≡ take (filled + count) ahead
  piece_more count read =
      take-add filled count new
      ∙ ap (λ (l : List ℕ). l ++ take count (drop filled new)) (kept ∙ is.same)
      ∙ ap (λ (l : List ℕ). take filled ahead ++ l) read.bytes
      ∙ sym (take-add filled count ahead)

  pub more_filled : (count : ℕ) → IsRead ahead filled (drop filled new) count → has_byte 10 (take count (drop filled new)) ≡ false → IsFilled ahead new (filled + count)
  more_filled count read off = record {
    same = piece_more count read;
    lacks = ap (has_byte 10) (take-add filled count new) ∙ lacks_append 10 (take filled new) (take count (drop filled new)) (ap (has_byte 10) kept ∙ is.lacks) off;
  }

  -- nothing more comes
  pub at_end : IsRead ahead filled (drop filled new) 0 → filled < length new → has_byte 10 (take (length new) ahead) ≡ false
  at_end read room = elim (cases_lt filled (length ahead)) [
    | inl more ↦ absurd (let some = read.some (omega (arith, length-drop filled new)) more in omega arith)
    | inr short ↦
        let whole : take (length new) ahead ≡ take filled old = take_all (length new) ahead (omega (arith, short, room)) ∙ sym (take_all filled ahead short) ∙ sym is.same in
        ap (has_byte 10) whole ∙ is.lacks
  ]

  -- a newline stands in the new piece
  pub line_at : (count end : ℕ) → IsRead ahead filled (drop filled new) count → filled + count ≤ length new → end < length (take count (drop filled new))
      → IsCut 10 (take count (drop filled new)) (take end (take count (drop filled new))) (drop (end + 1) (take count (drop filled new))) → BeginsLine ahead new (filled + end)
  line_at count end read fits within cut =
      let piece : List ℕ = take count (drop filled new) in
      let few : end ≤ count = omega (arith, within, length-take-le count (drop filled new) (omega (arith, length-drop filled new))) in
      let front : take (filled + end) new ≡ take filled new ++ take end piece = take-add filled end new ∙ ap (λ (l : List ℕ). take filled new ++ l) (sym (take-take end count (drop filled new) few)) in
      let long : length (take (filled + end) new) ≡ filled + end = length-take-le (filled + end) new (omega arith) in
      let behind : List ℕ = drop (end + 1) piece ++ drop (filled + count) ahead in
      let whole : ahead ≡ take (filled + end) new ++ 10 ∷ behind =
      sym (take-append-drop (filled + count) ahead)
      ∙ ap (λ (l : List ℕ). l ++ drop (filled + count) ahead) (sym (piece_more count read) ∙ take-add filled count new ∙ ap (λ (l : List ℕ). take filled new ++ l) cut.parts ∙ sym (append_assoc (take filled new) (take end piece) (10 ∷ drop (end + 1) piece)) ∙ ap (λ (l : List ℕ). l ++ 10 ∷ drop (end + 1) piece) (sym front))
      ∙ append_assoc (take (filled + end) new) (10 ∷ drop (end + 1) piece) (drop (filled + count) ahead) in
      record {
        parts = whole ∙ ap (λ (l : List ℕ). take (filled + end) new ++ 10 ∷ l) (sym (tail_is (take (filled + end) new) behind ahead whole) ∙ ap (λ (n : ℕ). drop (n + 1) ahead) long);
        one_line = ap (has_byte 10) front ∙ lacks_append 10 (take filled new) (take end piece) (ap (has_byte 10) kept ∙ is.lacks) cut.first_lacks;
      }

pub nothing_filled : (ahead buffer : List ℕ) → IsFilled ahead buffer 0
nothing_filled ahead buffer = record { same = refl; lacks = refl }

-- the buffer is full
pub all_filled : (ahead buffer : List ℕ) (filled : ℕ) → IsFilled ahead buffer filled → filled ≤ length buffer → length buffer ≤ filled → has_byte 10 (take (length buffer) ahead) ≡ false
all_filled ahead buffer filled is le ge =
    let same : length buffer ≡ filled = omega arith in
    ap (λ (n : ℕ). has_byte 10 (take n ahead)) same ∙ ap (has_byte 10) (sym is.same) ∙ is.lacks

-- a part of a file that was read isn't longer than the file
pub filled_within : (file buffer : List ℕ) (place filled : ℕ) → IsFilled (drop place file) buffer filled → filled ≤ length buffer → place ≤ length file → place + filled ≤ length file
filled_within file buffer place filled is le within = omega (arith, length-take-le filled buffer le, length-take filled (drop place file), length-drop place file, ap length is.same)

pub piece_read : (file now buffer : List ℕ) (place filled count : ℕ) → now ≡ file → IsRead now (place + filled) buffer count → IsRead (drop place file) filled buffer count
piece_read file now buffer place filled count same read = read_ahead file buffer place filled count (subst (λ (f : List ℕ). IsRead f (place + filled) buffer count) same read)

-- ---- bytes that were read before they are used

-- the bytes that were read come first
pub filled_first : (ahead buffer : List ℕ) (filled : ℕ) → filled ≤ length buffer → take filled buffer ≡ take filled ahead → ComeFirst (take filled buffer) ahead
filled_first ahead buffer filled le same = ap (λ (n : ℕ). take n ahead) (length-take-le filled buffer le) ∙ sym same

-- behind some of them the others do
pub first_behind : (ahead held : List ℕ) (count : ℕ) → count ≤ length held → ComeFirst held ahead → ComeFirst (drop count held) (drop count ahead)
first_behind ahead held count le first =
    let sum : length held ≡ count + length (drop count held) = omega (arith, length-drop count held) in
    sym (drop-take count (length (drop count held)) ahead) ∙ ap (λ (n : ℕ). drop count (take n ahead)) (sym sum) ∙ ap (drop count) first

-- a line of the buffer is one of the bytes that were read
pub line_among : (ahead buffer : List ℕ) (count filled : ℕ) → count ≤ filled → BeginsLine ahead buffer count → BeginsLine ahead (take filled buffer) count
line_among ahead buffer count filled le h =
    let same : take count (take filled buffer) ≡ take count buffer = take-take count filled buffer le in
    record { parts = h.parts ∙ ap (λ (l : List ℕ). line l (drop (count + 1) ahead)) (sym same); one_line = ap (has_byte 10) same ∙ h.one_line }

-- a line that is held whole
pub line_held : (ahead held : List ℕ) (count : ℕ) → ComeFirst held ahead → (count < length held) × IsCut 10 held (take count held) (drop (count + 1) held) → BeginsLine ahead held count
line_held ahead held count first cut =
    let behind : List ℕ = drop (count + 1) held ++ drop (length held) ahead in
    let whole : ahead ≡ take count held ++ 10 ∷ behind =
    sym (take-append-drop (length held) ahead) ∙ ap (λ (l : List ℕ). l ++ drop (length held) ahead) (first ∙ cut.1.parts) ∙ append_assoc (take count held) (10 ∷ drop (count + 1) held) (drop (length held) ahead) in
    record {
      parts = whole ∙ ap (λ (l : List ℕ). take count held ++ 10 ∷ l) (sym (tail_is (take count held) behind ahead whole) ∙ ap (λ (n : ℕ). drop (n + 1) ahead) (length-take-le count held (omega (arith, cut.0))));
      one_line = cut.1.first_lacks;
    }

-- the bytes of a buffer between two places, behind some of them
pub skipped : (items : List ℕ) (start end count : ℕ) → count ≤ length (take (end - start) (drop start items)) → take (end - (start + count)) (drop (start + count) items) ≡ drop count (take (end - start) (drop start items))
skipped items start end count le =
    let sum : end - start ≡ count + (end - (start + count)) = omega (arith, le, length-take (end - start) (drop start items)) in
    sym (ap (λ (n : ℕ). drop count (take n (drop start items))) sum ∙ drop-take count (end - (start + count)) (drop start items) ∙ ap (take (end - (start + count))) (drop-drop count start items))

-- the bytes up to a place of a buffer that was read into as a slice
pub front_read : (new old : List ℕ) (len end : ℕ) → length new ≡ len → take (end - 0) (drop 0 (take len (new ++ drop (length new) old))) ≡ take end new
front_read new old len end is =
    let whole : take len (new ++ drop (length new) old) ≡ new = ap (λ (n : ℕ). take n (new ++ drop (length new) old)) (sym is) ∙ take-append_seam new (drop (length new) old) in
    let count : end - 0 ≡ end = omega arith in
    ap (λ (n : ℕ). take n (take len (new ++ drop (length new) old))) count ∙ ap (take end) whole

-- what was found in a file is found in the text that it is
pub line_found : (text now old held : List ℕ) (place : ℕ) (found seen : Option ℕ) → now ≡ text → found ≡ seen
    → (place ≤ length now → length now < 2 ^ 64 → ComeFirst old (drop place now) → ComeFirst held (drop place now) × IsLineFound 16384 (drop place now) held found)
    → place ≤ length text → length text < 2 ^ 64 → ComeFirst old (drop place text) → ComeFirst held (drop place text) × IsLineFound 16384 (drop place text) held seen
line_found text now old held place found seen e is h within small first =
    subst (λ (f : Option ℕ). ComeFirst held (drop place text) × IsLineFound 16384 (drop place text) held f) is
    (subst (λ (t : List ℕ). place ≤ length t → length t < 2 ^ 64 → ComeFirst old (drop place t) → ComeFirst held (drop place t) × IsLineFound 16384 (drop place t) held found) e h within small first)
