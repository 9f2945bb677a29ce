-- Values as they are spelled canonically: which need quotes, and what is escaped between them.
use Rattle.std.proofs.Common.{◌≡◌, ℕ, ◌<◌, Bool, true, false, not, eqb, List, [], ◌∷◌, ◌++◌, length, take, drop, Option, Some, None, refl, sym, ap, ◌∙◌, append_assoc, arith}
use Rattle.std.specs.Option.{is_some}
use Rattle.std.specs.List.{list_all, list_any, position, flat_map}
use Rattle.std.proofs.lemmas.Bool.{true≢false}
use Rattle.std.proofs.lemmas.List.{append-nil, take-append-drop}
use Rattle.std.specs.Str.{IsUtf8, IsCharBoundary}
use Rattle.std.proofs.lemmas.Str.{IsCharBoundary-before_ascii, IsUtf8-drop}
use Rattle.ips_text.specs.Reading.{next_is}
use Rattle.ips_text.proofs.Readers.{next_same}
use Rattle.ips_line.proofs.Quotes.{byte_at, cut_first}
use Rattle.ips_line.specs.Canonical.{is_escaped, escaped_byte, is_special, needs_quotes}
use Rattle.ips_line.proofs.Places.{first_passes, none_passes, Told, any_told}

pub needs_test : (value : List ℕ) (place : Option ℕ) → eqb (length value) 0 ≡ false → place ≡ position is_special value → is_some place ≡ needs_quotes value
needs_test [] place some e = absurd (true≢false some)
needs_test (b ∷ value) place some e = told place (any_told is_special (b ∷ value) place e)
  where
    told : (place : Option ℕ) → Told place (list_any is_special (b ∷ value)) → is_some place ≡ list_any is_special (b ∷ value)
    told None h = sym h
    told (Some i) h = sym h

-- bytes without one that has to be escaped stand as they are
pub escape_front : (front text : List ℕ) → list_all (λ b. not (is_escaped b)) front ≡ true → flat_map escaped_byte (front ++ text) ≡ front ++ flat_map escaped_byte text
escape_front [] text h = refl
escape_front (b ∷ front) text h = go (is_escaped b) refl h (escape_front front text)
  where
    go : (t : Bool) → is_escaped b ≡ t → list_all (λ b. not (is_escaped b)) (b ∷ front) ≡ true → (list_all (λ b. not (is_escaped b)) front ≡ true → flat_map escaped_byte (front ++ text) ≡ front ++ flat_map escaped_byte text)
        → flat_map escaped_byte (b ∷ (front ++ text)) ≡ b ∷ (front ++ flat_map escaped_byte text)
    go true e h more = absurd (true≢false (sym (rw e at h)))
    go false e h more = rw e (ap (λ (l : List ℕ). b ∷ l) (more (rw e at h)))

-- up to the first byte that has to be escaped, and behind it
pub escape_step : (text : List ℕ) (i : ℕ) → position is_escaped text ≡ Some i → flat_map escaped_byte text ≡ take i text ++ (92 ∷ take 1 (drop i text) ++ flat_map escaped_byte (drop 1 (drop i text)))
escape_step text i e =
    let f = first_passes is_escaped text i e in
    ap (flat_map escaped_byte) (sym (take-append-drop i text)) ∙ escape_front (take i text) (drop i text) f.before
    ∙ rw (f.rest) (ap (λ (l : List ℕ). take i text ++ l) (first f.byte f.after f.passes))
  where
    first : (b : ℕ) (after : List ℕ) → is_escaped b ≡ true → flat_map escaped_byte (b ∷ after) ≡ 92 ∷ (b ∷ flat_map escaped_byte after)
    first b after h = rw h refl

pub escape_none : (text : List ℕ) → position is_escaped text ≡ None → flat_map escaped_byte text ≡ text
escape_none text e = ap (flat_map escaped_byte) (sym (append-nil text)) ∙ escape_front text [] (none_passes is_escaped text e) ∙ append-nil text

pub low_escaped : (b : ℕ) → is_escaped b ≡ true → b < 128
low_escaped b e = grind arith

pub escaped_cut : (bytes : List ℕ) (i : ℕ) → position is_escaped bytes ≡ Some i → IsCharBoundary bytes i
escaped_cut bytes i e = let f = first_passes is_escaped bytes i e in IsCharBoundary-before_ascii bytes i f.within (omega (arith, byte_at bytes i f.byte f.after f.rest, low_escaped f.byte f.passes))

pub escaped_behind : (bytes : List ℕ) (i : ℕ) → IsUtf8 bytes → position is_escaped bytes ≡ Some i → IsCharBoundary (drop i bytes) 1
escaped_behind bytes i utf8 e =
    let f = first_passes is_escaped bytes i e in
    let first : next_is f.byte (drop i bytes) ≡ true = rw (f.rest) (next_same f.byte) in
    cut_first (drop i bytes) f.byte (IsUtf8-drop bytes i utf8 (escaped_cut bytes i e)) first (low_escaped f.byte f.passes)

pub escape_on : (value rest : List ℕ) (place : ℕ) (front behind character after total : List ℕ) → position is_escaped rest ≡ Some place → front ≡ take place rest → behind ≡ drop place rest → character ≡ take 1 behind → after ≡ drop 1 behind
    → value ++ flat_map escaped_byte rest ≡ total → (((value ++ front) ++ (92 ∷ [])) ++ character) ++ flat_map escaped_byte after ≡ total
escape_on value rest place front behind character after total e is_front is_behind is_character is_after so_far =
    let step = escape_step rest place e in
    let cut : flat_map escaped_byte rest ≡ front ++ (92 ∷ character ++ flat_map escaped_byte after) = step ∙ rw (is_front, is_character, is_after, is_behind) refl in
    append_assoc ((value ++ front) ++ (92 ∷ [])) character (flat_map escaped_byte after)
    ∙ append_assoc (value ++ front) (92 ∷ []) (character ++ flat_map escaped_byte after)
    ∙ append_assoc value front (92 ∷ (character ++ flat_map escaped_byte after))
    ∙ ap (λ (l : List ℕ). value ++ l) (sym cut) ∙ so_far

pub escape_end : (value rest total : List ℕ) → position is_escaped rest ≡ None → value ++ flat_map escaped_byte rest ≡ total → value ++ rest ≡ total
escape_end value rest total e so_far = ap (λ (l : List ℕ). value ++ l) (sym (escape_none rest e)) ∙ so_far
