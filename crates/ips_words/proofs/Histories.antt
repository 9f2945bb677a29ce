-- The words of a history, read back.
use Rattle.std.proofs.Common.{◌≡◌, ℕ, ◌/◌, ◌%◌, Bool, true, false, eqb, List, [], ◌∷◌, ◌++◌, map, refl, sym, ap, ◌∙◌, arith, All}
use Rattle.std.specs.List.{flat_map, slice_split, AllByRecursion}
use Rattle.std.specs.Fmt.{digit_glyph}
use Rattle.std.proofs.lemmas.List.{append-nil}
use Rattle.std.proofs.lemmas.List.Concat.{flat_map-cons}
use Rattle.std.proofs.lemmas.List.Splits.{slice_split_at, slice_split_none}
use Rattle.std.proofs.lemmas.List.Elements.{All-from_recursion}
use Rattle.percent_encoding.specs.Percent.{percent_decode}
use Rattle.ips_text.specs.Quote.{is_plain, quoted_byte, quoted}
use Rattle.ips_text.proofs.Quotes.{unquoted_is}
use Rattle.ips_words.specs.History.{AreWords, blank_and_word, history_of, is_blank}

-- no byte of the list is a blank
abbrev NoBlank : List ℕ → Type 0
NoBlank [] = Unit {0}
NoBlank (b ∷ bytes) = (eqb b 32 ≡ false) × NoBlank bytes

glyph_is_none : (n : ℕ) → eqb (digit_glyph true n) 32 ≡ false
glyph_is_none n = grind arith

plain_is_none : (b : ℕ) → is_plain b ≡ true → eqb b 32 ≡ false
plain_is_none b is = grind arith

byte_has_none : (b : ℕ) (t : Bool) (l : List ℕ) → is_plain b ≡ t → NoBlank l → NoBlank (quoted_byte b ++ l)
byte_has_none b true l e none = rw e (plain_is_none b e, none)
byte_has_none b false l e none = rw e (refl, (glyph_is_none (b / 16), (glyph_is_none (b % 16), none)))

quoted_has_none : (word : List ℕ) → NoBlank (quoted word)
unfolding quoted
quoted_has_none [] = tt
quoted_has_none (b ∷ bytes) = byte_has_none b (is_plain b) (quoted bytes) refl (quoted_has_none bytes)

-- so no byte of it passes the test
all_pass : (bytes : List ℕ) → NoBlank bytes → All (λ x. is_blank x ≡ false) bytes
all_pass bytes none = All-from_recursion (λ (x : ℕ). is_blank x ≡ false) bytes (recursed bytes none)
  where
    recursed : (l : List ℕ) → NoBlank l → AllByRecursion (λ x. is_blank x ≡ false) l
    recursed [] n = tt
    recursed (b ∷ l) n = (n.0, recursed l n.1)

split_back : (word : List ℕ) (words : List (List ℕ)) → slice_split is_blank (history_of (word ∷ words)) ≡ map quoted (word ∷ words)
split_back word [] = ap (slice_split is_blank) (append-nil (quoted word)) ∙ slice_split_none is_blank (quoted word) (all_pass (quoted word) (quoted_has_none word))
split_back word (next ∷ words) =
    slice_split_at is_blank (quoted word) 32 (history_of (next ∷ words)) (all_pass (quoted word) (quoted_has_none word)) refl
    ∙ ap (λ (l : List (List ℕ)). quoted word ∷ l) (split_back next words)

unquoted : (words : List (List ℕ)) → AreWords words → map percent_decode (map quoted words) ≡ words
unquoted [] are = refl
unquoted (word ∷ words) are = ap (λ (l : List (List ℕ)). percent_decode (quoted word) ∷ l) (unquoted words are.1) ∙ ap (λ (l : List ℕ). l ∷ words) (unquoted_is word are.0)

-- what is kept of the words gives them back
pub words_back : (word : List ℕ) (words : List (List ℕ)) → AreWords (word ∷ words) → map percent_decode (slice_split is_blank (history_of (word ∷ words))) ≡ word ∷ words
words_back word words are = ap (map percent_decode) (split_back word words) ∙ unquoted (word ∷ words) are

-- words behind blanks, of what is seen of them
pub blanks : {X : Type 0} (f : X → List ℕ) (words : List X) → flat_map (λ (w : X). blank_and_word (f w)) words ≡ flat_map blank_and_word (map f words)
blanks f [] = refl
blanks f (w ∷ words) = flat_map-cons (λ (x : _). blank_and_word (f x)) w words ∙ ap (λ (l : List ℕ). blank_and_word (f w) ++ l) (blanks f words) ∙ sym (flat_map-cons blank_and_word (f w) (map f words))
