-- The words of a line of a manifest: how they may be written, and what the line says.
use Rattle.std.specs.Prelude.{◌≡◌, ℕ, ◌+◌, Bool, true, false, not, ◌&&◌, ◌||◌, ◌==◌, if◌then◌else◌, List, [], ◌∷◌, ◌++◌, length, map, Option, Some, None}
use Rattle.std.specs.List.{list_all, flat_map, AllByRecursion}
use Rattle.ips_text.specs.Reading.{Begins, IsFirstBad}
use Rattle.ips_line.specs.declared.words.Pair.{Pair}
use Rattle.ips_line.specs.declared.fault.WordFault.{WordFault}
use Rattle.ips_line.specs.declared.fault.WordFault.TheVariants.{BadWord, OpenQuote}

-- ---- bytes

-- the byte is a blank or a tab
abbrev pub is_blank : ℕ → Bool
is_blank b = (b == 32) || (b == 9)

-- the byte is `"` or `'`
abbrev pub is_quote : ℕ → Bool
is_quote b = (b == 34) || (b == 39)

-- a name, and a value without quotes around it, goes on with the byte: up to a blank
abbrev pub in_word : ℕ → Bool
in_word b = not (is_blank b)

-- a payload word goes on with the byte: up to a blank or `=`
abbrev pub in_payload : ℕ → Bool
in_payload b = not (is_blank b || (b == 61))

-- a key goes on with the byte: up to a blank, `=` or a quote
abbrev pub in_key : ℕ → Bool
in_key b = not (is_blank b || (b == 61) || is_quote b)

-- one or more bytes that pass
abbrev pub IsRunOfBytes : (ℕ → Bool) → List ℕ → Type 0
IsRunOfBytes passes [] = ⊥
IsRunOfBytes passes (b ∷ bytes) = list_all passes (b ∷ bytes) ≡ true

-- ---- values

-- between such quotes a backslash before that quote or before a backslash stands for the second byte
abbrev pub is_escape : ℕ → ℕ → ℕ → Bool
is_escape quote b c = (b == 92) && ((c == quote) || (c == 92))

-- what stands between two such quotes means this: an escape its second byte, and any other byte itself
abbrev pub meant : ℕ → List ℕ → List ℕ
meant quote [] = []
meant quote (b ∷ []) = b ∷ []
meant quote (b ∷ c ∷ bytes) = if is_escape quote b c then c ∷ meant quote bytes else b ∷ meant quote (c ∷ bytes)

-- the bytes may stand between two such quotes: outside of escapes there is no such quote, and no backslash stands last, where it would escape the closing quote
abbrev pub stays_inside : ℕ → List ℕ → Bool
stays_inside quote [] = true
stays_inside quote (b ∷ []) = not ((b == quote) || (b == 92))
stays_inside quote (b ∷ c ∷ bytes) = if is_escape quote b c then stays_inside quote bytes else (not (b == quote) && stays_inside quote (c ∷ bytes))

-- a value is written as it stands, or between two quotes
pub data Written : Type 0 where
  Plain : List ℕ → Written
  Quoted : ℕ → List ℕ → Written

-- the bytes of a written value
abbrev pub written_text : Written → List ℕ
written_text (Plain bytes) = bytes
written_text (Quoted quote inside) = quote ∷ inside ++ quote ∷ []

-- a plain value is one or more bytes without a blank, of which the first is no quote
abbrev pub IsPlain : List ℕ → Type 0
IsPlain [] = ⊥
IsPlain (b ∷ bytes) = (is_quote b ≡ false) × (list_all in_word (b ∷ bytes) ≡ true)

-- the value may be written so
abbrev pub IsWritten : Written → Type 0
IsWritten (Plain bytes) = IsPlain bytes
IsWritten (Quoted quote inside) = (is_quote quote ≡ true) × (stays_inside quote inside ≡ true)

-- the value that is written so
abbrev pub value_of : Written → List ℕ
value_of (Plain bytes) = bytes
value_of (Quoted quote inside) = meant quote inside

-- ---- lines

-- a payload word, and the blanks before it
pub record Payload : Type 0 where
  pub gap : List ℕ
  pub word : List ℕ

-- a `key=value`, and the blanks before it
pub record Attribute : Type 0 where
  pub gap : List ℕ
  pub key : List ℕ
  pub value : Written

-- a line as it is written: blanks, the name, a payload word or none, the `key=value` in order, and blanks
pub record Line : Type 0 where
  pub before : List ℕ
  pub name : List ℕ
  pub payload : Option Payload
  pub attributes : List Attribute
  pub behind : List ℕ

-- the bytes of a payload word and the blanks before it, where there is one
abbrev pub payload_written : Option Payload → List ℕ
payload_written None = []
payload_written (Some p) = p.gap ++ p.word

-- the bytes of a `key=value` and the blanks before it
abbrev pub attribute_written : Attribute → List ℕ
attribute_written a = a.gap ++ a.key ++ 61 ∷ written_text a.value

-- the bytes of a line
abbrev pub line_written : Line → List ℕ
line_written line = line.before ++ line.name ++ payload_written line.payload ++ flat_map attribute_written line.attributes ++ line.behind

-- the payload word has its form, where there is one: neither a blank nor `=` stands in it
abbrev pub IsPayload : Option Payload → Type 0
IsPayload None = Unit {0}
IsPayload (Some p) = IsRunOfBytes is_blank p.gap × IsRunOfBytes in_payload p.word

-- the `key=value` has its form
pub record IsAttribute (a : Attribute) : Type 0 where
  pub gap : IsRunOfBytes is_blank a.gap
  pub key : IsRunOfBytes in_key a.key
  pub value : IsWritten a.value

-- each part of the line has its form
pub record IsWrittenLine (line : Line) : Type 0 where
  pub before : list_all is_blank line.before ≡ true
  pub name : IsRunOfBytes in_word line.name
  pub payload : IsPayload line.payload
  pub attributes : AllByRecursion IsAttribute line.attributes
  pub behind : list_all is_blank line.behind ≡ true

-- the text is a line
abbrev pub IsLine : List ℕ → Type 0
IsLine text = (line : Line) × IsWrittenLine line × (text ≡ line_written line)

-- ---- what a line says

-- a word, and the byte of the line at which it begins
pub record Placed : Type 0 where
  pub text : List ℕ
  pub place : ℕ

-- what a line says: its name, its payload word or none, and its `key=value` in order, without quotes
pub record Said : Type 0 where
  pub name : Placed
  pub payload : Option Placed
  pub pairs : List Pair

-- a payload word's bytes, and the place at which it begins behind this many bytes
abbrev pub payload_of : ℕ → Option Payload → Option Placed
payload_of place None = None
payload_of place (Some p) = Some (record { text = p.word; place = place + length p.gap })

-- what a `key=value` says
abbrev pub pair_of : Attribute → Pair
pair_of a = record { key = a.key; value = value_of a.value }

-- what a line says, however it is written
abbrev pub words_of : Line → Said
words_of line = record {
  name = record { text = line.name; place = length line.before };
  payload = payload_of (length line.before + length line.name) line.payload;
  pairs = map pair_of line.attributes;
}

-- the text is a way to write a line that says this
abbrev pub Says : Said → List ℕ → Type 0
Says said text = (line : Line) × IsWrittenLine line × (words_of line ≡ said) × (text ≡ line_written line)

-- ---- where a text goes wrong

-- the text ends between quotes: a line without blanks at its end, a key, `=`, a quote at the place, and behind it no such quote that closes
pub record EndsInQuote (text : List ℕ) (place : ℕ) : Type 0 where
  pub line : Line
  pub gap : List ℕ
  pub key : List ℕ
  pub quote : ℕ
  pub inside : List ℕ
  pub is_line : IsWrittenLine line
  pub no_blanks : line.behind ≡ []
  pub is_gap : IsRunOfBytes is_blank gap
  pub is_key : IsRunOfBytes in_key key
  pub quotes : is_quote quote ≡ true
  pub open_end : (front more : List ℕ) → inside ≡ front ++ quote ∷ more → stays_inside quote front ≡ true → ⊥
  pub written : text ≡ (line_written line ++ gap ++ key ++ 61 ∷ []) ++ quote ∷ inside
  pub at : place ≡ length (line_written line ++ gap ++ key ++ 61 ∷ [])

-- the text is no line, and this is its fault: it ends between quotes, so that some line continues it, or this is the first place that no line continues
abbrev pub IsFault : List ℕ → WordFault → Type 0
IsFault text (OpenQuote place) = EndsInQuote text place × Begins IsLine text × (IsLine text → ⊥)
IsFault text (BadWord place) = IsFirstBad IsLine text place × ((other : ℕ) → EndsInQuote text other → ⊥) × (IsLine text → ⊥)
