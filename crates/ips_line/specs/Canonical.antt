-- The canonical spelling of a line: its words divided by one blank, and values quoted where they have to be.
use Rattle.std.specs.Prelude.{ℕ, ◌+◌, Bool, true, ◌||◌, ◌==◌, if◌then◌else◌, List, [], ◌∷◌, ◌++◌, length, Option, Some, None}
use Rattle.std.specs.List.{list_any, flat_map, AllByRecursion}
use Rattle.ips_line.specs.declared.words.Pair.{Pair}
use Rattle.ips_line.specs.Line.{is_blank, is_quote, in_word, in_payload, in_key, IsRunOfBytes, Placed, Said}

-- the byte has to be escaped between `"`: it is `"` or a backslash
abbrev pub is_escaped : ℕ → Bool
is_escaped b = (b == 34) || (b == 92)

-- a byte between `"`: behind a backslash where it has to be escaped
abbrev pub escaped_byte : ℕ → List ℕ
escaped_byte b = if is_escaped b then 92 ∷ b ∷ [] else b ∷ []

-- a value with this byte needs quotes: it is a blank, a tab, a quote or a backslash
abbrev pub is_special : ℕ → Bool
is_special b = is_blank b || is_quote b || (b == 92)

-- the value needs quotes: it is empty, or has such a byte
abbrev pub needs_quotes : List ℕ → Bool
needs_quotes [] = true
needs_quotes (b ∷ bytes) = list_any is_special (b ∷ bytes)

-- a value: between `"` where it needs quotes, and else as it stands
abbrev pub value_text : List ℕ → List ℕ
value_text value = if needs_quotes value then 34 ∷ flat_map escaped_byte value ++ 34 ∷ [] else value

-- a blank and `key=value`
abbrev pub pair_text : Pair → List ℕ
pair_text p = 32 ∷ p.key ++ 61 ∷ value_text p.value

-- a blank and the payload word, where there is one
abbrev pub payload_text : Option (List ℕ) → List ℕ
payload_text None = []
payload_text (Some word) = 32 ∷ word

-- the canonical line of a name, a payload word or none, and `key=value` in this order
abbrev pub words_text : List ℕ → Option (List ℕ) → List Pair → List ℕ
words_text name payload pairs = name ++ payload_text payload ++ flat_map pair_text pairs

-- the word is a payload word, where there is one
abbrev pub IfPayload : Option (List ℕ) → Type 0
IfPayload None = Unit {0}
IfPayload (Some word) = IsRunOfBytes in_payload word

-- the name, the payload word and the keys have the form of a line's
pub record AreWords (name : List ℕ) (payload : Option (List ℕ)) (pairs : List Pair) : Type 0 where
  pub is_name : IsRunOfBytes in_word name
  pub is_payload : IfPayload payload
  pub are_keys : AllByRecursion (λ (p : Pair). IsRunOfBytes in_key p.key) pairs

-- the place of a payload word in the canonical line, behind the name and a blank
abbrev pub payload_placed : List ℕ → Option (List ℕ) → Option Placed
payload_placed name None = None
payload_placed name (Some word) = Some (record { text = word; place = length name + 1 })

-- what the canonical line says
abbrev pub canonical_words : List ℕ → Option (List ℕ) → List Pair → Said
canonical_words name payload pairs = record { name = record { text = name; place = 0 }; payload = payload_placed name payload; pairs = pairs }
