-- Reading a line from left to right: which line a text is, and where it goes wrong.
use Rattle.std.specs.Prelude.{ℕ, zero, suc, ◌-◌, Bool, true, false, not, ◌&&◌, ◌==◌, if◌then◌else◌, List, [], ◌∷◌, ◌++◌, length, map, Option, Some, None, Result, Ok, Err}
use Rattle.std.specs.List.{list_all}
use Rattle.ips_text.specs.declared.refusal.Stop.{Stop}
use Rattle.ips_text.specs.Reading.{◌>>=◌, Reader, next_is, both, via, run}
use Rattle.ips_line.specs.declared.words.Pair.{Pair}
use Rattle.ips_line.specs.declared.fault.Part.{Part}
use Rattle.ips_line.specs.declared.fault.Part.TheVariants as part
use Rattle.ips_line.specs.declared.fault.WordFault.{WordFault}
use Rattle.ips_line.specs.declared.fault.WordFault.TheVariants.{BadWord, OpenQuote}
use Rattle.ips_line.specs.Line.{is_blank, is_quote, in_word, in_payload, in_key, is_escape, Written, Plain, Quoted, Payload, Attribute, Line, Said, pair_of, words_of}

-- there are no bytes
abbrev pub is_none : List ℕ → Bool
is_none [] = true
is_none (b ∷ bytes) = false

-- a word goes wrong where these bytes are left
abbrev pub wrong_at : List ℕ → Stop Part
wrong_at bytes = record { kind = part.Word; left = length bytes }

-- the longest run of bytes that pass, of which there is at least one
unfoldable pub some_at : (ℕ → Bool) → Reader Part (List ℕ)
some_at passes [] = Err (wrong_at [])
some_at passes (b ∷ bytes) = if passes b then Ok (b ∷ (run passes bytes).0, (run passes bytes).1) else Err (wrong_at (b ∷ bytes))

-- an `=`, which has to stand here
unfoldable pub equals_at : Reader Part (Unit {0})
equals_at [] = Err (wrong_at [])
equals_at (b ∷ bytes) = if b == 61 then Ok (tt, bytes) else Err (wrong_at (b ∷ bytes))

-- the same, with these bytes at its front
abbrev pub into_front : List ℕ → Option (List ℕ × List ℕ) → Option (List ℕ × List ℕ)
into_front front None = None
into_front front (Some x) = Some (front ++ x.0, x.1)

-- the first two bytes are an escape between such quotes
abbrev pub begins_escape : ℕ → List ℕ → Bool
begins_escape quote [] = false
begins_escape quote (b ∷ []) = false
begins_escape quote (b ∷ c ∷ bytes) = is_escape quote b c

-- what stands before the quote that closes, and what stands behind it
unfoldable pub closing : ℕ → List ℕ → Option (List ℕ × List ℕ)
closing quote [] = None
closing quote (b ∷ []) = if b == quote then Some ([], []) else None
closing quote (b ∷ c ∷ bytes) =
    if is_escape quote b c
    then into_front (b ∷ c ∷ []) (closing quote bytes)
    else (if b == quote
    then Some ([], c ∷ bytes)
    else into_front (b ∷ []) (closing quote (c ∷ bytes)))

-- a value between quotes, of which the first stands where this many bytes are left; where none closes, that place is kept
abbrev pub closed : ℕ → ℕ → Option (List ℕ × List ℕ) → Result (Written × List ℕ) (Stop Part)
closed quote left None = Err (record { kind = part.Quote left; left = 0 })
closed quote left (Some x) = Ok (Quoted quote x.0, x.1)

-- the next byte is a quote
abbrev pub begins_quote : List ℕ → Bool
begins_quote [] = false
begins_quote (b ∷ bytes) = is_quote b

-- a value as it stands
abbrev pub plain_at : Reader Part Written
plain_at = via (λ w. Plain w) (some_at in_word)

-- a value as it is written
unfoldable pub written_at : Reader Part Written
written_at [] = plain_at []
written_at (b ∷ bytes) = if is_quote b then closed b (length (b ∷ bytes)) (closing b bytes) else plain_at (b ∷ bytes)

-- blanks, a key, `=` and a value
abbrev pub made : List ℕ × (List ℕ × (Unit {0} × Written)) → Attribute
made p = record { gap = p.0; key = p.1.0; value = p.1.1.1 }

-- a `key=value` and the blanks before it
unfoldable pub attribute_at : Reader Part Attribute
attribute_at = via made (both (some_at is_blank) (both (some_at in_key) (both equals_at written_at)))

-- at most so many `key=value`, up to the blanks at the end of the text
unfoldable pub attributes_within : ℕ → Reader Part (List Attribute)
attributes_within zero bytes = Ok ([], bytes)
attributes_within (suc count) bytes =
    if list_all is_blank bytes
    then Ok ([], bytes)
    else (attribute_at bytes >>= λ a. attributes_within count a.1 >>= λ others. Ok (a.0 ∷ others.0, others.1))

-- each `key=value`, up to the blanks at the end of the text
abbrev pub attributes_at : Reader Part (List Attribute)
attributes_at bytes = attributes_within (suc (length bytes)) bytes

-- what the attributes that were read say
abbrev pub said_pairs : Result (List Attribute × List ℕ) (Stop Part) → Result (List Pair) (Stop Part)
said_pairs (Ok x) = Ok (map pair_of x.0)
said_pairs (Err s) = Err s

-- the bytes are a key
abbrev pub is_key : List ℕ → Bool
is_key word = not (is_none word) && list_all in_key word

-- what the run behind the blanks is: behind `=` not a payload word but a key, which is wrong at the `=` where it is none
abbrev pub payload_from : List ℕ → List ℕ → List ℕ × List ℕ → Result (Option Payload × List ℕ) (Stop Part)
payload_from bytes gap x =
    if is_none gap
    then Ok (None, bytes)
    else (if next_is 61 x.1
    then (if is_key x.0 then Ok (None, bytes) else Err (wrong_at x.1))
    else (if is_none x.0 then Ok (None, bytes) else Ok (Some (record { gap = gap; word = x.0 }), x.1)))

-- a payload word and the blanks before it, where the next word is one
unfoldable pub payload_at : Reader Part (Option Payload)
payload_at bytes = payload_from bytes (run is_blank bytes).0 (run in_payload (run is_blank bytes).1)

-- a line that is all of the text: blanks, the name, a payload word or none, each `key=value`, and the blanks at the end
unfoldable pub read_line : List ℕ → Result Line (Stop Part)
read_line text = do
  name ← some_at in_word (run is_blank text).1
  payload ← payload_at name.1
  attributes ← attributes_at payload.1
  Ok (record { before = (run is_blank text).0; name = name.0; payload = payload.0; attributes = attributes.0; behind = attributes.1 })

-- what a line that was read says
abbrev pub said_line : Result Line (Stop Part) → Result Said (Stop Part)
said_line (Ok line) = Ok (words_of line)
said_line (Err s) = Err s

-- ---- faults

-- how many bytes were left before the quote that isn't closed, or none
abbrev pub opened : Part → ℕ
opened part.Word = 0
opened (part.Quote left) = left

-- the fault of a text of so many bytes where reading stopped at this part, with so many bytes left
abbrev pub fault_of : ℕ → Part → ℕ → WordFault
fault_of size part.Word left = BadWord (size - left)
fault_of size (part.Quote before) left = OpenQuote (size - before)

-- what a line that was read says, or the fault of the text
abbrev pub placed : List ℕ → Result Line (Stop Part) → Result Said WordFault
placed text (Ok line) = Ok (words_of line)
placed text (Err s) = Err (fault_of (length text) s.kind s.left)

-- what a text says, or the fault that it has
unfoldable pub read_words : List ℕ → Result Said WordFault
read_words text = placed text (read_line text)
