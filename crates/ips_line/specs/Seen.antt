-- The words of the program, as the definitions see them.
use Rattle.std.specs.Prelude.{◌≡◌, ◌+◌, ◌<◌, ◌^◌, length, true, Option, Some, None, ℕ}
use Rattle.ips_line.specs.declared.words.Word.{Word}
use Rattle.ips_line.specs.declared.words.Words.{Words}
use Rattle.ips_line.specs.declared.attributes.Attribute as declared_attribute
use Rattle.ips_line.specs.declared.payload.Payload as declared_payload
use Rattle.ips_line.specs.declared.values.Written as declared
use Rattle.ips_line.specs.declared.values.Written.TheVariants as value
use Rattle.ips_line.specs.Line.{is_quote, Placed, Said, Written, Plain, Quoted, Attribute, Payload}

-- a word, without where it lies in memory
abbrev pub seen_word : Word → Placed
seen_word w = record { text = w.text.now; place = w.place }

-- the same of a word or none
abbrev pub seen_payload : Option Word → Option Placed
seen_payload None = None
seen_payload (Some w) = Some (seen_word w)

-- what the words say
abbrev pub seen : Words → Said
seen w = record { name = seen_word w.name; payload = seen_payload w.payload; pairs = w.pairs.items }

-- a written value, without where it lies in memory
abbrev pub seen_written : declared.Written → Written
seen_written (value.Plain word) = Plain word.now
seen_written (value.Quoted quote inside) = Quoted quote inside.now

-- what stands around a value is a quote
abbrev pub HasQuote : Written → Type 0
HasQuote (Plain word) = Unit {0}
HasQuote (Quoted quote inside) = is_quote quote ≡ true

-- an attribute, without where it lies in memory
abbrev pub seen_attribute : declared_attribute.Attribute → Attribute
seen_attribute a = record { gap = a.gap.now; key = a.key.now; value = seen_written a.value }

-- a payload word and the blanks before it, or none, without where they lie in memory
abbrev pub seen_gapped : Option declared_payload.Payload → Option Payload
seen_gapped None = None
seen_gapped (Some p) = Some (record { gap = p.gap.now; word = p.word.now })

-- the blanks before a payload word, where there is one, end at a byte that can be counted
abbrev pub FitsBehind : ℕ → Option Payload → Type 0
FitsBehind place None = Unit {0}
FitsBehind place (Some p) = place + length p.gap < 2 ^ 64
