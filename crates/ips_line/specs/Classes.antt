-- The classes of bytes that runs go on with.
use Rattle.std.specs.Prelude.{ℕ, Bool}
use Rattle.ips_line.specs.declared.classes.Class.{Class}
use Rattle.ips_line.specs.declared.classes.Class.TheVariants.{Blank, Word, Payload, Key}
use Rattle.ips_line.specs.Line.{is_blank, in_word, in_payload, in_key}

-- a run of the class goes on with the byte
abbrev pub passes : Class → ℕ → Bool
passes Blank = is_blank
passes Word = in_word
passes Payload = in_payload
passes Key = in_key
