-- The words of the program, as the definitions see them.
use Rattle.ips_line.specs.Seen.{seen_written}
use Rattle.ips_rule.specs.Rules.{Word, Value, Keyed}
use Rattle.ips_rules.specs.declared.terms.Term.{Term}
use Rattle.ips_rules.specs.declared.terms.Term.TheVariants as term

-- a word, without where it lies in memory
abbrev pub seen_term : Term → Word
seen_term (term.Value value) = Value (seen_written value)
seen_term (term.Keyed key quote inside) = Keyed key.now quote inside.now
