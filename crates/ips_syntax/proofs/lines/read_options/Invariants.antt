use Rattle.std.proofs.Common.{◌≡◌, map, string_bytes, length}
use Rattle.ips_syntax.specs.Reading.{options_at}
use Rattle.ips_syntax.proofs.lines.read_options.Given as goal

abbrev pub invariant-loop-word : goal.invariant-loop-word
invariant-loop-word l = options_at l.verb l.given.items (map string_bytes l.rest) ≡ options_at l.verb l.initial.given.items (map string_bytes l.words)

abbrev pub decreases-loop-word : goal.decreases-loop-word
decreases-loop-word l = length l.rest
