use Rattle.std.proofs.Common.{◌≡◌, length}
use Rattle.ips_syntax.specs.Reading.{verb_in}
use Rattle.ips_syntax.proofs.lines.verb_of.Given as goal

abbrev pub invariant-loop-rest : goal.invariant-loop-rest
invariant-loop-rest l = verb_in l.rest l.word ≡ verb_in l.verbs l.word

abbrev pub decreases-loop-rest : goal.decreases-loop-rest
decreases-loop-rest l = length l.rest
