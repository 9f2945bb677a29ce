use Rattle.std.proofs.Common.{◌≡◌, length}
use Rattle.ips_words.specs.Meaning.{value_of}
use Rattle.ips_words.proofs.gather.value_of.Given as goal

abbrev pub invariant-loop-rest : goal.invariant-loop-rest
invariant-loop-rest l = value_of l.role l.rest ≡ value_of l.role l.given

abbrev pub decreases-loop-rest : goal.decreases-loop-rest
decreases-loop-rest l = length l.rest
