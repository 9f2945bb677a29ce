use Rattle.std.proofs.Common.{◌≡◌, length}
use Rattle.ips_words.specs.Meaning.{sticky_of}
use Rattle.ips_words.proofs.gather.sticky.Given as goal

abbrev pub invariant-loop-rest : goal.invariant-loop-rest
invariant-loop-rest l = sticky_of l.rest ≡ sticky_of l.given

abbrev pub decreases-loop-rest : goal.decreases-loop-rest
decreases-loop-rest l = length l.rest
