use Rattle.std.proofs.Common.{◌≡◌, length}
use Rattle.ips_syntax.specs.Reading.{role_in}
use Rattle.ips_syntax.proofs.lines.role_in.Given as goal

abbrev pub invariant-loop-rest : goal.invariant-loop-rest
invariant-loop-rest l = role_in l.rest l.word ≡ role_in l.roles l.word

abbrev pub decreases-loop-rest : goal.decreases-loop-rest
decreases-loop-rest l = length l.rest
