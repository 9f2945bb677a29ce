use Rattle.ips_aside.proofs.Firsts.{first_kept, last_of}
use Rattle.ips_aside.proofs.long.first_of.Goals as goal

pub returns-in-Less : goal.returns-in-Less
returns-in-Less c = λ f g h k. last_of f g c.args.one c.args.other c.in-Some.a c.in-Some-other.b c.cmp.result c.in-Some.is c.in-Some-other.is c.cmp.ensures c.in-Less.is h k

pub returns-in_default-cmp : goal.returns-in_default-cmp
returns-in_default-cmp c = λ f g h k. first_kept f g c.args.one c.args.other c.in-Some.a c.in-Some-other.b c.cmp.result c.in-Some.is c.in-Some-other.is c.cmp.ensures c.in_default-cmp.not-Less h k
