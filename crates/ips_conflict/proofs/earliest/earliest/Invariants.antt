use Rattle.std.proofs.Common.{◌<◌, take, length}
use Rattle.std.specs.Option.{ForSome}
use Rattle.ips_conflict.specs.Search.{MeetsTest}
use Rattle.ips_conflict.proofs.Found.{FoundIn}
use Rattle.ips_conflict.proofs.earliest.earliest.Given as goal

abbrev pub invariant-loop-j : goal.invariant-loop-j
invariant-loop-j l = record {
  so_far : FoundIn l.placed (MeetsTest l.placed l.sort l.test) (take l.j-index l.members) l.found;
  within : ForSome l.found (λ i. i < length l.placed);
}
