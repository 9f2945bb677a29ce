use Rattle.std.proofs.Common.{◌≡◌, fold, take}
use Rattle.ips_repo.specs.Scan.{stepped, seen}
use Rattle.ips_repo.proofs.mark.Scan.behind.Given as goal

abbrev pub invariant-loop-byte : goal.invariant-loop-byte
invariant-loop-byte l = seen l.scan ≡ fold stepped (seen l.fn.self) (take l.byte-index l.piece)
