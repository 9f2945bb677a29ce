use Rattle.std.proofs.Common.{◌≡◌, ℕ, true, List, take}
use Rattle.ips_rehearse.specs.Going.{is_under}
use Rattle.ips_rehearse.proofs.standing.push_all.Given as goal

abbrev pub invariant-loop-path : goal.invariant-loop-path
invariant-loop-path l = record {
  left : (d : List ℕ) → is_under l.fn.left.items d ≡ true → is_under l.left.items d ≡ true;
  paths : (d : List ℕ) → is_under (take l.path-index l.paths) d ≡ true → is_under l.left.items d ≡ true;
}
