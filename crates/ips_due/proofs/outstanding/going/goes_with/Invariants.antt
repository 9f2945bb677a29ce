use Rattle.std.proofs.Common.{◌≡◌, ℕ, List, true, length}
use Rattle.ips_text.specs.Ancestry.{covers, is_below}
use Rattle.ips_conflict.specs.Index.{has_path}
use Rattle.ips_due.proofs.outstanding.going.goes_with.Given as goal

abbrev pub invariant-loop-dir : goal.invariant-loop-dir
invariant-loop-dir l = record {
  over : covers l.at l.path ≡ true;
  above : (p : List ℕ) → covers p l.path ≡ true → has_path l.going p ≡ true → is_below p l.at ≡ true;
}

abbrev pub decreases-loop-dir : goal.decreases-loop-dir
decreases-loop-dir l = length l.at
