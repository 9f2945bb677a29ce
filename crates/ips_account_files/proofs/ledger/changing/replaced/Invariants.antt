use Rattle.std.proofs.Common.{◌≡◌, length, map, take}
use Rattle.ips_outside.specs.Image.{Image}
use Rattle.ips_after.specs.Change.{replaces}
use Rattle.ips_after.specs.Request.{Request}
use Rattle.ips_links.proofs.Linked.{at_path}
use Rattle.ips_emptied.specs.Joining.{SettlesRows}
use Rattle.ips_account_files.specs.ledger.Left.{IsSilent, changes_by}
use Rattle.ips_account_files.proofs.ledger.changing.replaced.Given as goal

abbrev pub invariant-loop-i : goal.invariant-loop-i
invariant-loop-i l = record {
  long : length l.marks.items ≡ l.i;
  so_far : (r : Request) (t : Image) → IsSilent r → SettlesRows r t l.rows l.settled
      → l.marks.items ≡ map (at_path (λ q. replaces (changes_by r t l.rows l.settled q))) (take l.i l.rows);
}
