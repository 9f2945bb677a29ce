use Rattle.std.proofs.Common.{◌≡◌, ℕ, IsTrue, List, map, take, length}
use Rattle.ips_outside.specs.Outside.{Reads}
use Rattle.ips_after.specs.Change.{reached}
use Rattle.ips_conflict.specs.Index.{has_path}
use Rattle.ips_due.specs.Due.{Due, record_at}
use Rattle.ips_due.specs.outstanding.Noted.{Adds, AreMarked, record_said}
use Rattle.ips_due.proofs.outstanding.Meant.{kept_path}
use Rattle.ips_due.proofs.outstanding.filling.add_records.Given as goal

abbrev pub invariant-loop-number : goal.invariant-loop-number
invariant-loop-number g l = record {
  marked : AreMarked l.notes;
  room : length l.buffer ≡ length l.fn.buffer;
  reads : Reads g.S.Source.outside l.fn.source l.source ⊥;
  so_far : IsTrue (g.S.Source.outside.tells l.fn.source) → (bytes : List ℕ → List ℕ) (due : Due) → due.records ≡ g.R.Records.records l.records
      → Adds bytes due l.fn.notes l.notes (map kept_path (take l.number (g.R.Records.records l.records))) (λ q. record_said bytes (record_at due.records q) (reached (has_path l.going) q) ((g.S.Source.outside.state l.fn.source).held.look q));
}
