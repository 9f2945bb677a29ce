use Rattle.std.proofs.Common.{◌≡◌, ◌≤◌, ◌-◌, IsTrue, length}
use Rattle.ips_text.specs.Ancestry.{covers}
use Rattle.ips_outside.specs.State.{nowhere}
use Rattle.ips_outside.specs.Outside.{Reads}
use Rattle.ips_folder.specs.Calls.{ChangesOnly}
use Rattle.ips_repo.specs.Payload.{IsFrontOf}
use Rattle.ips_contents.specs.Contents.{HoldsAlone}
use Rattle.ips_contents.proofs.payloads.copy_payload.Given as goal

abbrev pub invariant-loop-count : goal.invariant-loop-count
invariant-loop-count g l = record {
  named : l.payload.name ≡ l.fn.payload.name;
  placed : l.payload.place ≡ l.fn.payload.place;
  sized : l.payload.size ≡ l.fn.payload.size;
  reads : Reads g.S.Source.outside l.fn.source l.source ⊥;
  front : IsTrue (g.S.Source.outside.tells l.fn.source) → IsFrontOf (g.S.Source.outside.state l.fn.source).held l.fn.payload → IsFrontOf (g.S.Source.outside.state l.fn.source).held l.payload;
  kind : g.F.Source.outside.tells l.folder ≡ g.F.Source.outside.tells l.fn.folder;
  faults : g.F.Source.outside.faults l.folder ≡ g.F.Source.outside.faults l.fn.folder;
  changes : g.F.Source.outside.changes l.fn.folder ≤ g.F.Source.outside.changes l.folder;
  holds : IsTrue (g.F.Source.outside.tells l.fn.folder) → HoldsAlone l.path.bytes 384 l.payload.bytes (g.F.Source.outside.state l.folder).held;
  small : length l.payload.bytes ≤ l.payload.size;
  moments : IsTrue (g.F.Source.outside.tells l.fn.folder) → ChangesOnly g.F.Source.outside (covers l.path.bytes) nowhere l.fn.folder l.folder;
}

abbrev pub decreases-loop-count : goal.decreases-loop-count
decreases-loop-count g l = l.payload.size - length l.payload.bytes
