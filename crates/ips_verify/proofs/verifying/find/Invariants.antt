use Rattle.std.proofs.Common.{◌≡◌, ◌<◌, ◌++◌, IsTrue, length, map, take}
use Rattle.ips_outside.specs.Outside.{Reads}
use Rattle.ips_after.specs.Findings as after
use Rattle.ips_change.specs.wanted.Wanted.{want_of}
use Rattle.ips_change.specs.wanted.Named.{is_payload_of}
use Rattle.ips_verify.specs.Verified.{finding_told}
use Rattle.ips_verify.proofs.verifying.find.Given as goal

abbrev pub invariant-loop-i : goal.invariant-loop-i
invariant-loop-i g l = record {
  room : 0 < length l.buffer;
  reads : Reads g.F.Source.outside l.fn.folder l.folder ⊥;
  found : IsTrue (g.F.Source.outside.tells l.fn.folder) → map finding_told l.found.items
      ≡ map finding_told l.fn.found.items ++ after.findings_at is_payload_of (want_of l.want) (g.F.Source.outside.state l.fn.folder).held (map (λ e. e.0) (take l.i l.want));
}
