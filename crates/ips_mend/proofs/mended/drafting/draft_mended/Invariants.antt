use Rattle.std.proofs.Common.{◌≡◌, ◌++◌, List, map, take}
use Rattle.ips_outside.specs.Image.{Image}
use Rattle.ips_after.specs.Repaired.{IsRepair, Repair, relinked_as}
use Rattle.ips_change.specs.wanted.Wanted.{want_of}
use Rattle.ips_change.specs.Told.{change_told}
use Rattle.ips_emptied.specs.order.Chosen.{path_in}
use Rattle.ips_emit.specs.Emitted.{IsEmitted, Provenance, Turn}
use Rattle.ips_mend.specs.mended.Drafting.{sources_in, turns_mended}
use Rattle.ips_mend.proofs.mended.drafting.draft_mended.Given as goal

abbrev pub invariant-loop-i : goal.invariant-loop-i
invariant-loop-i l = (f : Repair) (t : Image) (turns : List Turn) (provenances : List Provenance) → IsRepair f → f.want ≡ want_of l.want
    → map (change_told f.bytes) l.changes ≡ map (λ p. relinked_as f t p (f.want.at p)) f.want.keys
    → IsEmitted f.bytes t turns provenances l.fn.emitted
    → IsEmitted f.bytes t (turns ++ turns_mended f t (map (path_in (want_of l.want).keys) (take l.i l.order))) (provenances ++ sources_in l.changes (take l.i l.order)) l.emitted
