use Rattle.std.proofs.Common.{◌≡◌, ◌++◌, ℕ, Bool, List, map, take}
use Rattle.ips_outside.specs.Image.{Image}
use Rattle.ips_after.specs.After.{supported}
use Rattle.ips_after.specs.Request.{Request}
use Rattle.ips_change.specs.Told.{change_told, naming}
use Rattle.ips_change.specs.survey.Marks.{row_paths}
use Rattle.ips_change.specs.survey.Tables.{IsTable}
use Rattle.ips_laying.specs.Laying.{LaysFor}
use Rattle.ips_emptied.specs.order.Chosen.{path_in}
use Rattle.ips_emit.specs.Emitted.{IsEmitted, Provenance, Turn}
use Rattle.ips_image_steps.specs.draft.Drafting.{provenances_in, turns_of}
use Rattle.ips_image_steps.proofs.draft.drafting.draft.Given as goal

abbrev pub invariant-loop-i : goal.invariant-loop-i
invariant-loop-i g l = (r : Request) (t : Image) (e : List ℕ → Bool) (turns : List Turn) (provenances : List Provenance)
    → IsTable r l.table.rows.items l.table.said.items → LaysFor r.bytes (g.L.Laying.laid l.laying) r.over
    → map (change_told r.bytes) l.changes ≡ map (supported (naming r) t) (row_paths l.table.rows.items)
    → l.emptied ≡ map e (row_paths l.table.rows.items)
    → IsEmitted r.bytes t turns provenances l.fn.emitted
    → IsEmitted r.bytes t (turns ++ turns_of r t e (map (path_in (row_paths l.table.rows.items)) (take l.i l.order)))
    (provenances ++ provenances_in (g.L.Laying.laid l.laying) (row_paths l.table.rows.items) l.table.said.items l.changes l.emptied (take l.i l.order)) l.emitted
