-- The steps of a table's rows in the order of a plan.
use Rattle.std.specs.Prelude.{◌≡◌, ℕ, List, ◌++◌, map, Option}
use Rattle.ips_outside.specs.Image.{Image}
use Rattle.ips_after.specs.Planned.{plan_order}
use Rattle.ips_after.specs.Request.{Request}
use Rattle.ips_change.specs.Told.{naming}
use Rattle.ips_change.specs.declared.survey.table.Table.{Table}
use Rattle.ips_change.specs.survey.Marks.{row_paths}
use Rattle.ips_laying.specs.Laying.{Laid}
use Rattle.ips_emptied.specs.order.Chosen.{path_in}
use Rattle.ips_emit.specs.Emitted.{IsEmitted, Provenance, Turn}
use Rattle.ips_emit.specs.declared.emitting.Emitted.{Emitted}
use Rattle.ips_image_steps.specs.draft.Drafting.{provenances_in, turns_of}
use Rattle.ips_emptied.specs.Emptying.{marked_in}
use Rattle.ips_emptied.specs.declared.settled.Settled.{Settled}

-- Behind these paths with what becomes of each come those of the plan in its order, which are the rows at these places; each content comes from where what is
-- said of its row, or else becomes of it, has it.
pub record AddsPlan (r : Request) (t : Image) (table : Table) (settled : Settled) (laid : List ℕ → Option Laid) (turns : List Turn) (provenances : List Provenance) (new : Emitted) : Type 0 where
  pub places : List ℕ
  pub are : map (path_in (row_paths table.rows.items)) places ≡ plan_order (naming r) t
  pub steps : IsEmitted r.bytes t (turns ++ turns_of r t (marked_in (row_paths table.rows.items) settled.emptied.items) (plan_order (naming r) t))
      (provenances ++ provenances_in laid (row_paths table.rows.items) table.said.items settled.changes.items settled.emptied.items places) new
