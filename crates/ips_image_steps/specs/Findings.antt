-- What is known of an image behind each finding.
use Rattle.std.specs.Prelude.{◌≡◌, ◌++◌, ℕ, IsFalse, IsTrue, List, Option, None}
use Rattle.std.specs.List.{AllByRecursion}
use Rattle.ips_text.specs.Ancestry.{is_below}
use Rattle.ips_text.specs.Kept.{Kept}
use Rattle.ips_outside.specs.Image.{Image}
use Rattle.ips_steps.specs.Private.{records_name}
use Rattle.ips_after.specs.Lists.{listed}
use Rattle.ips_after.specs.Planned.{IsProperRequest, plan_order}
use Rattle.ips_after.specs.Request.{IsRequest, Request}
use Rattle.ips_after.specs.Salvage.{Aside, IsAsides, has_long_side, is_unmovable, salvaged, side_at}
use Rattle.ips_change.specs.Told.{naming}
use Rattle.ips_change.specs.declared.survey.row.Row.{Row}
use Rattle.ips_change.specs.declared.survey.said.Said.{Said}
use Rattle.ips_change.specs.survey.Marks.{row_paths}
use Rattle.ips_change.specs.survey.Rows.{HasLooked}
use Rattle.ips_change.specs.survey.Tables.{IsTable}
use Rattle.ips_change.specs.declared.survey.table.Table.{Table}
use Rattle.ips_emptied.specs.Emptying.{marked_in}
use Rattle.ips_emptied.specs.declared.settled.Settled.{Settled}
use Rattle.ips_emptied.specs.Joining.{SettlesRows}
use Rattle.ips_found.specs.Found.{AreThings, thing_paths}
use Rattle.ips_found.specs.declared.found.Thing.{Thing}
use Rattle.ips_aside.specs.declared.sides.side.Side.{Side}
use Rattle.ips_aside.specs.sides.Sides.{AreSides}
use Rattle.ips_aside.specs.declared.ways.Ways.{Ways}
use Rattle.ips_aside.specs.declared.lost.LostName.{LostName}
use Rattle.ips_aside.specs.Lost.{AreNamesOf}
use Rattle.ips_aside.specs.Ways.{is_way}
use Rattle.ips_movable.specs.First.{IsFirstPath}
use Rattle.ips_emit.specs.declared.emitting.Emitted.{Emitted}
use Rattle.ips_emit.specs.Emitted.{IsEmitted, Provenance}
use Rattle.ips_image_steps.specs.draft.Drafting.{turns_of, turns_saving}
use Rattle.ips_image_steps.specs.Sources.{HasSources}

-- The rows know what stands, and what becomes of each is what a request of the table makes of it.
pub record IsSettled (t : Image) (rows : List Row) (said : List (Option Said)) (settled : Settled) : Type 0 where
  pub looked : AllByRecursion (HasLooked t) rows
  pub settles : (r : Request) → IsRequest r → IsTable r rows said → SettlesRows r t rows settled

-- Just what is salvaged are the things, with what stands at their paths.
pub record AreSaved (t : Image) (rows : List Row) (said : List (Option Said)) (things : List Thing) : Type 0 where
  pub listed_just : (r : Request) → IsRequest r → IsTable r rows said → (q : List ℕ) → listed (thing_paths things) q ≡ salvaged (naming r) t q
  pub found : AreThings t things

-- Just these files are put beside the rows' paths.
abbrev pub AreFiles : Image → List Row → List (Option Said) → List Side → Type 0
AreFiles t rows said sides = (r : Request) → IsProperRequest r → IsTable r rows said → AreSides (naming r) t (row_paths rows) sides

-- The path is the first at which a request of the table can't be carried out, with the salvage of these names in this folder; or there is none.
abbrev pub FirstHindered : Image → List Row → List (Option Said) → Settled → List (List ℕ) → List Side → List ℕ → List LostName → Option Kept → Type 0
FirstHindered t rows said settled things sides root names hindrance = (r : Request) (a : Aside) → IsRequest r → IsTable r rows said → a.root ≡ root → a.emptied ≡ marked_in (row_paths rows) settled.emptied.items
    → AreNamesOf (naming r) t a things sides names → IsFirstPath (is_unmovable (naming r) t a) hindrance

-- All that was found is what the request makes of the image, with this salvage, whose folder lies in that of the records, and no name beside a path is too long.
pub record AreFound (r : Request) (t : Image) (a : Aside) (table : Table) (settled : Settled) (things : List Thing) (sides : List Side) (names : List LostName) (ways : Ways) : Type 0 where
  pub settles : SettlesRows r t table.rows.items settled
  pub found : AreThings t things
  pub are : AreNamesOf (naming r) t a (thing_paths things) sides names
  pub ways_are : (q : List ℕ) → a.ways q ≡ is_way ways q
  pub short : (p : List ℕ) → IsFalse (has_long_side (naming r) t a p (side_at (naming r) t p))
  pub bare : (q : List ℕ) → IsTrue (is_below records_name q) → r.new.at q ≡ None
  pub under : IsTrue (is_below records_name a.root)

-- The steps are those of what is saved, and behind them those of the plan, and their contents come from where they should.
pub record AddsAll (r : Request) (t : Image) (a : Aside) (table : Table) (settled : Settled) (new : Emitted) : Type 0 where
  pub asides : List (List ℕ)
  pub are_asides : IsAsides (naming r) t a asides
  pub provenances : List Provenance
  pub steps : IsEmitted r.bytes t (turns_saving r t a asides ++ turns_of r t (marked_in (row_paths table.rows.items) settled.emptied.items) (plan_order (naming r) t)) provenances new
  pub sources : HasSources r t a asides provenances
