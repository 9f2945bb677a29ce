-- What an image holds of its lists.
use Rattle.std.specs.Prelude.{◌≡◌, map}
use Rattle.std.specs.List.{AllByRecursion}
use Rattle.ips_outside.specs.Image.{Image}
use Rattle.ips_records.specs.Form.{IsRequestLine}
use Rattle.ips_records.specs.Lines.{lines_text}
use Rattle.ips_state.specs.Text.{name_lines, mediator_line}
use Rattle.ips_state.specs.Lawful.{AreStems, AreVersioned, AreMediators}
use Rattle.ips_state.specs.Records.{avoid_path, freeze_path, mediators_path, history_path}
use Rattle.ips_load.specs.Held.{Stands}
use Rattle.ips_image.specs.declared.lists.Lists.{Lists}
use Rattle.ips_image.specs.declared.lists.Places.{Places}

-- The lists are such that the grammars of their files have texts for them.
pub record AreLists (l : Lists) : Type 0 where
  pub avoid : AreStems l.avoid.items
  pub freeze : AreVersioned l.freeze.items
  pub mediators : AreMediators l.mediators.items
  pub history : AllByRecursion IsRequestLine l.history.items

-- The lists stand in their files.
pub record HoldsLists (t : Image) (l : Lists) : Type 0 where
  pub avoid : Stands t avoid_path (lines_text l.avoid.items)
  pub freeze : Stands t freeze_path (lines_text (name_lines l.freeze.items))
  pub mediators : Stands t mediators_path (lines_text (map mediator_line l.mediators.items))
  pub history : Stands t history_path (lines_text l.history.items)

-- These are the paths of the lists.
pub record ArePlaces (p : Places) : Type 0 where
  pub avoid : p.avoid.bytes ≡ avoid_path
  pub freeze : p.freeze.bytes ≡ freeze_path
  pub mediators : p.mediators.bytes ≡ mediators_path
  pub history : p.history.bytes ≡ history_path
