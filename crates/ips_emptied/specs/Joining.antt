-- What becomes of the rows of a table, behind a request over an image.
use Rattle.std.specs.Prelude.{◌≡◌, List, length, map}
use Rattle.ips_outside.specs.Image.{Image}
use Rattle.ips_after.specs.After.{IsEmptied, is_support, supported}
use Rattle.ips_after.specs.Request.{Request}
use Rattle.ips_change.specs.Told.{change_told, naming}
use Rattle.ips_change.specs.declared.survey.row.Row.{Row}
use Rattle.ips_change.specs.survey.Marks.{IsMarkOf, row_paths}
use Rattle.ips_links.specs.Fitting.{AllFit, FitsSupported}
use Rattle.ips_emptied.specs.Emptying.{marked_in}
use Rattle.ips_emptied.specs.declared.settled.Settled.{Settled}

-- There is a change and a mark of each kind for each row; each change fits what is wanted there, and no path without a row is emptied.
pub record HasAll (rows : List Row) (s : Settled) : Type 0 where
  pub changes : length s.changes.items ≡ length rows
  pub supports : length s.supports.items ≡ length rows
  pub emptied : length s.emptied.items ≡ length rows
  pub fits : AllFit FitsSupported rows s.changes.items
  pub marks : IsMarkOf (marked_in (row_paths rows) s.emptied.items) (row_paths rows) s.emptied.items

-- What becomes of each row is what the request makes of it over the image.
pub record SettlesRows (r : Request) (t : Image) (rows : List Row) (s : Settled) : Type 0 where
  pub changes : map (change_told r.bytes) s.changes.items ≡ map (supported (naming r) t) (row_paths rows)
  pub supports : s.supports.items ≡ map (is_support (naming r) t) (row_paths rows)
  pub emptied : IsEmptied (naming r) t (marked_in (row_paths rows) s.emptied.items)
