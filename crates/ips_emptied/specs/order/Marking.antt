-- The places of rows in the order of a plan, by marks that stand beside them.
use Rattle.std.specs.Prelude.{◌≡◌, ℕ, List, ◌++◌, length, map}
use Rattle.ips_outside.specs.Image.{Image}
use Rattle.ips_after.specs.After.{is_support}
use Rattle.ips_after.specs.Request.{Request}
use Rattle.ips_change.specs.Told.{naming}
use Rattle.ips_change.specs.survey.Marks.{row_paths}
use Rattle.ips_change.specs.survey.Tables.{IsTable}
use Rattle.ips_emptied.specs.declared.order.group.Group.{Group}
use Rattle.ips_emptied.specs.declared.order.group.Group.TheVariants.{Gone, OldDirs, OldOthers, NewDirs, NewOthers, Accounts, Hards, Records}
use Rattle.ips_emptied.specs.declared.order.ordering.Marked.{Marked}
use Rattle.ips_emptied.specs.order.Chosen.{chosen, turned_places}
use Rattle.ips_emptied.specs.order.Groups.{group_at, lays_below}

-- There is a mark of each kind for each row.
pub record AreAsLong (m : Marked) : Type 0 where
  pub said : length m.table.now.said.items ≡ length m.table.now.rows.items
  pub supports : length m.supports.now ≡ length m.table.now.rows.items
  pub accounts : length m.accounts.now ≡ length m.table.now.rows.items
  pub above : length m.above.now ≡ length m.table.now.rows.items

-- The table and its marks are those of a request over an image.
pub record AreMarks (r : Request) (t : Image) (m : Marked) : Type 0 where
  pub table : IsTable r m.table.now.rows.items m.table.now.said.items
  pub supports : m.supports.now ≡ map (is_support (naming r) t) (row_paths m.table.now.rows.items)
  pub accounts : m.accounts.now ≡ map r.over.is_account (row_paths m.table.now.rows.items)
  pub above : m.above.now ≡ map (lays_below r) (row_paths m.table.now.rows.items)

-- The places of the paths that are in a group.
abbrev pub places_in : Request → Image → List (List ℕ) → Group → List ℕ
places_in r t paths group = chosen 0 (map (group_at r t group) paths)

-- The places of paths in the order of a plan: group by group, of which the first goes from its last path on.
abbrev pub ordered_places : Request → Image → List (List ℕ) → List ℕ
ordered_places r t paths = turned_places (places_in r t paths Gone) ++ places_in r t paths OldDirs ++ places_in r t paths OldOthers ++ places_in r t paths NewDirs ++ places_in r t paths NewOthers ++ places_in r t paths Accounts ++ places_in r t paths Hards ++ places_in r t paths Records
