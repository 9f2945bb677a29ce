-- What account files and records take away, by what is said.
use Rattle.std.proofs.Common.{◌≡◌, List, Option, Some, None, map, refl}
use Rattle.ips_outside.specs.Image.{Entry}
use Rattle.ips_after.specs.Request.{Request, takes}
use Rattle.ips_change.specs.declared.survey.row.Row.{Row}
use Rattle.ips_change.specs.survey.Marks.{IsMarkOf, row_paths}
use Rattle.ips_change.specs.declared.survey.said.Said.{Said}
use Rattle.ips_change.specs.survey.Said.{said_as}
use Rattle.ips_change.specs.survey.Tables.{IsTable}
use Rattle.ips_change.proofs.survey.Marked.{said_marked}
use Rattle.ips_salvage.specs.Destroying.{says_taken}

is_away : (o : Option (Option Entry)) → says_taken (said_as o) ≡ takes o
is_away None = refl
is_away (Some None) = refl
is_away (Some (Some e)) = refl

pub away_marked : (r : Request) (rows : List Row) (said : List (Option Said)) → IsTable r rows said → IsMarkOf (λ q. takes (r.over.at q)) (row_paths rows) (map says_taken said)
away_marked = said_marked takes says_taken refl is_away
