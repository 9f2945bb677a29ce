-- What symbolic links say that are made.
use Rattle.std.proofs.Common.{◌≡◌, List, [], ◌∷◌, length, sym, ◌∙◌, arith}
use Rattle.std.specs.List.{AllByRecursion}
use Rattle.ips_after.specs.Planned.{IsProperRequest}
use Rattle.ips_after.specs.Request.{Request, WantLink}
use Rattle.ips_change.specs.declared.change.Change.{Change}
use Rattle.ips_change.specs.declared.change.Change.TheVariants as told
use Rattle.ips_change.specs.declared.survey.row.Row.{Row}
use Rattle.ips_change.specs.survey.Rows.{IsRowOf, row_pair}
use Rattle.ips_links.specs.Fitting.{AllFit, FitsSupported}
use Rattle.ips_emit.specs.Emitted.{HasTarget}

target_here : (r : Request) (row : Row) (c : Change) → IsProperRequest r → IsRowOf r row → FitsSupported (row_pair row).wanted c → HasTarget c
target_here r row (told.Link target) proper of fits = (proper.news row.path.now.bytes (WantLink target.now) (sym of.1 ∙ fits)).1.0
target_here r row told.Kept proper of fits = tt
target_here r row told.Removed proper of fits = tt
target_here r row (told.Dir mode) proper of fits = tt
target_here r row (told.File payload mode) proper of fits = tt
target_here r row (told.Hard to) proper of fits = tt
target_here r row (told.Mode mode) proper of fits = tt

pub all_targets : (r : Request) (rows : List Row) (changes : List Change) → IsProperRequest r → AllByRecursion (IsRowOf r) rows → length changes ≡ length rows → AllFit FitsSupported rows changes → AllByRecursion HasTarget changes
all_targets r rows [] proper of long fit = tt
all_targets r [] (c ∷ changes) proper of long fit = absurd (omega (arith, long))
all_targets r (row ∷ rows) (c ∷ changes) proper of long fit = (target_here r row c proper of.0 fit.0, all_targets r rows changes proper of.1 (omega (arith, long)) fit.1)
