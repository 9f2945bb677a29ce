-- What is known of a table by its request.
use Rattle.std.proofs.Common.{List, Option}
use Rattle.std.specs.List.{AllByRecursion}
use Rattle.ips_change.specs.declared.survey.row.Row.{Row}
use Rattle.ips_change.specs.declared.survey.said.Said.{Said}
use Rattle.ips_emit.specs.Emitted.{HasTarget}
use Rattle.ips_emptied.specs.declared.settled.Settled.{Settled}
use Rattle.ips_emptied.specs.Joining.{HasAll}
use Rattle.ips_image_steps.proofs.draft.Targets.{all_targets}
use Rattle.ips_image_steps.specs.Asked.{HasRequest}

-- what each symbolic link says that is made is a target
pub settled_targets : (rows : List Row) (said : List (Option Said)) (settled : Settled) → HasRequest rows said → HasAll rows settled → AllByRecursion HasTarget settled.changes.items
settled_targets rows said settled has all = all_targets has.request rows settled.changes.items has.proper has.table.entries all.changes all.fits
