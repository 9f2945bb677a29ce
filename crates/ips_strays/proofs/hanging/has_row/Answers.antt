use Rattle.std.proofs.Common.{◌∙◌, ap}
use Rattle.ips_after.specs.Lists.{listed}
use Rattle.ips_change.specs.survey.Marks.{row_paths}
use Rattle.ips_strays.proofs.Rowed.{found_listed}
use Rattle.ips_strays.proofs.hanging.has_row.Goals as goal

pub returns : goal.returns
returns c = c.is_some.ensures ∙ found_listed (row_paths c.args.rows.now) c.bytes.result.now c.place.result c.place.ensures.some c.place.ensures.none ∙ ap (listed (row_paths c.args.rows.now)) c.bytes.ensures.value
