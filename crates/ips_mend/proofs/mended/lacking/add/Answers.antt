use Rattle.std.proofs.Common.{◌&&◌, ◌∙◌}
use Rattle.ips_after.specs.After.{leads_to}
use Rattle.ips_after.specs.Change.{makes}
use Rattle.ips_change.specs.Told.{change_told}
use Rattle.ips_change.specs.survey.Marks.{row_paths}
use Rattle.ips_change.specs.survey.Rows.{row_pair}
use Rattle.ips_links.proofs.Led.{mark_led}
use Rattle.ips_mend.proofs.mended.lacking.add.Goals as goal

pub returns-in-Some : goal.returns-in-Some
returns-in-Some c = λ bytes test is.
    c.mark.ensures test is
    ∙ mark_led test (λ p. leads_to p (row_pair c.args.row.now).wanted && makes (change_told bytes c.args.own)) c.bytes.result.now c.in-Some.to.now.bytes (row_paths c.args.rows.now) c.bytes.ensures.value (λ p. c.in-Some.ensures bytes p)
