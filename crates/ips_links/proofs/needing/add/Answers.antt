use Rattle.std.proofs.Common.{◌∙◌}
use Rattle.ips_change.specs.survey.Marks.{row_paths}
use Rattle.ips_links.proofs.Led.{leads_at, mark_led}
use Rattle.ips_links.proofs.needing.add.Goals as goal

pub returns-in-Some : goal.returns-in-Some
returns-in-Some c = λ r t test of looked is.
    c.mark.ensures test is
    ∙ mark_led test (leads_at r t c.args.row.now.path.now.bytes) c.bytes.result.now c.in-Some.to.now.bytes (row_paths c.args.rows.now) c.bytes.ensures.value (λ p. c.in-Some.ensures r t p of looked)
