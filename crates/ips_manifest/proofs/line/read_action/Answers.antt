use Rattle.std.proofs.Common.{refl, sym, ◌∙◌}
use Rattle.ips_manifest.proofs.Judged.{some_read, none_read}
use Rattle.ips_manifest.proofs.line.read_action.Goals as goal

pub returns-in-Ok-clause-only : goal.returns-in-Ok-clause-only
returns-in-Ok-clause-only c = λ action skipped means. some_read action c.in-Ok.action (c.in-Ok.ensures.only action means)

pub returns-in-Err-Bad-clause-only : goal.returns-in-Err-Bad-clause-only
returns-in-Err-Bad-clause-only c = λ action skipped means. absurd (none_read action c.in-Err-Bad.fault (rw c.in-Err-Bad.field-0-is at (c.in-Err-Bad.ensures.only action means)))

pub returns-in-Err-Bad-clause-bad : goal.returns-in-Err-Bad-clause-bad
returns-in-Err-Bad-clause-bad c = (
  sym c.is_skipped.ensures ∙ c.if-is_skipped.false,
  refl,
  (rw c.in-Err-Bad.field-0-is at c.in-Err-Bad.ensures.first, λ action means. none_read action c.in-Err-Bad.fault (rw c.in-Err-Bad.field-0-is at (c.in-Err-Bad.ensures.only action means))),
)
