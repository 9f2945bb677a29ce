use Rattle.std.proofs.Common.{refl, sym, ◌∙◌}
use Rattle.ips_manifest.proofs.Judged.{some_read, none_read}
use Rattle.ips_manifest.proofs.draft.read_drafted.Goals as goal

pub returns-in-Ok-clause-only : goal.returns-in-Ok-clause-only
returns-in-Ok-clause-only c = λ drafted skipped means. some_read drafted c.in-Ok.drafted (c.in-Ok.ensures.only drafted.0 drafted.1 means)

pub returns-in-Err-Bad-clause-only : goal.returns-in-Err-Bad-clause-only
returns-in-Err-Bad-clause-only c = λ drafted skipped means. absurd (none_read drafted c.in-Err-Bad.fault (rw c.in-Err-Bad.field-0-is at (c.in-Err-Bad.ensures.only drafted.0 drafted.1 means)))

pub returns-in-Err-Bad-clause-bad : goal.returns-in-Err-Bad-clause-bad
returns-in-Err-Bad-clause-bad c = (
  sym c.is_skipped.ensures ∙ c.if-is_skipped.false,
  refl,
  (rw c.in-Err-Bad.field-0-is at c.in-Err-Bad.ensures.first, λ drafted means. none_read drafted c.in-Err-Bad.fault (rw c.in-Err-Bad.field-0-is at (c.in-Err-Bad.ensures.only drafted.0 drafted.1 means))),
)
