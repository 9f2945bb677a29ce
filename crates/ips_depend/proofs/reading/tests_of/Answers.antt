use Rattle.std.proofs.Common.{ℕ}
use Rattle.std.proofs.lemmas.Result.{err_from_is_err_and}
use Rattle.ips_depend.proofs.Lines.{lines_added, bad_told}
use Rattle.ips_depend.proofs.reading.tests_of.Goals as goal

pub returns-in_err-add-clause-bad : goal.returns-in_err-add-clause-bad
returns-in_err-add-clause-bad c =
    let p = err_from_is_err_and c.from_residual.result c.from_residual.ensures.1 in
    rw (p.1, p.2)
    (bad_told ℕ ℕ c.in_err-add.field-0.0 c.args.settings.now c.deref-line-items.result.now c.args.manifest.now.lines.items c.loop-line.line-index c.line-item.result c.loop-line.tests.items c.deref-line-items.ensures.value c.loop-line-test.true c.line-item.is c.loop-line.invariant c.in_err-add.ensures.bad)

pub loop-line-preserved : goal.loop-line-preserved
loop-line-preserved c =
    lines_added c.args.settings.now c.deref-line-items.result.now c.args.manifest.now.lines.items c.loop-line.line-index c.line-item.result c.loop-line.tests.items c.add.new.tests.items c.deref-line-items.ensures.value c.loop-line-test.true c.line-item.is c.loop-line.invariant c.in_ok-add.ensures.asked
