use Rattle.std.proofs.Common.{refl}
use Rattle.ips_transform.specs.Transformed.{HasPatterns}
use Rattle.ips_mogrify.proofs.Patterns.{first_bad, test_fails}
use Rattle.ips_mogrify.proofs.judging.check_patterns.Goals as goal

pub returns-then-not-branch-clause-bad : goal.returns-then-not-branch-clause-bad
returns-then-not-branch-clause-bad c =
    first_bad c.args.rules.now c.loop-line.line-index c.line-item.result c.line-item.result.number c.loop-line-test.true c.line-item.is c.loop-line.invariant refl
    (test_fails c.in_ok-has_patterns.field-0 (HasPatterns c.line-item.result.rule) c.if-not-branch.true c.in_ok-has_patterns.ensures)
