use Rattle.std.proofs.Common.{◌∙◌, sym}
use Rattle.ips_request.proofs.Lookups.{refused_at}
use Rattle.ips_request.proofs.subject.patterns_admit.Goals as goal

pub returns-then-not-pattern_admits : goal.returns-then-not-pattern_admits
returns-then-not-pattern_admits c =
    refused_at c.args.stem.now c.args.version.now c.args.named.now c.loop-naming.naming-index c.naming-item.result c.loop-naming-test.true c.naming-item.is (sym c.pattern_admits.ensures ∙ c.if-not-pattern_admits.true)
