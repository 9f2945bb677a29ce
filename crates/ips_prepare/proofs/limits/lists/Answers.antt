use Rattle.std.proofs.Common.{sym, arith}
use Rattle.ips_prepare.proofs.Sizes.{listed_at, passed_by}
use Rattle.ips_prepare.proofs.limits.lists.Goals as goal

pub returns-then-eq : goal.returns-then-eq
returns-then-eq c = sym (listed_at c.args.stem.now c.args.catalog.now c.loop-place.place c.in-Some.found.now (omega (arith, c.loop-place-test.true, c.stems-place-end.ensures.number)) c.in-Some.ensures (sym c.if-eq.ensures))

pub loop-place-preserved : goal.loop-place-preserved
loop-place-preserved c =
    passed_by c.args.stem.now c.args.catalog.now c.loop-place.place c.in-Some.found.now (omega (arith, c.loop-place-test.true, c.stems-place-end.ensures.number)) c.in-Some.ensures (sym c.if-eq.ensures) c.loop-place.invariant
