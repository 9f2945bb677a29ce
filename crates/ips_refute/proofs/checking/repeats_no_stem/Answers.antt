use Rattle.std.proofs.lemmas.Bool.{iff_false}
use Rattle.ips_refute.proofs.Checks.{no_true, free_before, one_more}
use Rattle.ips_refute.proofs.checking.repeats_no_stem.Goals as goal

pub returns-then-not-is_free : goal.returns-then-not-is_free
returns-then-not-is_free c =
    (λ t. no_true t, λ one. absurd (iff_false c.is_free.ensures c.if-not-is_free.true (free_before c.args.set.now c.loop-i.i (record { stem = 0; candidate = 0 }) c.loop-i-test.true one)))

pub loop-i-preserved : goal.loop-i-preserved
loop-i-preserved c = one_more c.args.set.now c.loop-i.i (record { stem = 0; candidate = 0 }) c.loop-i-test.true (c.is_free.ensures.0 c.if-not-is_free.false) c.loop-i.invariant
