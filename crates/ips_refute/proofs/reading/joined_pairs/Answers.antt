use Rattle.std.proofs.lemmas.Result.{err_from_is_err_and}
use Rattle.ips_text.specs.Reading.{one_or_more}
use Rattle.ips_text.proofs.Loops.{reads_end}
use Rattle.ips_refute.specs.Text.{pair_text, IsSmallPair}
use Rattle.ips_refute.specs.Reading.{pair_at}
use Rattle.ips_refute.proofs.Scanners.{scans_on, scans_stop, scans_shorter}
use Rattle.ips_refute.proofs.Lines.{Scans-pair, PairFollows}
use Rattle.ips_refute.proofs.reading.joined_pairs.Goals as goal

pub returns-in_err-pair : goal.returns-in_err-pair
returns-in_err-pair c =
    let p = err_from_is_err_and c.from_residual.result c.from_residual.ensures.1 in
    rw (p.1, p.2) (scans_stop 44 pair_at c.in_err-pair.field-0.0 c.loop-pairs.pairs.items c.loop-pairs.rest.now (one_or_more 44 pair_at c.args.bytes.now) c.in_err-pair.ensures c.loop-pairs.invariant)

pub returns-in_default : goal.returns-in_default
returns-in_default c = rw c.in_ok-push.ensures.items (reads_end 44 pair_at c.loop-pairs.pairs.items c.loop-pairs.rest.now c.in_ok-pair.pair c.in_ok-pair.after.now (one_or_more 44 pair_at c.args.bytes.now) c.in_ok-pair.ensures c.in_default.ensures.none c.loop-pairs.invariant)

pub loop-pairs-smaller : goal.loop-pairs-smaller
loop-pairs-smaller c = scans_shorter 44 pair_text IsSmallPair PairFollows pair_at Scans-pair c.loop-pairs.rest.now c.in_ok-pair.pair c.in_ok-pair.after.now c.in-Some.more.now c.in_ok-pair.ensures c.in-Some.ensures.some

pub loop-pairs-preserved : goal.loop-pairs-preserved
loop-pairs-preserved c = rw c.in_ok-push.ensures.items (scans_on 44 pair_text IsSmallPair PairFollows pair_at Scans-pair c.loop-pairs.pairs.items c.loop-pairs.rest.now c.in_ok-pair.pair c.in_ok-pair.after.now c.in-Some.more.now (one_or_more 44 pair_at c.args.bytes.now) c.in_ok-pair.ensures c.in-Some.ensures.some c.loop-pairs.invariant)
