use Rattle.std.proofs.lemmas.Result.{err_from_is_err_and}
use Rattle.ips_text.specs.Reading.{one_or_more}
use Rattle.ips_text.proofs.Loops.{reads_end}
use Rattle.ips_refute.specs.Text.{run_text, IsRun}
use Rattle.ips_refute.specs.Reading.{run_at}
use Rattle.ips_refute.proofs.Scanners.{scans_on, scans_stop, scans_shorter}
use Rattle.ips_refute.proofs.Lines.{Scans-run, RunFollows}
use Rattle.ips_refute.proofs.reading.joined_runs.Goals as goal

pub returns-in_err-run : goal.returns-in_err-run
returns-in_err-run c =
    let p = err_from_is_err_and c.from_residual.result c.from_residual.ensures.1 in
    rw (p.1, p.2) (scans_stop 32 (run_at c.args.counts) c.in_err-run.field-0.0 c.loop-runs.runs.items c.loop-runs.rest.now (one_or_more 32 (run_at c.args.counts) c.args.bytes.now) c.in_err-run.ensures c.loop-runs.invariant)

pub returns-in_default : goal.returns-in_default
returns-in_default c = rw c.in_ok-push.ensures.items (reads_end 32 (run_at c.args.counts) c.loop-runs.runs.items c.loop-runs.rest.now c.in_ok-run.run' c.in_ok-run.after.now (one_or_more 32 (run_at c.args.counts) c.args.bytes.now) c.in_ok-run.ensures c.in_default.ensures.none c.loop-runs.invariant)

pub loop-runs-smaller : goal.loop-runs-smaller
loop-runs-smaller c = scans_shorter 32 run_text (IsRun c.args.counts) RunFollows (run_at c.args.counts) (Scans-run c.args.counts) c.loop-runs.rest.now c.in_ok-run.run' c.in_ok-run.after.now c.in-Some.more.now c.in_ok-run.ensures c.in-Some.ensures.some

pub loop-runs-preserved : goal.loop-runs-preserved
loop-runs-preserved c = rw c.in_ok-push.ensures.items (scans_on 32 run_text (IsRun c.args.counts) RunFollows (run_at c.args.counts) (Scans-run c.args.counts) c.loop-runs.runs.items c.loop-runs.rest.now c.in_ok-run.run' c.in_ok-run.after.now c.in-Some.more.now (one_or_more 32 (run_at c.args.counts) c.args.bytes.now) c.in_ok-run.ensures c.in-Some.ensures.some c.loop-runs.invariant)
