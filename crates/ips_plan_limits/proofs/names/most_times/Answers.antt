use Rattle.std.proofs.Common.{◌≡◌, ℕ, ◌+◌, ◌-◌, ◌≤◌, length, arith}
use Rattle.std.specs.Prelude.{max}
use Rattle.std.proofs.Math.Nat.{max-le}
use Rattle.ips_plan_limits.proofs.Named.{one_at_most, one_turn}
use Rattle.ips_plan_limits.proofs.names.most_times.Goals as goal

pub loop-at-preserved : goal.loop-at-preserved
loop-at-preserved c =
    let inv = c.loop-at.invariant in
    let paths = c.args.paths.now in
    let turn = one_turn paths c.loop-at.at c.loop-at.run c.loop-at.most c.run_from-run.result c.greater-most.result _ c.loop-at.next c.loop-at-test.true inv.within c.requires inv.next inv.run inv.most c.run_from-run.ensures c.greater-most.ensures in
    let bound = one_at_most _ c.loop-at.run c.run_from-run.result c.run_from-run.ensures in
    let run : c.run_from-run.result ≤ length paths - (c.loop-at.at - 1) = omega (arith, bound, inv.room, inv.within, c.loop-at-test.true) in
    let most : c.loop-at.most ≤ length paths - (c.loop-at.at - 1) = omega (arith, inv.few, inv.within) in
    let both = max-le most run in
    record {
      within = omega (arith, inv.within);
      room = omega (arith, run, inv.within, c.loop-at-test.true);
      few = omega (arith, both, c.greater-most.ensures, inv.within, c.loop-at-test.true);
      next = turn.0;
      run = turn.1;
      most = turn.2;
    }
