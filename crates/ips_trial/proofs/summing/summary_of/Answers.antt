use Rattle.std.proofs.Common.{arith}
use Rattle.ips_trial.proofs.Numbers.{still_taken, summed}
use Rattle.ips_trial.proofs.summing.summary_of.Goals as goal

pub carry_out-requires-2-clause-takers : goal.carry_out-requires-2-clause-takers
carry_out-requires-2-clause-takers g c = still_taken _ _ _ c.in_ok-made.ensures c.requires.takers

pub findings-requires : goal.findings-requires
findings-requires g c = record { takers = still_taken _ _ _ c.in_ok-all.ensures (still_taken _ _ _ c.in_ok-made.ensures c.requires.takers) }

pub returns-in-Ok : goal.returns-in-Ok
returns-in-Ok g c = summed c.args.number c.in_ok-made.made.steps c.in_ok-all.all.packages c.in_ok-all.all.steps c.in_ok-findings.findings _ _ _ _ c.in-Ok.text
    (omega (arith, c.if-made-ne10.false)) (omega (arith, c.if-all-number.false)) (omega (arith, c.if-all-number-2.false)) (omega (arith, c.if-findings-ne0.false)) c.requires.few
    c.in_ok-made.ensures c.in_ok-all.ensures c.in_ok-findings.ensures c.requires.takers c.in-Ok.ensures
