use Rattle.std.proofs.Common.{◌≡◌, true, length, arith, rules}
use Rattle.ips_steps.specs.declared.target.TargetFault.TheVariants.{Empty, TooLong, Nul}
use Rattle.ips_steps.specs.Targets.{has_nul}
use Rattle.ips_steps.proofs.target.fault_of.Goals as goal

pub returns-then-is_empty-clause-only : goal.returns-then-is_empty-clause-only
returns-then-is_empty-clause-only c = λ p. let none : length c.args.bytes.now ≡ 0 = search rules in absurd (p Empty none)

pub returns-then-bytes-gt4095-clause-only : goal.returns-then-bytes-gt4095-clause-only
returns-then-bytes-gt4095-clause-only c = λ p. absurd (p TooLong (omega arith))

pub returns-then-contains-clause-only : goal.returns-then-contains-clause-only
returns-then-contains-clause-only c = λ p. let nul : has_nul c.args.bytes.now ≡ true = search rules in absurd (p Nul (omega arith, nul))
