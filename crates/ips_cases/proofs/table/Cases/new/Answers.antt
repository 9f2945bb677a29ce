use Rattle.std.proofs.Common.{◌≡◌, List, ℕ, arith, refl}
use borrow.Author.Count.{below_more}
use Rattle.ips_cases.specs.Cases.{meeting}
use Rattle.ips_cases.specs.Numbering.{key_at}
use Rattle.ips_cases.proofs.Numbers.{at_each_key}
use Rattle.ips_cases.proofs.table.Cases.new.Goals as goal

pub loop-number-preserved : goal.loop-number-preserved
loop-number-preserved g c =
    below_more (λ (n : ℕ). meeting c.args.rows (key_at c.args.sizes n) ≡ 1) c.loop-number.number c.loop-number.invariant
    (rw c.key_at.ensures.value at (c.is_met_once.ensures.0 c.if-not-is_met_once.false))

pub invariant_of-result : goal.invariant_of-result
invariant_of-result g c = (
  c.requires,
  at_each_key (λ (key : List ℕ). meeting c.args.rows key ≡ 1) c.args.sizes
      (λ n below. c.loop-number.invariant n (omega (arith, c.key_count-number-end.ensures))),
)

pub returns-clause-rule : goal.returns-clause-rule
returns-clause-rule g c = (
  λ some. at_each_key (λ (key : List ℕ). meeting c.args.rows key ≡ 1) c.args.sizes
      (λ n below. c.loop-number.invariant n (omega (arith, c.key_count-number-end.ensures))),
  λ table. refl,
)
