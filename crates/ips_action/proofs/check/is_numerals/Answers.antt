use Rattle.std.proofs.Common.{eqb, rules}
use Rattle.std.proofs.lemmas.Iterator.{cases_from_all}
use Rattle.std.proofs.lemmas.Iterator.Splits.{YieldsList-from_slice_split}
use Rattle.ips_action.specs.Check.{IsNumber}
use Rattle.ips_action.proofs.Numbers.{numerals_are}
use Rattle.ips_action.proofs.check.is_numerals.Goals as goal

pub returns : goal.returns
returns c =
    numerals_are c.args.value.now c.all.result
    (cases_from_all _ _ _ IsNumber (λ part. IsNumber part → ⊥) c.all.ensures.ran
    (YieldsList-from_slice_split _ (λ b. eqb b 46) c.args.value.now c.split.ensures.rest c.split.ensures.done c.split.ensures.closure (λ x b q h. search rules))
    (λ x q k. search rules) (λ x q k. search rules))
