use Rattle.std.proofs.Common.{eqb, rules}
use Rattle.std.proofs.lemmas.Iterator.{YieldsList-from_slice}
use Rattle.std.proofs.lemmas.Iterator.Search.{position_from_yields_List}
use Rattle.ips_mediate.proofs.Numerals.{first_here, first_all}
use Rattle.ips_mediate.proofs.numbers.first_part.Goals as goal

pub returns-in-Some : goal.returns-in-Some
returns-in-Some c =
    first_here c.args.text.now c.in-Some.i
    (position_from_yields_List (λ b. eqb b 46) _ _ _ c.in-Some.ensures.ran (YieldsList-from_slice c.args.text.now cc) (λ x b q h. search rules))

pub returns-in-None : goal.returns-in-None
returns-in-None c =
    first_all c.args.text.now
    (position_from_yields_List (λ b. eqb b 46) _ _ _ c.in-None.ensures.ran (YieldsList-from_slice c.args.text.now cc) (λ x b q h. search rules))
