use Rattle.std.proofs.Common.{eqb, rules}
use Rattle.std.proofs.lemmas.Iterator.Search.{any_from_yields_List}
use Rattle.std.proofs.lemmas.Iterator.Splits.{YieldsList-from_slice_split}
use Rattle.ips_text.specs.Path.{is_long}
use Rattle.ips_aside.proofs.long.has_long_part.Goals as goal

pub returns : goal.returns
returns c =
    any_from_yields_List is_long _ _ c.any.result c.any.ensures.ran
    (YieldsList-from_slice_split _ (λ b. eqb b 47) c.args.name.now c.split.ensures.rest c.split.ensures.done c.split.ensures.closure (λ x b q h. search rules))
    (λ x b q h. search rules)
