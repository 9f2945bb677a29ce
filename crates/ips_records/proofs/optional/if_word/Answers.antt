use Rattle.std.proofs.Common.{◌≡◌, ℕ, List, [], ◌∷◌, Some, None, sym, ◌∙◌, ap, rules}
use Rattle.ips_text.specs.Quote.{quoted}
use Rattle.ips_records.proofs.Fields.{word_field_sole, not_dash, quoted_dash}
use Rattle.ips_records.proofs.optional.if_word.Goals as goal

pub returns-then-eq-clause-sole : goal.returns-then-eq-clause-sole
returns-then-eq-clause-sole c = word_field_sole None tt

pub returns-in-Some-clause-sole : goal.returns-in-Some-clause-sole
returns-in-Some-clause-sole c =
    let word = rw c.in-Some.is at c.in_ok-word.ensures.sole in
    let is = rw c.in-Some.is at c.in_ok-word.ensures.of_bytes in
    let dash : c.as_slice.result.now ≡ 45 ∷ [] = search rules in
    word_field_sole (Some c.in-Some.word) (word.fits, λ same. not_dash c.eq.result c.args.bytes.now c.as_slice.result.now c.if-eq.false c.eq.ensures dash (sym is ∙ ap quoted same ∙ quoted_dash))
