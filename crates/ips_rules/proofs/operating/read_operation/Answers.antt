use Rattle.std.proofs.Common.{◌∙◌, sym}
use Rattle.std.specs.Prelude.{codes}
use Rattle.ips_action.proofs.KeyOrder.{same_true}
use Rattle.ips_rules.proofs.Counted.{one_word, four_words}
use Rattle.ips_rules.proofs.operating.read_operation.Goals as goal

pub returns-in-len1-clause-some : goal.returns-in-len1-clause-some
returns-in-len1-clause-some c = (
  one_word c.args.words.now c.verb-item.result (codes "drop") c.in-len1.len_at_least c.in-len1.len_below c.verb-item.is (sym c.as_str.ensures ∙ same_true _ (codes "drop") (sym c.eq.ensures ∙ c.if-eq.true)),
  tt,
)

pub returns-in_ok-copy-in-len4-3-clause-some : goal.returns-in_ok-copy-in-len4-3-clause-some
returns-in_ok-copy-in-len4-3-clause-some c = (
  four_words c.args.words.now (codes "edit") c.in_ok-copy-in-len4.field-0 c.in_ok-copy-in-len4-2.field-0 c.in_ok-copy-in-len4-3.field-0
      c.verb-item-then-words-lt5.result c.key-item-then-words-lt5.result c.pattern-item.result c.template-item.result
      c.in-len4.len_at_least c.in-len4.len_below c.verb-item-then-words-lt5.is c.key-item-then-words-lt5.is c.pattern-item.is c.template-item.is
      (sym c.as_str-then-words-lt5.ensures ∙ same_true _ (codes "edit") (sym c.eq-then-words-lt5.ensures ∙ c.if-eq-2.true))
      c.in_ok-copy-in-len4.ensures c.in_ok-copy-in-len4-2.ensures c.in_ok-copy-in-len4-3.ensures,
  rw (c.in_ok-copy-in-len4.ensures, ← c.as_str-then-eq-2.ensures) (c.is_key-then-eq-2.ensures.0 c.if-is_key-2.true),
)
