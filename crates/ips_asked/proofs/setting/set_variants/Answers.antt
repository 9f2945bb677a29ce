use Rattle.std.proofs.Common.{◌∙◌}
use Rattle.ips_filter.specs.Settings.{value_at}
use Rattle.ips_asked.proofs.InTurn.{variant_more}
use Rattle.ips_asked.proofs.setting.set_variants.Goals as goal

pub loop-word-preserved : goal.loop-word-preserved
loop-word-preserved c = (
  λ name. variant_more name (value_at c.args.settings.now.variants name) c.args.words.now c.loop-word.word-index c.word-item.result c.as_str.result.now c.as_str-in-loop-word.result.now
      c.loop-word.settings.variants c.set_variant.new.self.variants
      c.loop-word-test.true c.word-item.is c.as_str.ensures c.as_str-in-loop-word.ensures c.in_ok-set_variant.ensures.set (c.loop-word.invariant.0 name),
  c.in_ok-set_variant.ensures.facets ∙ c.loop-word.invariant.1,
)
