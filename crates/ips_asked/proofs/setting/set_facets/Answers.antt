use Rattle.std.proofs.Common.{◌∙◌}
use Rattle.ips_filter.specs.Settings.{value_at}
use Rattle.ips_asked.proofs.InTurn.{facet_more}
use Rattle.ips_asked.proofs.setting.set_facets.Goals as goal

pub loop-word-preserved : goal.loop-word-preserved
loop-word-preserved c = (
  λ name. facet_more name (value_at c.args.settings.now.facets name) c.args.words.now c.loop-word.word-index c.word-item.result c.as_str.result.now c.loop-word.settings.facets c.set_facet.new.self.facets
      c.loop-word-test.true c.word-item.is c.as_str.ensures c.in_ok-set_facet.ensures.set (c.loop-word.invariant.0 name),
  c.in_ok-set_facet.ensures.variants ∙ c.loop-word.invariant.1,
)
