use Rattle.std.proofs.Common.{◌≡◌, ◌<◌, ◌≤◌, length, arith, rules}
use Rattle.ips_load.specs.HeadLines.{variant_in, facet_in}
use Rattle.ips_load.proofs.SetInOrder.{set_step, set_all}
use Rattle.ips_load.proofs.set_lines.settings_of.Goals as goal

pub loop-line-preserved : goal.loop-line-preserved
loop-line-preserved c =
    let i = c.loop-line.line-index in
    let lines = c.args.lines.now in
    let lt : i < length lines = search rules in (
      set_step variant_in lines i c.line-item.result c.loop-line.settings.variants c.set_line.new.settings.variants lt c.line-item.is c.requires.variants c.in_ok-set_line.ensures.variants c.loop-line.invariant.0,
      set_step facet_in lines i c.line-item.result c.loop-line.settings.facets c.set_line.new.settings.facets lt c.line-item.is c.requires.facets c.in_ok-set_line.ensures.facets c.loop-line.invariant.1,
    )

pub returns-clause-variants : goal.returns-clause-variants
returns-clause-variants c =
    let past : length c.args.lines.now ≤ c.loop-line.line-index = search rules in
    set_all variant_in c.args.lines.now c.loop-line.line-index c.loop-line.settings.variants past c.in_order.ensures.variants c.requires.variants c.loop-line.invariant.0

pub returns-clause-facets : goal.returns-clause-facets
returns-clause-facets c =
    let past : length c.args.lines.now ≤ c.loop-line.line-index = search rules in
    set_all facet_in c.args.lines.now c.loop-line.line-index c.loop-line.settings.facets past c.in_order.ensures.facets c.requires.facets c.loop-line.invariant.1
