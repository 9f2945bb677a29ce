use Rattle.std.proofs.Common.{◌∙◌, sym, subst, List, ℕ, true}
use Rattle.ips_filter.specs.Facet.{HasFacet}
use Rattle.ips_filter.proofs.Facets.{facet_once}
use Rattle.ips_filter.proofs.settings.Settings.meets_all.Goals as goal

pub returns : goal.returns
returns c =
    let here = subst (λ (k : List ℕ). HasFacet c.args.self.now k c.facet.result) c.key.ensures c.facet.ensures in (
      λ h is. subst (HasFacet c.args.self.now c.args.attr.now.key) h here,
      λ met. facet_once c.args.self.now c.args.attr.now.key c.facet.result true here (met (sym c.is_tag.ensures ∙ c.if-not-is_tag.false)),
    )
