use Rattle.std.proofs.Common.{◌∙◌, sym, ap, subst}
use Rattle.std.proofs.lemmas.Bool.{true≢false}
use Rattle.ips_action.specs.Action.{Fields}
use Rattle.ips_filter.specs.Admitted.{MeetsVariants, MeetsAllFacets, MeetsSomeFacet}
use Rattle.ips_filter.proofs.settings.Settings.admits.Goals as goal

pub returns-then-not-meets_variants : goal.returns-then-not-meets_variants
returns-then-not-meets_variants c =
    let same = ap (λ (f : Fields). f.attrs) c.action.view_is in (
      λ h. absurd (true≢false (sym h)),
      λ a. absurd (true≢false (sym (c.meets_variants.ensures.1 (subst (MeetsVariants c.args.self.now) (sym same) a.variants)) ∙ c.if-not-meets_variants.true)),
    )

pub returns-then-not-meets_all_facets : goal.returns-then-not-meets_all_facets
returns-then-not-meets_all_facets c =
    let same = ap (λ (f : Fields). f.attrs) c.action.view_is in (
      λ h. absurd (true≢false (sym h)),
      λ a. absurd (true≢false (sym (c.meets_all_facets.ensures.1 (subst (MeetsAllFacets c.args.self.now) (sym same) a.all_facets)) ∙ c.if-not-meets_all_facets.true)),
    )

pub returns : goal.returns
returns c =
    let same = ap (λ (f : Fields). f.attrs) c.action.view_is in (
      λ h. record {
        variants = subst (MeetsVariants c.args.self.now) same (c.meets_variants.ensures.0 c.if-not-meets_variants.false);
        all_facets = subst (MeetsAllFacets c.args.self.now) same (c.meets_all_facets.ensures.0 c.if-not-meets_all_facets.false);
        some_facet = subst (MeetsSomeFacet c.args.self.now) same (c.meets_some_facet.ensures.0 h);
      },
      λ a. c.meets_some_facet.ensures.1 (subst (MeetsSomeFacet c.args.self.now) (sym same) a.some_facet),
    )
