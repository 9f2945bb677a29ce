use Rattle.std.proofs.Common.{◌∙◌, sym, subst, refl, arith, ap, length}
use Rattle.std.proofs.lemmas.Bool.{true≢false}
use Rattle.ips_action.specs.Attrs.{AreAttrs}
use Rattle.ips_filter.specs.Admitted.{MeetsVariant, MeetsVariants}
use Rattle.ips_filter.proofs.Tags.{none_passed, one_passed, all_passed, at_next, variants_met, variant_met}
use Rattle.ips_filter.proofs.settings.Settings.meets_variants.Goals as goal

pub loop-attr-init : goal.loop-attr-init
loop-attr-init c = rw c.list-left.ensures.value (none_passed (MeetsVariant c.args.self.now) c.args.attrs.now)

pub returns-then-not-meets_variant : goal.returns-then-not-meets_variant
returns-then-not-meets_variant c =
    let passed = c.loop-attr.invariant in
    let here = at_next (MeetsVariant c.args.self.now) c.args.attrs.now c.loop-attr.left c.in-Some.rest c.in-Some.attr passed c.in-Some.ensures in (
      λ h. absurd (true≢false (sym h)),
      λ h. absurd (true≢false (sym (c.meets_variant.ensures.1 (variant_met c.args.self.now passed.front c.in-Some.rest c.in-Some.attr (subst AreAttrs here c.list-left.ensures.attrs) (subst (MeetsVariants c.args.self.now) here h))) ∙ c.if-not-meets_variant.true)),
    )

pub loop-attr-smaller : goal.loop-attr-smaller
loop-attr-smaller c = omega (arith, ap length c.in-Some.ensures)

pub loop-attr-preserved : goal.loop-attr-preserved
loop-attr-preserved c =
    one_passed (MeetsVariant c.args.self.now) c.args.attrs.now c.loop-attr.left c.in-Some.rest c.in-Some.attr c.loop-attr.invariant c.in-Some.ensures (c.meets_variant.ensures.0 c.if-not-meets_variant.false)

pub returns : goal.returns
returns c = (λ h. variants_met c.args.self.now c.args.attrs.now (all_passed (MeetsVariant c.args.self.now) c.args.attrs.now c.loop-attr.left c.loop-attr.invariant c.in_default.ensures), λ h. refl)
