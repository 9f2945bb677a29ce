use Rattle.std.proofs.Common.{◌∙◌, sym, subst, refl, List, ℕ, arith, ap, length, true, false}
use Rattle.std.proofs.lemmas.Bool.{true≢false}
use Rattle.ips_action.specs.Attrs.{AreAttrs}
use Rattle.ips_action.specs.Attrs.{Attr}
use Rattle.ips_filter.specs.Admitted.{MeetsSomeFacet}
use Rattle.ips_filter.specs.Facet.{HasFacet}
use Rattle.ips_filter.proofs.Tags.{TrueIsOff, HasSeen, none_passed, one_passed, all_passed, all_in_front, at_next, nothing_seen, seen_here, seen_before, some_met, decided_by}
use Rattle.ips_filter.proofs.settings.Settings.meets_some_facet.Goals as goal

pub loop-attr-init : goal.loop-attr-init
loop-attr-init c = (rw c.list-left.ensures.value (none_passed (TrueIsOff c.args.self.now) c.args.attrs.now), nothing_seen)

pub returns-then-facet : goal.returns-then-facet
returns-then-facet c =
    let passed = c.loop-attr.invariant.0 in
    let here = at_next (TrueIsOff c.args.self.now) c.args.attrs.now c.loop-attr.left c.in-Some.rest c.in-Some.attr passed c.in-Some.ensures in (
      λ h. subst (MeetsSomeFacet c.args.self.now) (sym here) (some_met c.args.self.now passed.front c.in-Some.rest c.in-Some.attr (subst AreAttrs here c.list-left.ensures.attrs) (sym c.is_tag.ensures ∙ c.if-is_tag.true) (subst (λ (k : List ℕ). HasFacet c.args.self.now k true) c.key.ensures (subst (HasFacet c.args.self.now c.key.result.now) c.if-facet.true c.facet.ensures))),
      λ h. refl,
    )

pub loop-attr-smaller-else-facet : goal.loop-attr-smaller-else-facet
loop-attr-smaller-else-facet c = omega (arith, ap length c.in-Some.ensures)

pub loop-attr-preserved-else-facet : goal.loop-attr-preserved-else-facet
loop-attr-preserved-else-facet c = (
  one_passed (TrueIsOff c.args.self.now) c.args.attrs.now c.loop-attr.left c.in-Some.rest c.in-Some.attr c.loop-attr.invariant.0 c.in-Some.ensures
      (λ is. subst (λ (k : List ℕ). HasFacet c.args.self.now k false) c.key.ensures (subst (HasFacet c.args.self.now c.key.result.now) c.if-facet.false c.facet.ensures)),
  seen_here c.loop-attr.invariant.0.front c.in-Some.attr (sym c.is_tag.ensures ∙ c.if-is_tag.true),
)

pub loop-attr-smaller : goal.loop-attr-smaller
loop-attr-smaller c = omega (arith, ap length c.in-Some.ensures)

pub loop-attr-preserved : goal.loop-attr-preserved
loop-attr-preserved c = (
  one_passed (TrueIsOff c.args.self.now) c.args.attrs.now c.loop-attr.left c.in-Some.rest c.in-Some.attr c.loop-attr.invariant.0 c.in-Some.ensures (λ is. absurd (true≢false (sym is ∙ sym c.is_tag.ensures ∙ c.if-is_tag.false))),
  seen_before c.loop-attr.invariant.0.front c.in-Some.attr c.loop-attr.any (sym c.is_tag.ensures ∙ c.if-is_tag.false) c.loop-attr.invariant.1,
)

pub returns : goal.returns
returns c =
    let passed = all_passed (TrueIsOff c.args.self.now) c.args.attrs.now c.loop-attr.left c.loop-attr.invariant.0 c.in_default.ensures in
    let seen = subst (λ (l : List Attr). HasSeen l c.loop-attr.any) (all_in_front (TrueIsOff c.args.self.now) c.args.attrs.now c.loop-attr.left c.loop-attr.invariant.0 c.in_default.ensures) c.loop-attr.invariant.1 in
    decided_by c.args.self.now c.args.attrs.now c.loop-attr.any c.list-left.ensures.attrs passed seen
