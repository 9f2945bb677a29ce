use Rattle.std.proofs.Common.{rules, sym}
use Rattle.std.specs.Str.{chars}
use Rattle.std.proofs.lemmas.Bool.{true≢false}
use Rattle.ips_fmri.proofs.Globs.{star_step, star_stops, last_star}
use Rattle.ips_fmri.proofs.matching.matches_behind_star.Goals as goal

pub returns-in_default-behind_first : goal.returns-in_default-behind_first
returns-in_default-behind_first c = (
  λ h. absurd (true≢false (sym h)),
  λ h. absurd (star_stops c.args.marks (chars c.loop-middle.pattern.now) (chars c.in-Some.middle.now) (chars c.in-Some.more.now) (chars c.loop-middle.left.now) (chars c.args.behind.now) (chars c.args.text.now) c.in-Some.ensures.some c.in_default-behind_first.ensures.none c.loop-middle.invariant.2 h),
)

pub loop-middle-preserved : goal.loop-middle-preserved
loop-middle-preserved c = (
  search rules,
  search rules,
  star_step c.args.marks (chars c.loop-middle.pattern.now) (chars c.in-Some.middle.now) (chars c.in-Some.more.now) (chars c.loop-middle.left.now) (chars c.in-Some-behind_first.rest.now) (chars c.args.behind.now) (chars c.args.text.now) c.in-Some.ensures.some c.in-Some-behind_first.ensures.some c.loop-middle.invariant.2,
)

pub returns : goal.returns
returns c =
    let last = last_star c.args.marks (chars c.loop-middle.pattern.now) (chars c.loop-middle.left.now) c.in_default.ensures.none in (
      λ h. c.loop-middle.invariant.2.0 (last.0 (c.meets_end.ensures.0 h)),
      λ h. c.meets_end.ensures.1 (last.1 (c.loop-middle.invariant.2.1 h)),
    )
