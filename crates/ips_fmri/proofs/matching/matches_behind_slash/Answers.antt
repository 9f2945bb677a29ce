use Rattle.std.proofs.Common.{rules, sym, ◌∙◌}
use Rattle.std.specs.Str.{chars}
use Rattle.std.proofs.lemmas.Bool.{true≢false}
use Rattle.ips_fmri.proofs.Globs.{slash_step, slash_none}
use Rattle.ips_fmri.proofs.matching.matches_behind_slash.Goals as goal

pub loop-behind-preserved : goal.loop-behind-preserved
loop-behind-preserved c = (
  search rules,
  slash_step (chars c.args.pattern.now) (chars c.loop-behind.rest.now) _ (chars c.in-Some.behind.now) (chars c.args.stem.now) c.in-Some.ensures.some
      (λ h. true≢false (sym (c.matches_text.ensures.1 h) ∙ c.if-matches_text.false))
      c.loop-behind.invariant.1,
)

pub returns : goal.returns
returns c = (
  λ h. absurd (true≢false (sym h)),
  λ h. absurd (slash_none (chars c.args.pattern.now) (chars c.loop-behind.rest.now) c.in_default.ensures.none (c.loop-behind.invariant.1.1 h)),
)
