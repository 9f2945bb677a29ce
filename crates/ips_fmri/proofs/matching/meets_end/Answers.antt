use Rattle.std.proofs.Common.{rules, sym, ◌∙◌}
use Rattle.std.specs.Str.{chars}
use Rattle.std.proofs.lemmas.Bool.{true≢false}
use Rattle.ips_fmri.proofs.Globs.{end_step}
use Rattle.ips_fmri.proofs.matching.meets_end.Goals as goal

pub loop-left-preserved : goal.loop-left-preserved
loop-left-preserved c = (
  search rules,
  end_step c.args.marks (chars c.args.pattern.now) (chars c.loop-left.left.now) (chars c.in-Some.more.now) (chars c.args.text.now) c.in-Some.field-0-0 c.in-Some.ensures.some
      (λ h. true≢false (sym (c.meets_all.ensures.1 h) ∙ c.if-meets_all.false))
      c.loop-left.invariant.1,
)
