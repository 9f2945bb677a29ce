use Rattle.std.proofs.Common.{rules}
use Rattle.std.specs.Str.{chars}
use Rattle.ips_fmri.proofs.Globs.{skipped_none, skip_on, skip_found, skip_end}
use Rattle.ips_fmri.proofs.matching.behind_first.Goals as goal

pub loop-rest-init : goal.loop-rest-init
loop-rest-init c = (search rules, skipped_none c.args.marks (chars c.args.pattern.now) (chars c.args.text.now))

pub returns-in-Some-clause-some : goal.returns-in-Some-clause-some
returns-in-Some-clause-some c = skip_found c.args.marks (chars c.args.pattern.now) (chars c.args.text.now) (chars c.loop-rest.left.now) (chars c.in-Some.rest.now) c.loop-rest.invariant.1 c.in-Some.ensures.some

pub returns-in_default-split_char-clause-none : goal.returns-in_default-split_char-clause-none
returns-in_default-split_char-clause-none c =
    skip_end c.args.marks (chars c.args.pattern.now) (chars c.args.text.now) (chars c.loop-rest.left.now) c.loop-rest.invariant.1 c.in_default.ensures.none c.in_default-split_char.ensures.none

pub loop-rest-preserved : goal.loop-rest-preserved
loop-rest-preserved c = (
  search rules,
  skip_on c.args.marks (chars c.args.pattern.now) (chars c.args.text.now) (chars c.loop-rest.left.now) (chars c.in-Some-split_char.more.now) c.in-Some-split_char.field-0-0 c.loop-rest.invariant.1 c.in_default.ensures.none c.in-Some-split_char.ensures.some,
)
