use Rattle.std.proofs.Common.{rules, sym, ◌∙◌}
use Rattle.std.proofs.lemmas.Bool.{true≢false}
use Rattle.std.specs.Str.{chars}
use Rattle.ips_fmri.proofs.Globs.{front_step, front_stops, front_stops_end, front_whole}
use Rattle.ips_fmri.proofs.matching.behind_front.Goals as goal
use Rattle.ips_fmri.proofs.matching.behind_front.Goals.{in_default-split_char-via-in-Some-split_char+else-meets, in_default-split_char-via-in_default-split_char}

pub loop-next-preserved : goal.loop-next-preserved
loop-next-preserved c = (
  search rules,
  search rules,
  front_step c.args.marks (chars c.loop-next.wanted.now) (chars c.loop-next.left.now) (chars c.in-Some.more.now) (chars c.in-Some-split_char.rest.now) (chars c.args.pattern.now) (chars c.args.text.now) c.in-Some.next c.in-Some-split_char.found c.in-Some.ensures.some c.in-Some-split_char.ensures.some
      (c.meets.ensures.0 c.if-meets.true)
      c.loop-next.invariant.2,
)

pub returns-in_default-split_char-clause-none : goal.returns-in_default-split_char-clause-none
returns-in_default-split_char-clause-none c =
    elim c.in_default-split_char.branch [
      | in_default-split_char-via-in-Some-split_char+else-meets w ↦
          front_stops c.args.marks (chars c.loop-next.wanted.now) (chars c.loop-next.left.now) (chars c.in-Some.more.now) (chars w.in-Some-split_char.rest.now) (chars c.args.pattern.now) (chars c.args.text.now) c.in-Some.next w.in-Some-split_char.found c.in-Some.ensures.some w.in-Some-split_char.ensures.some
          (λ h. true≢false (sym (w.meets.ensures.1 h) ∙ w.if-meets.false))
          c.loop-next.invariant.2
      | in_default-split_char-via-in_default-split_char w ↦
          front_stops_end c.args.marks (chars c.loop-next.wanted.now) (chars c.loop-next.left.now) (chars c.in-Some.more.now) (chars c.args.pattern.now) (chars c.args.text.now) c.in-Some.next c.in-Some.ensures.some w.in_default-split_char.ensures.none c.loop-next.invariant.2
    ]

pub returns-clause-some : goal.returns-clause-some
returns-clause-some c = front_whole c.args.marks (chars c.loop-next.wanted.now) (chars c.loop-next.left.now) (chars c.args.pattern.now) (chars c.args.text.now) c.in_default.ensures.none c.loop-next.invariant.2
