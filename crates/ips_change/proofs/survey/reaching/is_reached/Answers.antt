use Rattle.std.proofs.Common.{sym, ◌∙◌, ap, arith}
use Rattle.ips_text.proofs.Ancestry.{parent_length}
use Rattle.ips_change.proofs.survey.Reached.{reached_above, reached_at, reached_here}
use Rattle.ips_change.proofs.survey.reaching.is_reached.Goals as goal

pub returns-then-is_marked : goal.returns-then-is_marked
returns-then-is_marked c = λ test mark. reached_here test c.args.path.now (sym (c.is_marked.ensures test mark) ∙ c.if-is_marked.true)

pub loop-dir-init : goal.loop-dir-init
loop-dir-init c = λ test mark. reached_above test c.args.path.now (sym (c.is_marked.ensures test mark) ∙ c.if-is_marked.false)

pub returns-then-is_marked-2 : goal.returns-then-is_marked-2
returns-then-is_marked-2 c = λ test mark.
    reached_here test c.in-Some.dir.now (sym (c.is_marked-in-Some.ensures test mark) ∙ c.if-is_marked-2.true)
    ∙ sym (c.loop-dir.invariant test mark ∙ ap (reached_at test) c.in-Some.ensures.some)

pub loop-dir-smaller : goal.loop-dir-smaller
loop-dir-smaller c = let less = parent_length c.loop-dir.at.now c.in-Some.dir.now c.in-Some.ensures.some in omega (arith, less)

pub loop-dir-preserved : goal.loop-dir-preserved
loop-dir-preserved c = λ test mark.
    c.loop-dir.invariant test mark ∙ ap (reached_at test) c.in-Some.ensures.some
    ∙ reached_above test c.in-Some.dir.now (sym (c.is_marked-in-Some.ensures test mark) ∙ c.if-is_marked-2.false)
