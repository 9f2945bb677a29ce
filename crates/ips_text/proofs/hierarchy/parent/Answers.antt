use Rattle.std.proofs.Common.{sym, ◌∙◌, arith}
use Rattle.ips_text.proofs.Ancestry.{parent_here, parent_before}
use Rattle.ips_text.proofs.hierarchy.parent.Goals as goal

pub returns-then-last-eq47-clause-some : goal.returns-then-last-eq47-clause-some
returns-then-last-eq47-clause-some c = sym c.loop-front.invariant ∙ parent_here c.loop-front.front.now (omega (arith, c.in-len1-up.len_at_least)) c.if-last-eq47.true

pub loop-front-preserved : goal.loop-front-preserved
loop-front-preserved c = parent_before c.loop-front.front.now (omega (arith, c.in-len1-up.len_at_least)) c.if-last-eq47.false ∙ c.loop-front.invariant
