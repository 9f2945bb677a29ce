use Rattle.std.proofs.Common.{sym, ◌∙◌, arith}
use Rattle.ips_contents.proofs.Puts.{not_next, is_next}
use Rattle.ips_contents.proofs.contents.next_put.Goals as goal

pub returns-in-Some : goal.returns-in-Some
returns-in-Some c = is_next c.args.steps.now c.args.place c.loop-at.at c.loop-at.invariant c.index-steps-at.result (omega arith) c.index-steps-at.is c.in-Some.mode c.requires.lists (sym c.in-Some.is ∙ c.put_mode.ensures)

pub loop-at-preserved : goal.loop-at-preserved
loop-at-preserved c = not_next c.args.steps.now c.args.place c.loop-at.at c.loop-at.invariant c.index-steps-at.result (omega arith) c.index-steps-at.is c.put_mode.result c.put_mode.ensures c.in_default.is
