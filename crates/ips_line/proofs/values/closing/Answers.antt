use Rattle.std.proofs.Common.{sym, ◌∙◌}
use Rattle.std.proofs.lemmas.List.{take_rest}
use Rattle.ips_line.proofs.Quotes.{far_escape, far_other, far_here, far_end}
use Rattle.ips_line.proofs.values.closing.Goals as goal

pub loop-place-preserved-then-begins_escape : goal.loop-place-preserved-then-begins_escape
loop-place-preserved-then-begins_escape c = far_escape c.args.quote c.args.bytes.now c.loop-place.place c.loop-place.invariant (sym (rw take_rest at c.begins_escape.ensures) ∙ c.if-begins_escape.true)

pub returns-then-bytes-place-clause-exact : goal.returns-then-bytes-place-clause-exact
returns-then-bytes-place-clause-exact c = (far_here c.args.quote c.args.bytes.now c.loop-place.place c.loop-place.invariant c.loop-place-test.true (sym (rw take_rest at c.begins_escape.ensures) ∙ c.if-begins_escape.false) c.if-bytes-place.true).0

pub returns-then-bytes-place-clause-within : goal.returns-then-bytes-place-clause-within
returns-then-bytes-place-clause-within c = (far_here c.args.quote c.args.bytes.now c.loop-place.place c.loop-place.invariant c.loop-place-test.true (sym (rw take_rest at c.begins_escape.ensures) ∙ c.if-begins_escape.false) c.if-bytes-place.true).1

pub loop-place-preserved : goal.loop-place-preserved
loop-place-preserved c = far_other c.args.quote c.args.bytes.now c.loop-place.place c.loop-place.invariant c.loop-place-test.true (sym (rw take_rest at c.begins_escape.ensures) ∙ c.if-begins_escape.false) c.if-bytes-place.false

pub returns-clause-exact : goal.returns-clause-exact
returns-clause-exact c = far_end c.args.quote c.args.bytes.now c.loop-place.place c.loop-place.invariant c.loop-place-test.false
