use Rattle.std.proofs.Common.{sym, ◌∙◌}
use Rattle.ips_steps.specs.Steps.{stage_name}
use Rattle.ips_steps.specs.Private.{journal_name, gate_name, mark_front}
use Rattle.ips_journal.proofs.PrivateNames.{at_stage, at_journal, at_gate, at_mark}
use Rattle.ips_emit.proofs.names.is_private.Goals as goal

pub returns-then-covers : goal.returns-then-covers
unfolding stage_name
returns-then-covers c = at_stage c.args.path.now (sym c.covers.ensures ∙ c.if-covers.true)

pub returns-then-covers-2 : goal.returns-then-covers-2
unfolding stage_name journal_name
returns-then-covers-2 c = at_journal c.args.path.now (sym c.covers.ensures ∙ c.if-covers.false) (sym c.covers-2.ensures ∙ c.if-covers-2.true)

pub returns-then-covers-3 : goal.returns-then-covers-3
unfolding stage_name journal_name gate_name
returns-then-covers-3 c = at_gate c.args.path.now (sym c.covers.ensures ∙ c.if-covers.false) (sym c.covers-2.ensures ∙ c.if-covers-2.false) (sym c.covers-3.ensures ∙ c.if-covers-3.true)

pub returns : goal.returns
unfolding stage_name journal_name gate_name mark_front
returns c = c.starts_with.ensures.value ∙ at_mark c.args.path.now (sym c.covers.ensures ∙ c.if-covers.false) (sym c.covers-2.ensures ∙ c.if-covers-2.false) (sym c.covers-3.ensures ∙ c.if-covers-3.false)
