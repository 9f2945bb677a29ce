use Rattle.std.proofs.Common.{sym, ◌∙◌}
use Rattle.ips_due.proofs.outstanding.Noting.{adds_had, adds_noted, is_shown, not_noted}
use Rattle.ips_due.specs.outstanding.Noted.{noted}
use Rattle.ips_due.specs.outstanding.Verdicts.{meant}
use Rattle.ips_due.proofs.outstanding.filling.add.Goals as goal

pub returns-then-has-clause-noted : goal.returns-then-has-clause-noted
returns-then-has-clause-noted c = λ bytes due. adds_had bytes due c.args.notes.now c.args.path.now.bytes (λ q. meant bytes due c.args.verdict) (is_shown bytes due c.args.notes.now c.args.path.now.bytes (sym c.has.ensures ∙ c.if-has.true))

pub note-requires-clause-fresh : goal.note-requires-clause-fresh
note-requires-clause-fresh c = not_noted (noted c.args.notes.now c.args.path.now.bytes) (sym c.has.ensures ∙ c.if-has.false)

pub returns-clause-noted : goal.returns-clause-noted
returns-clause-noted c = λ bytes due.
    adds_noted bytes due c.args.notes.now c.note.new.self c.args.path.now.bytes c.args.verdict (not_noted (noted c.args.notes.now c.args.path.now.bytes) (sym c.has.ensures ∙ c.if-has.false)) c.in_ok-note.ensures.noted
