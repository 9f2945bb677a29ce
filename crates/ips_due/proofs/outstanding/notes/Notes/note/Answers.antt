use Rattle.std.proofs.Common.{◌≡◌, ◌⊎◌, ℕ, List, true, ◌∙◌, refl, sym, subst}
use Rattle.std.specs.Prelude.{◌↔◌}
use Rattle.ips_text.specs.Ancestry.{covers}
use Rattle.ips_conflict.specs.Index.{has_path}
use Rattle.ips_due.specs.declared.outstanding.notes.Notes.{Notes}
use Rattle.ips_due.proofs.outstanding.Marks.{marked_said, marked_still, marks_hold, noted_more}
use Rattle.ips_due.proofs.outstanding.notes.Notes.note.Goals as goal

pub mark-requires : goal.mark-requires
mark-requires c = marks_hold c.args.self.now c.requires.marked

pub returns-in_ok-mark-clause-noted : goal.returns-in_ok-mark-clause-noted
returns-in_ok-mark-clause-noted c =
    let new : Notes = record { verdicts = c.insert.new.self; keys = c.mark.new.keys } in
    noted_more c.args.self.now new c.in_ok-key.key c.args.verdict c.args.path.now.bytes c.in_ok-insert.ensures.entries (c.in_ok-key.ensures.items ∙ c.bytes.ensures.value)

pub returns-in_ok-mark-clause-marked : goal.returns-in_ok-mark-clause-marked
returns-in_ok-mark-clause-marked c =
    let new : Notes = record { verdicts = c.insert.new.self; keys = c.mark.new.keys } in
    let P : List ℕ → Type 0 = λ x. (p : List ℕ) → (has_path c.mark.new.keys p ≡ true) ↔ ((has_path c.args.self.now.keys p ≡ true) ⊎ (covers p x ≡ true)) in
    marked_said c.args.self.now new c.args.verdict c.args.path.now.bytes c.requires.fresh
    (noted_more c.args.self.now new c.in_ok-key.key c.args.verdict c.args.path.now.bytes c.in_ok-insert.ensures.entries (c.in_ok-key.ensures.items ∙ c.bytes.ensures.value)) c.requires.marked (sym c.is_some.ensures ∙ c.if-is_some.true)
    c.bytes.ensures.path (subst P c.bytes-then-is_some.ensures.value c.in_ok-mark.ensures)

pub returns-else-is_some-clause-noted : goal.returns-else-is_some-clause-noted
returns-else-is_some-clause-noted c =
    let new : Notes = record { verdicts = c.insert.new.self; keys = c.args.self.now.keys } in
    noted_more c.args.self.now new c.in_ok-key.key c.args.verdict c.args.path.now.bytes c.in_ok-insert.ensures.entries (c.in_ok-key.ensures.items ∙ c.bytes.ensures.value)

pub returns-else-is_some-clause-marked : goal.returns-else-is_some-clause-marked
returns-else-is_some-clause-marked c =
    let new : Notes = record { verdicts = c.insert.new.self; keys = c.args.self.now.keys } in
    marked_still c.args.self.now new c.args.verdict c.args.path.now.bytes c.requires.fresh
    (noted_more c.args.self.now new c.in_ok-key.key c.args.verdict c.args.path.now.bytes c.in_ok-insert.ensures.entries (c.in_ok-key.ensures.items ∙ c.bytes.ensures.value)) c.requires.marked (sym c.is_some.ensures ∙ c.if-is_some.false) refl
