use Rattle.std.proofs.Common.{◌+◌, ◌<◌, List, ℕ, Option, Some, None, IfSome, length, length-take-le, take, ap, sym, ◌∙◌, subst, arith}
use Rattle.ips_outside.specs.State.{State}
use Rattle.ips_outside.specs.Outside.{readable}
use Rattle.ips_journal.specs.Text.{end_line}
use Rattle.ips_journal.specs.Reading.{journal_of}
use Rattle.ips_journal.specs.Holding.{IsStepLine, clipped, seen, step_by}
use Rattle.ips_journal.proofs.LinePieces.{line_found}
use Rattle.ips_journal.proofs.Standing.{none_ends, no_such_line, step_taken, fault_behind, fault_handed, line_within}
use Rattle.ips_journal.proofs.cursor.Cursor.read_entry.Goals as goal

pub returns-in_default-clause-means : goal.returns-in_default-clause-means
returns-in_default-clause-means g c = λ told front h.
    let text = journal_of (g.F.Source.outside.state c.args.folder.now).held in
    let file = ap (λ (p : List ℕ). readable ((g.F.Source.outside.state c.args.folder.now).held.look p)) c.args.self.now.named in
    let found = line_found text (readable ((g.F.Source.outside.state c.args.folder.now).held.look c.args.self.now.journal.bytes)) c.args.self.now.ahead c.find_line.new.self c.args.self.now.place c.in_ok-found.found None file c.in_default.is (c.in_ok-found.ensures.found told) h.0.place h.1 h.0.ahead in
    none_ends text front (seen c.args.self.now None) h.0 h.1 c.saturating_add-self.result c.saturating_add-self.ensures found.1

pub returns-in-Some-take_step-clause-means : goal.returns-in-Some-take_step-clause-means
returns-in-Some-take_step-clause-means g c = λ told front h.
    let text = journal_of (g.F.Source.outside.state c.args.folder.now).held in
    let held = c.find_line.new.self in
    let n = c.in-Some.length in
    let s = step_by c.in-Some-take_step.sort c.take_step.new.parts in
    let file = ap (λ (p : List ℕ). readable ((g.F.Source.outside.state c.args.folder.now).held.look p)) c.args.self.now.named in
    let found = line_found text (readable ((g.F.Source.outside.state c.args.folder.now).held.look c.args.self.now.journal.bytes)) c.args.self.now.ahead held c.args.self.now.place c.in_ok-found.found (Some n) file c.in-Some.is (c.in_ok-found.ensures.found told) h.0.place h.1 h.0.ahead in
    let within = subst (λ (f : Option ℕ). IfSome f (λ count. count < length held)) c.in-Some.is c.in_ok-found.ensures.fits in
    let moved = c.in-Some-take_step.ensures.moved in
    step_taken text front (seen c.args.self.now None) h.0 h.1 (take n held) n found.1.parts found.1.one_line (length-take-le n held (omega (arith, within))) s (seen c.take_step.new.self None) held found.0 within moved.ahead c.in-Some-take_step.ensures.taken
    moved.place moved.steps moved.puts (moved.line ∙ c.saturating_add-self.ensures)

pub returns-then-not-is_at_end-clause-means : goal.returns-then-not-is_at_end-clause-means
returns-then-not-is_at_end-clause-means g c = λ told front h.
    let text = journal_of (g.F.Source.outside.state c.args.folder.now).held in
    let held = c.find_line.new.self in
    let n = c.in-Some.length in
    let file = ap (λ (p : List ℕ). readable ((g.F.Source.outside.state c.args.folder.now).held.look p)) c.args.self.now.named in
    let found = line_found text (readable ((g.F.Source.outside.state c.args.folder.now).held.look c.args.self.now.journal.bytes)) c.args.self.now.ahead held c.args.self.now.place c.in_ok-found.found (Some n) file c.in-Some.is (c.in_ok-found.ensures.found told) h.0.place h.1 h.0.ahead in
    let within = subst (λ (f : Option ℕ). IfSome f (λ count. count < length held)) c.in-Some.is c.in_ok-found.ensures.fits in
    let still = c.in_default-take_step.ensures.still in
    no_such_line text front (seen c.args.self.now None) h.0 h.1 (take n held) n found.1.parts found.1.one_line (length-take-le n held (omega (arith, within))) c.take_step.new.self.line
    (still.line ∙ c.saturating_add-self.ensures)
    (λ s is. c.in_default-take_step.ensures.none s is)
    (λ e. c.is_at_end.ensures.none c.if-not-is_at_end.true (ap (take n) still.ahead ∙ e ∙ ap end_line (sym still.steps)))

pub returns-in_err-check_end-clause-means : goal.returns-in_err-check_end-clause-means
returns-in_err-check_end-clause-means g c = λ told front h.
    let text = journal_of (g.F.Source.outside.state c.args.folder.now).held in
    let held = c.find_line.new.self in
    let n = c.in-Some.length in
    let file = ap (λ (p : List ℕ). readable ((g.F.Source.outside.state c.args.folder.now).held.look p)) c.args.self.now.named in
    let found = line_found text (readable ((g.F.Source.outside.state c.args.folder.now).held.look c.args.self.now.journal.bytes)) c.args.self.now.ahead held c.args.self.now.place c.in_ok-found.found (Some n) file c.in-Some.is (c.in_ok-found.ensures.found told) h.0.place h.1 h.0.ahead in
    let within = subst (λ (f : Option ℕ). IfSome f (λ count. count < length held)) c.in-Some.is c.in_ok-found.ensures.fits in
    let still = c.in_default-take_step.ensures.still in
    let sized = length-take-le n held (omega (arith, within)) in
    let same = ap (λ (s : State). journal_of s.held) c.find_line.ensures.reads.kept in
    let last = ap (take n) (sym still.ahead) ∙ c.is_at_end.ensures.found c.if-not-is_at_end.false ∙ ap end_line still.steps in
    fault_handed text front c.check_end.new.self c.take_step.new.parts c.from_residual-in_err-check_end.result c.in_err-check_end.field-0.0 c.from_residual-in_err-check_end.ensures.1
    (fault_behind text front (seen c.args.self.now None) h.0 h.1 (take n held) n found.1.parts found.1.one_line sized
    (journal_of (g.F.Source.outside.state c.find_line.new.source).held) (c.take_step.new.self.place + (n + 1)) _ c.in_err-check_end.field-0.0 last same (ap (λ (k : ℕ). k + (n + 1)) still.place)
    (ap (λ (k : ℕ). clipped k 1) (still.line ∙ c.saturating_add-self.ensures))
    (c.in_err-check_end.ensures.more (c.find_line.ensures.reads.call.same_kind ∙ told) (omega (arith, still.place, h.1, line_within text front (seen c.args.self.now None) h.0 h.1 (take n held) n found.1.parts found.1.one_line sized))))
