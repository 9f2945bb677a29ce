use Rattle.std.proofs.Common.{◌^◌, ◌<◌, List, ℕ, None, length, take, sym, ap, ◌∙◌, arith}
use Rattle.ips_outside.specs.State.{State}
use Rattle.ips_outside.specs.Outside.{readable}
use Rattle.ips_journal.specs.Reading.{journal_of}
use Rattle.ips_journal.proofs.LinePieces.{line_found}
use Rattle.ips_journal.proofs.Standing.{no_first}
use Rattle.ips_journal.proofs.cursor.Cursor.read_head.Goals as goal

pub returns-in_default-clause-bad : goal.returns-in_default-clause-bad
returns-in_default-clause-bad g c = λ told.
    let text = journal_of (g.F.Source.outside.state c.args.folder.now).held in
    let named = ap (λ (p : List ℕ). readable ((g.F.Source.outside.state c.args.folder.now).held.look p)) c.args.self.now.named in
    let file = ap (λ (s : State). readable (s.held.look c.args.self.now.journal.bytes)) c.size_of.ensures.reads.kept ∙ named in
    let small : length text < 2 ^ 64 = omega (arith, ap length named, c.in_ok-_size.ensures.found told, c.in_ok-_size.ensures.small) in
    let found = line_found text (readable ((g.F.Source.outside.state c.size_of.new.source).held.look c.args.self.now.journal.bytes)) c.clear.new.self c.find_line.new.self 0 c.in_ok-found.found None file c.in_default.is (c.in_ok-found.ensures.found (c.size_of.ensures.reads.call.same_kind ∙ told)) (omega arith) small
    (ap (λ (l : List ℕ). take (length l) text) c.clear.ensures ∙ sym c.clear.ensures) in
    no_first text found.1
