use Rattle.std.proofs.Common.{◌≡◌, min, [], ℕ, take, ◌∙◌, ap, subst}
use Rattle.ips_outside.specs.State.{State}
use Rattle.ips_journal.specs.Reading.{IsAt, journal_of}
use Rattle.ips_commit.specs.Recovering.{AreCounted}
use Rattle.ips_commit.proofs.Places.{placed_from, text_fault, unread_unbegun}
use Rattle.ips_commit.proofs.placing.find_place.Goals as goal

pub returns-in-Err-clause-refused : goal.returns-in-Err-clause-refused
returns-in-Err-clause-refused g c = λ told.
    text_fault _ c.in-Err.fault c.unread.result (c.in-Err.ensures.whole told (c.rewind.ensures.start _)) c.unread.ensures

pub returns-in-Ok-pass-clause-placed : goal.returns-in-Ok-pass-clause-placed
returns-in-Ok-pass-clause-placed g c = λ told.
    let o = g.F.Source.outside in
    let t = (o.state c.args.folder.now).held in
    let told_1 = c.read_whole.ensures.reads.call.same_kind ∙ told in
    let same : o.state c.count_marks.new.folder ≡ o.state c.args.folder.now = c.count_marks.ensures.reads.kept ∙ c.read_whole.ensures.reads.kept in
    placed_from t c.read_whole.result c.in-Ok.total c.in-Ok-count_marks.count c.min.result c.pass.new.reader c.in-Ok.is (c.read_whole.ensures.whole told (c.rewind.ensures.start _))
    (subst (λ (s : State). AreCounted s.held c.in-Ok.total c.in-Ok-count_marks.count) c.read_whole.ensures.reads.kept (c.in-Ok-count_marks.ensures.counted told_1))
    (c.min.ensures ∙ ap (λ (n : ℕ). min n c.in-Ok.total) c.saturating_mul.ensures)
    (λ steps lists is few. subst (λ (s : State). IsAt (journal_of s.held) (take c.min.result steps) c.pass.new.reader) same
    (c.in-Ok-pass.ensures.passed (c.count_marks.ensures.reads.call.same_kind ∙ told_1) steps lists (ap (λ (s : State). journal_of s.held) same ∙ is) few (c.rewind-2.ensures.start _)).0)

pub read_whole-requires : goal.read_whole-requires
read_whole-requires g c = (c.rewind.ensures.start []).0

pub pass-requires : goal.pass-requires
pass-requires g c = (c.rewind-2.ensures.start []).0

pub returns-in-Err-clause-unbegun : goal.returns-in-Err-clause-unbegun
returns-in-Err-clause-unbegun g c = unread_unbegun c.in-Err.fault c.unread.result c.unread.ensures
