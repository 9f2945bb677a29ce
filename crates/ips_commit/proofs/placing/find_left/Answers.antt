use Rattle.std.proofs.Common.{◌≡◌, ◌∙◌, ap, subst}
use Rattle.ips_outside.specs.State.{State}
use Rattle.ips_journal.specs.Reading.{journal_of}
use Rattle.ips_commit.specs.Recovering.{IsPlaced, SaysOfText, SaysOfFinding}
use Rattle.ips_contents.proofs.AllWritten.{as_bad}
use Rattle.ips_commit.proofs.Places.{gate_as, says_found}
use Rattle.ips_commit.proofs.Rolled.{found_open}
use Rattle.ips_commit.proofs.placing.find_left.Goals as goal

pub returns-then-not-is_open-clause-gate : goal.returns-then-not-is_open-clause-gate
returns-then-not-is_open-clause-gate g c = λ told.
    let o = g.F.Source.outside in
    gate_as (o.state c.args.folder.now).held (o.state c.marks.new.folder).held c.args.names.now.gate.bytes _ (ap (λ (s : State). s.held) c.marks.ensures.reads.kept) c.args.names.now.gate_is
    (c.in-Ok-stands.ensures.found (c.marks.ensures.reads.call.same_kind ∙ told))

pub returns-in-Ok-find_place-clause-gate : goal.returns-in-Ok-find_place-clause-gate
returns-in-Ok-find_place-clause-gate g c = λ told.
    let o = g.F.Source.outside in
    gate_as (o.state c.args.folder.now).held (o.state c.marks.new.folder).held c.args.names.now.gate.bytes _ (ap (λ (s : State). s.held) c.marks.ensures.reads.kept) c.args.names.now.gate_is
    (c.in-Ok-stands.ensures.found (c.marks.ensures.reads.call.same_kind ∙ told))

pub returns-in-Ok-find_place-clause-placed : goal.returns-in-Ok-find_place-clause-placed
returns-in-Ok-find_place-clause-placed g c = λ told is.
    let o = g.F.Source.outside in
    subst (λ (s : State). IsPlaced s.held c.find_place.new.reader c.in-Ok-find_place.count) (c.stands.ensures.reads.kept ∙ c.marks.ensures.reads.kept)
    (c.in-Ok-find_place.ensures.placed (c.stands.ensures.reads.call.same_kind ∙ c.marks.ensures.reads.call.same_kind ∙ told))

pub returns-in-Err-clause-refused : goal.returns-in-Err-clause-refused
returns-in-Err-clause-refused g c = λ told.
    let o = g.F.Source.outside in
    let t = (o.state c.args.folder.now).held in
    let same : o.state c.stands.new.folder ≡ o.state c.args.folder.now = c.stands.ensures.reads.kept ∙ c.marks.ensures.reads.kept in
    let gate = gate_as t (o.state c.marks.new.folder).held c.args.names.now.gate.bytes _ (ap (λ (s : State). s.held) c.marks.ensures.reads.kept) c.args.names.now.gate_is
    (c.in-Ok-stands.ensures.found (c.marks.ensures.reads.call.same_kind ∙ told)) in
    as_bad (Unit {0}) c.in-Err.fault (SaysOfText (journal_of (o.state c.stands.new.folder).held)) (SaysOfFinding t)
    (λ why says. says_found t (found_open _ t gate c.if-not-is_open.false) why (subst (λ (s : State). SaysOfText (journal_of s.held) why) same says))
    (c.in-Err.ensures.refused (c.stands.ensures.reads.call.same_kind ∙ c.marks.ensures.reads.call.same_kind ∙ told))
