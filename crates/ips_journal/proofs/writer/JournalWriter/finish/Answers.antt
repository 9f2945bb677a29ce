use Rattle.std.proofs.Common.{ap, ◌∙◌}
use Rattle.ips_outside.specs.State.{State}
use Rattle.ips_journal.proofs.Writers.{all_written}
use Rattle.ips_journal.proofs.writer.JournalWriter.finish.Goals as goal

pub returns-clause-written : goal.returns-clause-written
returns-clause-written g c = λ told steps is few.
    let o = g.F.Source.outside in
    let told_1 = c.make_room.ensures.same_kind ∙ told in
    all_written c.make_room.new.self (o.state c.make_room.new.folder).held steps (c.in_ok-make_room.ensures.written told steps is) (o.state c.append.new.self).held c.make_room.new.self.journal.bytes c.deref.result.now few
    (c.deref.ensures.value ∙ c.put_end.ensures.written) c.make_room.new.self.named (ap (λ (s : State). s.held) (c.in_ok-append.ensures.done told_1))
