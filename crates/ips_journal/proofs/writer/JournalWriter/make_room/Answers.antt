use Rattle.std.proofs.Common.{ap, refl}
use Rattle.ips_outside.specs.State.{State}
use Rattle.ips_journal.proofs.Writers.{appended_all}
use Rattle.ips_journal.proofs.writer.JournalWriter.make_room.Goals as goal

pub returns-clause-written : goal.returns-clause-written
returns-clause-written g c = λ told steps is.
    let o = g.F.Source.outside in
    appended_all c.args.self.now (o.state c.args.folder.now).held steps is _ (o.state c.append.new.self).held c.args.self.now.journal.bytes c.deref.result.now c.deref.ensures.value c.args.self.now.named
    (ap (λ (s : State). s.held) (c.in_ok-append.ensures.done told)) c.clear.ensures.items refl
