use Rattle.std.proofs.Common.{sym, ◌∙◌, ap}
use Rattle.ips_outside.specs.State.{State}
use Rattle.ips_outside.specs.Outside.{look_of}
use Rattle.ips_change.proofs.standing.file_at.Goals as goal

pub has-requires-2-clause-seen : goal.has-requires-2-clause-seen
has-requires-2-clause-seen g c = λ told.
    let reads = c.in_ok-known.ensures.reads in
    (c.args.mode, c.requires.seen (sym reads.call.same_kind ∙ told) ∙ ap (λ (s : State). look_of (s.held.look c.args.path.now.bytes)) (sym reads.kept))
