use Rattle.std.proofs.Common.{sym, subst, ◌∙◌}
use Rattle.ips_outside.specs.State.{State}
use Rattle.ips_outside.proofs.Faults.{cause_as}
use Rattle.ips_outside.proofs.Reading.{reads_as}
use Rattle.ips_lay.specs.Lists.{AreAllIntact, names_of}
use Rattle.ips_beside.proofs.Told.{counted_fault, source_to, source_from, folder_to, folder_from, none_lost}
use Rattle.ips_beside.proofs.Writes.{lays_synced}
use Rattle.ips_beside.proofs.writing.lay_safe.Goals as goal

pub unlaid-requires : goal.unlaid-requires
unlaid-requires g c = counted_fault _ c.in-Err.why c.in-Err.ensures.counted

pub returns-in-Err-clause-kept : goal.returns-in-Err-clause-kept
returns-in-Err-clause-kept g c = λ told there lost.
    none_lost (g.S.Source.outside.state c.args.proto.now).held c.args.contents.now c.in-Err.why c.unlaid.result (c.in-Err.ensures.missing told) c.unlaid.ensures there lost

pub returns-in-Err-clause-reads_proto : goal.returns-in-Err-clause-reads_proto
returns-in-Err-clause-reads_proto g c =
    reads_as g.S.Source.outside c.args.proto.now c.lay.new.source _ _ c.in-Err.ensures.reads (source_to c.in-Err.why c.unlaid.result c.unlaid.ensures) (source_from c.in-Err.why c.unlaid.result c.unlaid.ensures)

pub returns-in-Err-clause-cause : goal.returns-in-Err-clause-cause
returns-in-Err-clause-cause g c =
    cause_as (g.F.Source.outside.faults c.args.target.now) (g.F.Source.outside.faults c.lay.new.folder) _ _ c.in-Err.ensures.cause (folder_to c.in-Err.why c.unlaid.result c.unlaid.ensures) (folder_from c.in-Err.why c.unlaid.result c.unlaid.ensures)

pub returns-in-Ok-sync-clause-beside : goal.returns-in-Ok-sync-clause-beside
returns-in-Ok-sync-clause-beside g c = λ told.
    lays_synced g.F.Source.outside c.args.publisher.now (names_of c.args.contents.now) g.met.F.Source.sane c.args.target.now c.lay.new.folder c.sync.new.self c.sync.result (c.lay.ensures.same_kind ∙ told)
    (c.lay.ensures.beside told) c.sync.ensures

pub returns-in-Err-sync-clause-beside : goal.returns-in-Err-sync-clause-beside
returns-in-Err-sync-clause-beside g c = λ told.
    lays_synced g.F.Source.outside c.args.publisher.now (names_of c.args.contents.now) g.met.F.Source.sane c.args.target.now c.lay.new.folder c.sync.new.self c.sync.result (c.lay.ensures.same_kind ∙ told)
    (c.lay.ensures.beside told) c.sync.ensures

pub returns-in-Ok-sync-clause-intact : goal.returns-in-Ok-sync-clause-intact
returns-in-Ok-sync-clause-intact g c = λ told.
    subst (λ (s : State). AreAllIntact c.args.publisher.now s.held (names_of c.args.contents.now)) (sym (c.in-Ok-sync.ensures.done (c.lay.ensures.same_kind ∙ told))) (c.in-Ok.ensures.intact told)
