use Rattle.std.proofs.Common.{sym, ◌∙◌}
use Rattle.ips_publish.proofs.Promises as sending
use Rattle.ips_publish.proofs.sending.settled.Goals as goal

pub fulfilled-requires-clause-safe : goal.fulfilled-requires-clause-safe
fulfilled-requires-clause-safe g c = λ told. c.in-Ok.ensures.safe (sym c.settle.ensures.same_kind ∙ told)

pub fulfilled-requires-clause-shut : goal.fulfilled-requires-clause-shut
fulfilled-requires-clause-shut g c = λ told. c.in-Ok.ensures.shut (sym c.settle.ensures.same_kind ∙ told)

pub returns-in-Ok : goal.returns-in-Ok
returns-in-Ok g c = λ words moment asks.
    sending.settled g.S.Source.outside g.F.Source.outside g.met.F.Source.sane words moment c.args.proto.now c.args.target.now _ c.args.request asks c.settle.new.folder _ c.settle.ensures.same_kind c.settle.ensures.kept
    c.settle.result c.in-Ok.is c.settle.ensures.settles c.in-Ok.ensures.safe c.in-Ok.ensures.shut c.settle.ensures.cause c.fulfilled.new.proto c.fulfilled.new.target _ c.fulfilled.result
    c.fulfilled.ensures.does c.fulfilled.ensures.source c.fulfilled.ensures.folder c.fulfilled.ensures.same_kind

pub returns-in-Err : goal.returns-in-Err
returns-in-Err g c = λ words moment asks.
    sending.unsettled g.S.Source.outside g.F.Source.outside g.met.F.Source.sane words moment c.args.proto.now c.args.target.now _ c.args.request asks c.settle.new.folder _ c.settle.ensures.same_kind c.settle.ensures.kept
    c.in-Err.why c.unsettled.result c.unsettled.ensures c.in-Err.ensures.settles c.in-Err.ensures.cause
