use Rattle.ips_publish.proofs.Worded.{asks_fit}
use Rattle.ips_publish.proofs.Promises.{misworded, starved}
use Rattle.ips_publish.proofs.sending.sent.Goals as goal

pub settled-requires-clause-fit : goal.settled-requires-clause-fit
settled-requires-clause-fit g c = asks_fit c.args.moment _ c.in-Ok.request c.in-Ok.ensures.found

pub returns-in-Ok : goal.returns-in-Ok
returns-in-Ok g c = c.settled.ensures _ c.args.moment c.in-Ok.ensures.found

pub returns-in-Err-Bad : goal.returns-in-Err-Bad
returns-in-Err-Bad g c =
    rw c.in-Err-Bad.field-0-is
    (misworded g.S.Source.outside g.F.Source.outside g.met.F.Source.sane _ c.args.moment c.args.proto.now c.args.target.now _ c.in-Err-Bad.field-0-0.place c.in-Err-Bad.field-0-0.why
    (rw c.in-Err-Bad.field-0-is at c.in-Err-Bad.ensures.bad))

pub returns-in-Err-OutOfMemory : goal.returns-in-Err-OutOfMemory
returns-in-Err-OutOfMemory g c = starved g.S.Source.outside g.F.Source.outside g.met.F.Source.sane _ c.args.moment c.args.proto.now c.args.target.now _
