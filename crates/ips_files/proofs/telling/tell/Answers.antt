use Rattle.std.proofs.Common.{refl, sym}
use Rattle.ips_files.proofs.Tellings.{nothing_told, more_told, less_left, some_left, told_whole, told_front}
use Rattle.ips_files.proofs.telling.tell.Goals as goal

pub loop-rest-init : goal.loop-rest-init
loop-rest-init g c = nothing_told g.O.Sink.taking c.args.text.now c.args.out.now

pub loop-rest-smaller : goal.loop-rest-smaller
loop-rest-smaller g c =
    less_left c.loop-rest.rest.now c.in-Ok.count c.in-Ok.ensures.some.within
    (c.in-Ok.ensures.some.some (some_left c.loop-rest.rest.now (sym c.loop-rest-test.ensures)))

pub loop-rest-preserved : goal.loop-rest-preserved
loop-rest-preserved g c =
    more_told g.O.Sink.taking c.args.text.now c.loop-rest.rest.now c.args.out.now c.loop-rest.out c.write.new.self c.loop-rest.invariant c.in-Ok.count
    c.in-Ok.ensures.some.within c.in-Ok.ensures.same_kind (c.in-Ok.ensures.cause.steady (λ err. cc)) c.in-Ok.ensures.taken

pub returns-in-Err : goal.returns-in-Err
returns-in-Err g c = told_front g.O.Sink.taking c.args.text.now c.loop-rest.rest.now c.args.out.now c.loop-rest.out c.write.new.self _ c.loop-rest.invariant (rw c.in-Err.is refl) c.write.ensures.same_kind c.write.ensures.cause c.in-Err.ensures.kept

pub returns : goal.returns
returns g c = told_whole g.O.Sink.taking c.args.text.now c.loop-rest.rest.now c.args.out.now c.loop-rest.out c.loop-rest.invariant (sym c.loop-rest-test.ensures)
