use Rattle.std.proofs.Common.{Bool, subst}
use Rattle.ips_files.specs.Telling.{Tells}
use Rattle.ips_files.proofs.Tellings.{tells_then, tells_stop}
use Rattle.ips_publish.proofs.telling.tell_both.Goals as goal

pub returns-then-tell : goal.returns-then-tell
returns-then-tell g c =
    tells_then g.O.Sink.taking c.args.first.now c.args.second.now c.args.out.now c.tell.new.out c.tell-then-tell.new.out c.tell-then-tell.result
    (subst (λ (told : Bool). Tells g.O.Sink.taking c.args.first.now c.args.out.now c.tell.new.out told) c.if-tell.true c.tell.ensures) c.tell-then-tell.ensures

pub returns-else-tell : goal.returns-else-tell
returns-else-tell g c =
    tells_stop g.O.Sink.taking c.args.first.now c.args.second.now c.args.out.now c.tell.new.out
    (subst (λ (told : Bool). Tells g.O.Sink.taking c.args.first.now c.args.out.now c.tell.new.out told) c.if-tell.false c.tell.ensures)
