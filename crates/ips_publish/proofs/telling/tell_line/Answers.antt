use Rattle.std.proofs.Common.{Bool, [], ◌∷◌, ◌++◌, subst}
use Rattle.ips_files.specs.Telling.{Tells}
use Rattle.ips_files.proofs.Tellings.{tells_then, tells_stop}
use Rattle.ips_publish.proofs.telling.tell_line.Goals as goal

pub returns-then-tell_both : goal.returns-then-tell_both
returns-then-tell_both g c =
    let text = c.args.front.now ++ c.args.behind.now in
    tells_then g.O.Sink.taking text (10 ∷ []) c.args.out.now c.tell_both.new.out c.tell.new.out c.tell.result
    (subst (λ (told : Bool). Tells g.O.Sink.taking text c.args.out.now c.tell_both.new.out told) c.if-tell_both.true c.tell_both.ensures) c.tell.ensures

pub returns-else-tell_both : goal.returns-else-tell_both
returns-else-tell_both g c =
    let text = c.args.front.now ++ c.args.behind.now in
    tells_stop g.O.Sink.taking text (10 ∷ []) c.args.out.now c.tell_both.new.out
    (subst (λ (told : Bool). Tells g.O.Sink.taking text c.args.out.now c.tell_both.new.out told) c.if-tell_both.false c.tell_both.ensures)
