use Rattle.std.proofs.Common.{Bool, true, false, List, ◌++◌, sym, subst}
use Rattle.ips_tell.specs.telling.Finishing.{Adds}
use Rattle.ips_tell.proofs.telling.Adding.{adds_told, adds_untold}
use Rattle.ips_tell.proofs.telling.pieces.put.Goals as goal

pub returns-then-told : goal.returns-then-told
returns-then-told g c = subst (λ (was : Bool). Adds g.O.Sink.taking c.args.piece.now c.args.out.now was c.tell.new.out c.tell.result) (sym c.if-told.true)
    (adds_told g.O.Sink.taking c.args.piece.now c.args.out.now c.tell.new.out c.tell.result c.tell.ensures)

pub returns-else-told : goal.returns-else-told
returns-else-told g c = subst (λ (was : Bool). Adds g.O.Sink.taking c.args.piece.now c.args.out.now was c.args.out.now false) (sym c.if-told.false)
    (adds_untold g.O.Sink.taking c.args.piece.now c.args.out.now)
