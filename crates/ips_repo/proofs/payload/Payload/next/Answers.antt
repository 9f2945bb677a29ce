use Rattle.std.proofs.Common.{◌==◌, length, take, sym, subst, arith}
use Rattle.ips_outside.specs.Outside.{readable, IsRead}
use Rattle.ips_digest.specs.Digest.{Hashing}
use Rattle.ips_repo.specs.Payload.{PayloadReading, with_piece, IsFrontOf}
use Rattle.ips_repo.proofs.Pieces.{part_of_cut, none_past, front_more}
use Rattle.ips_repo.proofs.payload.Payload.next.Goals as goal
use Rattle.ips_repo.proofs.payload.Payload.next.Goals.{then-self+in_ok-count, else-self}

pub returns-clause-found : goal.returns-clause-found
returns-clause-found g c = λ told.
    let held = (g.S.Source.outside.state c.args.source.now).held in
    let inside = c.self.inside in
    let file = readable (held.look inside.place.bytes) in
    let read : IsRead (take inside.size file) (length inside.hasher.bytes) c.if-self.buf c.if-self.count = elim c.if-self.branch [
      | then-self+in_ok-count w ↦ rw (w.buf-is, w.count-is, ← c.self.invariant.1) (part_of_cut file w.read_part.new.buffer inside.size inside.at w.in_ok-count.count w.in_ok-count.ensures.within (w.in_ok-count.ensures.found told))
      | else-self w ↦ rw (w.buf-is, w.count-is, ← c.self.invariant.1) (none_past file c.args.buf.now inside.size inside.at 0 w.if-self.false)
    ] in
    subst (λ (r : PayloadReading). IsRead (take r.size (readable (held.look r.place))) (length r.bytes) c.if-self.buf c.if-self.count) c.self.view_is read

pub returns-clause-front : goal.returns-clause-front
returns-clause-front g c = λ told front.
    let held = (g.S.Source.outside.state c.args.source.now).held in
    let inside = c.self.inside in
    let read = returns-clause-found g c told in
    let more = front_more held c.args.self.now c.if-self.buf c.if-self.count (omega (arith, c.requires.room)) front read in
    subst (λ (h : Hashing). IsFrontOf held (record { name = inside.name; place = inside.place.bytes; size = inside.size; bytes = h.bytes; ended = c.if-self.count == 0 })) (sym c.update.ensures)
    (subst (λ (r : PayloadReading). IsFrontOf held (with_piece c.if-self.count c.if-self.buf r)) (sym c.self.view_is) more)
