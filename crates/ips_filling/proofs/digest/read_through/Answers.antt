use Rattle.std.proofs.Common.{IsErr, sym, ◌∙◌, ap, subst}
use Rattle.ips_outside.specs.Image.{Image}
use Rattle.ips_outside.specs.State.{State}
use Rattle.ips_repo.specs.Payload.{PayloadReading, IsFrontOf}
use Rattle.ips_outside.proofs.Reading.{answered, reads_then}
use Rattle.ips_filling.proofs.digest.read_through.Goals as goal

pub loop-count-preserved : goal.loop-count-preserved
loop-count-preserved g c =
    let inv = c.loop-count.invariant in
    record {
      named = ap (λ (r : PayloadReading). r.name) c.in-Ok.ensures.given ∙ inv.named;
      placed = ap (λ (r : PayloadReading). r.place) c.in-Ok.ensures.given ∙ inv.placed;
      sized = ap (λ (r : PayloadReading). r.size) c.in-Ok.ensures.given ∙ inv.sized;
      room = c.next.auto.buf ∙ inv.room;
      reads = reads_then g.S.Source.outside c.args.source.now c.loop-count.source c.next.new.source (IsErr c.next.result) ⊥ inv.reads c.next.ensures.reads (answered c.next.result _ c.in-Ok.is) (λ f. absurd f);
      front = λ told was.
          let same = ap (λ (s : State). s.held) inv.reads.kept in
          subst (λ (u : Image). IsFrontOf u c.next.new.self) same
          (c.next.ensures.front (inv.reads.call.same_kind ∙ told) (subst (λ (u : Image). IsFrontOf u c.loop-count.payload) (sym same) (inv.front told was)));
    }
