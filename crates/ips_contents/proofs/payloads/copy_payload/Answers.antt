use Rattle.std.proofs.Common.{List, ℕ, take, IsErr, sym, ◌∙◌, ap, subst, arith}
use Rattle.ips_text.specs.Ancestry.{covers}
use Rattle.ips_outside.specs.Image.{Image}
use Rattle.ips_outside.specs.State.{State}
use Rattle.ips_repo.specs.Payload.{PayloadReading, IsFrontOf}
use Rattle.ips_outside.proofs.Reading.{answered, reads_then}
use Rattle.ips_contents.specs.Contents.{HoldsAlone}
use Rattle.ips_contents.proofs.Wrote.{wrote_then}
use Rattle.ips_contents.proofs.Written.{alone_appended, small_more}
use Rattle.ips_contents.proofs.payloads.copy_payload.Goals as goal

pub loop-count-preserved : goal.loop-count-preserved
loop-count-preserved g c =
    let inv = c.loop-count.invariant in
    let p = c.args.path.now.bytes in
    let part = take c.in-Ok.count c.next.new.buf in
    record {
      named = ap (λ (r : PayloadReading). r.name) c.in-Ok.ensures.given ∙ inv.named;
      placed = ap (λ (r : PayloadReading). r.place) c.in-Ok.ensures.given ∙ inv.placed;
      sized = ap (λ (r : PayloadReading). r.size) c.in-Ok.ensures.given ∙ inv.sized;
      reads = reads_then g.S.Source.outside c.args.source.now c.loop-count.source c.next.new.source (IsErr c.next.result) ⊥ inv.reads c.next.ensures.reads (answered c.next.result _ c.in-Ok.is) (λ f. absurd f);
      front = λ told was.
          let same = ap (λ (s : State). s.held) inv.reads.kept in
          subst (λ (u : Image). IsFrontOf u c.next.new.self) same
          (c.next.ensures.front (inv.reads.call.same_kind ∙ told) (subst (λ (u : Image). IsFrontOf u c.loop-count.payload) (sym same) (inv.front told was)));
      kind = c.append.ensures.call.same_kind ∙ inv.kind;
      changes = omega (arith, inv.changes, c.append.ensures.one_made.later);
      faults = c.append.ensures.call.cause.steady (answered c.append.result _ c.in-Ok-append.is) ∙ inv.faults;
      holds = λ told. subst (λ (bytes : List ℕ). HoldsAlone p 384 bytes (g.F.Source.outside.state c.append.new.self).held) (sym (ap (λ (r : PayloadReading). r.bytes) c.in-Ok.ensures.given))
          (alone_appended p c.loop-count.payload.bytes part (g.F.Source.outside.state c.loop-count.folder).held (g.F.Source.outside.state c.append.new.self).held (inv.holds told)
          (ap (λ (s : State). s.held) (c.in-Ok-append.ensures.done (inv.kind ∙ told))));
      small = small_more c.loop-count.payload c.next.new.self c.in-Ok.count c.next.new.buf c.in-Ok.ensures.given c.in-Ok.ensures.within;
      moments = λ told. wrote_then g.F.Source.outside g.met.F.Source.sane (covers p) p (λ q off. off) c.args.folder.now c.loop-count.folder c.append.new.self _ c.append.result
          (inv.moments told) (inv.kind ∙ told) c.append.ensures;
    }
