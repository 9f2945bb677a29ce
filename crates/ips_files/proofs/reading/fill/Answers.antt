use Rattle.std.proofs.Common.{◌+◌, IsErr, take, drop, take-add, sym, ◌∙◌, ap, arith}
use Rattle.ips_outside.specs.State.{State}
use Rattle.ips_outside.specs.Outside.{readable}
use Rattle.ips_outside.proofs.Reading.{answered, reads_then}
use Rattle.ips_files.proofs.Parts.{part_more}
use Rattle.ips_files.proofs.reading.fill.Goals as goal

pub loop-at-preserved : goal.loop-at-preserved
loop-at-preserved g c = record {
  within = omega (arith, c.in_ok-count.ensures.fits);
  reads = reads_then g.S.Source.outside c.args.source.now c.loop-at.source c.fill_part.new.source (IsErr c.fill_part.result) _ c.loop-at.invariant.reads c.fill_part.ensures.reads (answered c.fill_part.result _ c.in_ok-count.was) (λ f. absurd f);
  found = λ told.
      let same = ap (λ (s : State). readable (s.held.look c.args.path.now.bytes)) c.loop-at.invariant.reads.kept in
      let file = readable ((g.S.Source.outside.state c.loop-at.source).held.look c.args.path.now.bytes) in
      let read = c.in_ok-count.ensures.found (c.loop-at.invariant.reads.call.same_kind ∙ told) in
      take-add c.loop-at.at c.in_ok-count.count c.fill_part.new.bytes
      ∙ part_more file (drop c.loop-at.at c.fill_part.new.bytes) c.loop-at.at c.in_ok-count.count read (take c.loop-at.at c.fill_part.new.bytes) (c.fill_part.ensures.before ∙ c.loop-at.invariant.found told ∙ ap (take c.loop-at.at) (sym same))
      ∙ ap (take (c.loop-at.at + c.in_ok-count.count)) same;
}
