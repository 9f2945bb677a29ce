use Rattle.std.proofs.Common.{◌≡◌, ◌+◌, ℕ, IsErr, take, sym, ◌∙◌, ap, arith}
use Rattle.ips_outside.specs.State.{State}
use Rattle.ips_outside.specs.Outside.{readable}
use Rattle.ips_outside.proofs.Reading.{answered, reads_then}
use Rattle.ips_files.proofs.Parts.{part_more}
use Rattle.ips_digest.specs.Digest.{Hashing}
use Rattle.ips_change.proofs.content.content.hash_file.Goals as goal

pub loop-at-preserved : goal.loop-at-preserved
loop-at-preserved g c = record {
  within = omega (arith, c.in_ok-count.ensures.within);
  algorithm = ap (λ (h : Hashing). h.algorithm) c.update.ensures ∙ c.loop-at.invariant.algorithm;
  reads = reads_then g.S.Source.outside c.args.source.now c.loop-at.source c.read_part.new.source (IsErr c.read_part.result) _ c.loop-at.invariant.reads c.read_part.ensures.reads (answered c.read_part.result _ c.in_ok-count.was) (λ f. absurd f);
  found = λ told.
      let same = ap (λ (s : State). readable (s.held.look c.args.path.now.bytes)) c.loop-at.invariant.reads.kept in
      let file = readable ((g.S.Source.outside.state c.loop-at.source).held.look c.args.path.now.bytes) in
      let read = c.in_ok-count.ensures.found (c.loop-at.invariant.reads.call.same_kind ∙ told) in
      ap (λ (h : Hashing). h.bytes) c.update.ensures
      ∙ part_more file c.read_part.new.buffer c.loop-at.at c.in_ok-count.count read c.loop-at.hasher.bytes (c.loop-at.invariant.found told ∙ ap (take c.loop-at.at) (sym same))
      ∙ ap (take (c.loop-at.at + c.in_ok-count.count)) same;
}

pub returns-after-loop-at-clause-bytes : goal.returns-after-loop-at-clause-bytes
returns-after-loop-at-clause-bytes g c = λ told.
    let file = readable ((g.S.Source.outside.state c.args.source.now).held.look c.args.path.now.bytes) in
    let at : c.loop-at.at ≡ c.args.size = omega (arith, c.loop-at.invariant.within, c.loop-at-test.false) in
    c.loop-at.invariant.found told ∙ ap (λ (n : ℕ). take n file) at
