use Rattle.std.proofs.Common.{◌≡◌, ◌≤◌, ◌<◌, ℕ, ◌+◌, IsErr, length, fold, take, take_all, sym, ◌∙◌, ap, arith}
use Rattle.std.proofs.lemmas.List.Sums.{fold-append}
use Rattle.ips_outside.specs.State.{State}
use Rattle.ips_outside.specs.Outside.{readable}
use Rattle.ips_repo.specs.Mark.{has_mark_line}
use Rattle.ips_repo.specs.Scan.{Scanned, stepped, unscanned, scanned, finds}
use Rattle.ips_outside.proofs.Reading.{answered, reads_then}
use Rattle.ips_files.proofs.Parts.{part_more, part_end}
use Rattle.ips_repo.proofs.Scans.{finds_mark}
use Rattle.ips_repo.proofs.mark.has_mark_line.Goals as goal
use Rattle.ips_repo.proofs.mark.has_mark_line.Goals.{else-loop-at-test, then-loop-at-test+in_ok-count+then-count-eq0}

pub loop-at-preserved : goal.loop-at-preserved
loop-at-preserved g c = record {
  within = c.in_ok-count.ensures.within;
  reads = reads_then g.S.Source.outside c.args.source.now c.loop-at.source c.read_part.new.source (IsErr c.read_part.result) _ c.loop-at.invariant.reads c.read_part.ensures.reads (answered c.read_part.result _ c.in_ok-count.was) (λ f. absurd f);
  scanned = λ told.
      let same = ap (λ (s : State). readable (s.held.look c.args.path.now.bytes)) c.loop-at.invariant.reads.kept in
      let file = readable ((g.S.Source.outside.state c.loop-at.source).held.look c.args.path.now.bytes) in
      let read = c.in_ok-count.ensures.found (c.loop-at.invariant.reads.call.same_kind ∙ told) in
      let piece = take c.in_ok-count.count c.read_part.new.buffer in
      c.behind-scan.ensures
      ∙ ap (λ (s : Scanned). fold stepped s piece) (c.loop-at.invariant.scanned told)
      ∙ sym (fold-append stepped unscanned (take c.loop-at.at (readable ((g.S.Source.outside.state c.args.source.now).held.look c.args.path.now.bytes))) piece)
      ∙ ap scanned (part_more file c.read_part.new.buffer c.loop-at.at c.in_ok-count.count read _ (ap (take c.loop-at.at) (sym same)) ∙ ap (take (c.loop-at.at + c.in_ok-count.count)) same);
}

pub returns-clause-found : goal.returns-clause-found
returns-clause-found g c = λ told.
    let mine = readable ((g.S.Source.outside.state c.args.source.now).held.look c.args.path.now.bytes) in
    let upto : take c.loop-at.at mine ≡ take c.args.size mine = elim c.loop-at-test.branch [
      | else-loop-at-test w ↦
          let end : c.loop-at.at ≡ c.args.size = omega arith in
          ap (λ (n : ℕ). take n mine) end
      | then-loop-at-test+in_ok-count+then-count-eq0 w ↦
          let same = ap (λ (s : State). readable (s.held.look c.args.path.now.bytes)) c.loop-at.invariant.reads.kept in
          let file = readable ((g.S.Source.outside.state c.loop-at.source).held.look c.args.path.now.bytes) in
          let room : 0 < length w.read_part.new.buffer = omega (arith, c.requires) in
          let end = part_end file w.read_part.new.buffer c.loop-at.at w.in_ok-count.count (w.in_ok-count.ensures.found (c.loop-at.invariant.reads.call.same_kind ∙ told)) room w.if-count-eq0.true in
          let whole : length mine ≤ c.loop-at.at = omega (arith, end, ap length same) in
          take_all c.loop-at.at _ whole ∙ sym (take_all c.args.size _ (omega (arith, whole, c.loop-at.invariant.within)))
    ] in
    c.finds.ensures ∙ ap finds (c.loop-at.invariant.scanned told) ∙ finds_mark (take c.loop-at.at mine) ∙ ap has_mark_line upto
