use Rattle.std.proofs.Common.{◌≡◌, ◌+◌, ◌-◌, ℕ, IsErr, List, take, drop, length, sym, ◌∙◌, ap, arith}
use Rattle.ips_outside.specs.State.{State}
use Rattle.ips_outside.specs.Outside.{readable}
use Rattle.ips_outside.proofs.Reading.{answered, reads_then}
use Rattle.ips_due.proofs.outstanding.Compared.{all_same, other_part, other_size, same_part, size_of}
use Rattle.ips_due.proofs.outstanding.bytes.has_bytes.Goals as goal
use Rattle.ips_due.proofs.outstanding.bytes.has_bytes.Goals.{then-count-eq0-via-then-count-eq0, then-count-eq0-via-else-count-eq0+then-not-is_same}

pub returns-then-size-bytes-clause-found : goal.returns-then-size-bytes-clause-found
returns-then-size-bytes-clause-found g c = λ told sized.
    let file = readable ((g.S.Source.outside.state c.args.source.now).held.look c.args.path.now.bytes) in
    other_size c.args.bytes.now file (λ same. c.if-size-bytes.true (sym (size_of _ c.args.size sized) ∙ same))

pub returns-then-count-eq0-clause-found : goal.returns-then-count-eq0-clause-found
returns-then-count-eq0-clause-found g c = λ told sized.
    let now = readable ((g.S.Source.outside.state c.loop-at.source).held.look c.args.path.now.bytes) in
    let file = readable ((g.S.Source.outside.state c.args.source.now).held.look c.args.path.now.bytes) in
    let long : length file ≡ c.args.size = size_of _ c.args.size sized in
    let same : now ≡ file = ap (λ (s : State). readable (s.held.look c.args.path.now.bytes)) c.loop-at.invariant.reads.kept in
    let read = c.in_ok-count.ensures.found (c.loop-at.invariant.reads.call.same_kind ∙ told) in
    elim c.then-count-eq0.branch [
      | then-count-eq0-via-then-count-eq0 w ↦
          absurd (let some = read.some (omega (arith, c.loop-at.invariant.room, c.read_part.auto.buffer, c.requires.room)) (omega (arith, ap length same, long, c.if-size-bytes.false, c.loop-at-test.true)) in omega (arith, some, w.if-count-eq0.true))
      | then-count-eq0-via-else-count-eq0+then-not-is_same w ↦
          other_part c.args.bytes.now file c.loop-at.at c.in_ok-count.count (take (c.loop-at.at + c.in_ok-count.count - c.loop-at.at) (drop c.loop-at.at c.args.bytes.now)) c.read_part.new.buffer
          (ap (λ (n : ℕ). take n (drop c.loop-at.at c.args.bytes.now)) (omega arith)) (read.bytes ∙ ap (λ (l : List ℕ). take c.in_ok-count.count (drop c.loop-at.at l)) same) (sym w.is_same.ensures ∙ w.if-not-is_same.true)
    ]

pub loop-at-preserved : goal.loop-at-preserved
loop-at-preserved g c = record {
  within = omega (arith, c.in_ok-count.ensures.within, c.if-size-bytes.false);
  room = c.read_part.auto.buffer ∙ c.loop-at.invariant.room;
  reads = reads_then g.S.Source.outside c.args.source.now c.loop-at.source c.read_part.new.source (IsErr c.read_part.result) _ c.loop-at.invariant.reads c.read_part.ensures.reads (answered c.read_part.result _ c.in_ok-count.was) (λ f. absurd f);
  same = λ told.
      let now = readable ((g.S.Source.outside.state c.loop-at.source).held.look c.args.path.now.bytes) in
      let file = readable ((g.S.Source.outside.state c.args.source.now).held.look c.args.path.now.bytes) in
      let same : now ≡ file = ap (λ (s : State). readable (s.held.look c.args.path.now.bytes)) c.loop-at.invariant.reads.kept in
      let read = c.in_ok-count.ensures.found (c.loop-at.invariant.reads.call.same_kind ∙ told) in
      same_part c.args.bytes.now file c.loop-at.at c.in_ok-count.count (take (c.loop-at.at + c.in_ok-count.count - c.loop-at.at) (drop c.loop-at.at c.args.bytes.now)) c.read_part.new.buffer
      (ap (λ (n : ℕ). take n (drop c.loop-at.at c.args.bytes.now)) (omega arith)) (read.bytes ∙ ap (λ (l : List ℕ). take c.in_ok-count.count (drop c.loop-at.at l)) same) (c.loop-at.invariant.same told) (sym c.is_same.ensures ∙ c.if-not-is_same.false);
}

pub returns-clause-found : goal.returns-clause-found
returns-clause-found g c = λ told sized.
    let file = readable ((g.S.Source.outside.state c.args.source.now).held.look c.args.path.now.bytes) in
    let long : length file ≡ c.args.size = size_of _ c.args.size sized in
    all_same c.args.bytes.now file c.loop-at.at (c.loop-at.invariant.same told) (omega (arith, c.loop-at-test.false)) (omega (arith, long, c.if-size-bytes.false, c.loop-at-test.false))
