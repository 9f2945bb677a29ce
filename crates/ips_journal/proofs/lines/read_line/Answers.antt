use Rattle.std.proofs.Common.{◌≡◌, ◌+◌, ◌-◌, ◌<◌, ◌≤◌, List, ℕ, false, IsErr, length, length-take, take, drop, refl, sym, ◌∙◌, ap, subst, arith}
use Rattle.ips_outside.specs.State.{State}
use Rattle.ips_outside.specs.Outside.{readable, IsRead}
use Rattle.ips_text.specs.Cut.{has_byte, IsCut}
use Rattle.ips_outside.proofs.Reading.{answered, reads_then}
use Rattle.ips_text.proofs.Cuts.{found_cuts, none_lacks}
use Rattle.ips_journal.proofs.LinePieces.{filled_within, piece_read, piece_more, more_filled, at_end, all_filled, line_at, line_among, filled_first}
use Rattle.ips_journal.proofs.lines.read_line.Goals as goal

pub shape_of-buffer-in_err-count : goal.shape_of-buffer-in_err-count
shape_of-buffer-in_err-count g c = c.read_piece.auto.buffer ∙ c.loop-filled.invariant.size

pub shape_of-buffer-then-count-eq0 : goal.shape_of-buffer-then-count-eq0
shape_of-buffer-then-count-eq0 g c = c.read_piece.auto.buffer ∙ c.loop-filled.invariant.size

pub shape_of-buffer-in-Some : goal.shape_of-buffer-in-Some
shape_of-buffer-in-Some g c = c.read_piece.auto.buffer ∙ c.loop-filled.invariant.size

pub shape_of-buffer : goal.shape_of-buffer
shape_of-buffer g c = c.loop-filled.invariant.size

pub overflow_add-filled : goal.overflow_add-filled
overflow_add-filled g c = omega (arith, c.in_ok-count.ensures.fits)

pub overflow_add-filled-in-loop-filled : goal.overflow_add-filled-in-loop-filled
overflow_add-filled-in-loop-filled g c = omega (arith, c.in_ok-count.ensures.fits)

pub loop-filled-smaller : goal.loop-filled-smaller
loop-filled-smaller g c = omega (arith, c.in_ok-count.ensures.fits, c.read_piece.auto.buffer, c.loop-filled.invariant.size, c.if-count-eq0.false)

-- where the newline stands in the piece
cut_in : (piece : List ℕ) (filled count : ℕ) (buffer : List ℕ) (end : ℕ) → piece ≡ take (filled + count - filled) (drop filled buffer) → (end < length piece) × IsCut 10 piece (take end piece) (drop (end + 1) piece)
    → (end < length (take count (drop filled buffer))) × IsCut 10 (take count (drop filled buffer)) (take end (take count (drop filled buffer))) (drop (end + 1) (take count (drop filled buffer)))
cut_in piece filled count buffer end e h =
    let same : filled + count - filled ≡ count = omega arith in
    let is : piece ≡ take count (drop filled buffer) = e ∙ ap (λ (n : ℕ). take n (drop filled buffer)) same in
    subst (λ (l : List ℕ). (end < length l) × IsCut 10 l (take end l) (drop (end + 1) l)) is h

pub overflow_add-result : goal.overflow_add-result
overflow_add-result g c =
    let cut = cut_in _ c.loop-filled.filled c.in_ok-count.count c.read_piece.new.buffer c.in-Some.end refl (found_cuts 10 _ c.in-Some.end (sym c.in-Some.is ∙ c.first_place.ensures)) in
    omega (arith, cut.0, length-take c.in_ok-count.count (drop c.loop-filled.filled c.read_piece.new.buffer), c.in_ok-count.ensures.fits)

pub returns-in-Some-clause-fits : goal.returns-in-Some-clause-fits
returns-in-Some-clause-fits g c =
    let cut = cut_in _ c.loop-filled.filled c.in_ok-count.count c.read_piece.new.buffer c.in-Some.end refl (found_cuts 10 _ c.in-Some.end (sym c.in-Some.is ∙ c.first_place.ensures)) in
    omega (arith, cut.0, length-take c.in_ok-count.count (drop c.loop-filled.filled c.read_piece.new.buffer), c.in_ok-count.ensures.fits, c.loop-filled.invariant.size)

pub returns-in-Some-clause-found : goal.returns-in-Some-clause-found
returns-in-Some-clause-found g c = λ told within small.
    let file = readable ((g.S.Source.outside.state c.args.source.now).held.look c.args.path.now.bytes) in
    let cut = cut_in _ c.loop-filled.filled c.in_ok-count.count c.read_piece.new.buffer c.in-Some.end refl (found_cuts 10 _ c.in-Some.end (sym c.in-Some.is ∙ c.first_place.ensures)) in
    let filled = c.loop-filled.invariant.found told within small in
    let same = ap (λ (s : State). readable (s.held.look c.args.path.now.bytes)) c.loop-filled.invariant.reads.kept in
    let read = piece_read file (readable ((g.S.Source.outside.state c.loop-filled.source).held.look c.args.path.now.bytes)) (drop c.loop-filled.filled c.read_piece.new.buffer) c.args.place c.loop-filled.filled c.in_ok-count.count same
    (c.in_ok-count.ensures.found (c.loop-filled.invariant.reads.call.same_kind ∙ told) (omega (arith, filled_within file c.loop-filled.buffer c.args.place c.loop-filled.filled filled c.loop-filled.invariant.within within, small))) in
    let ahead = drop c.args.place file in
    let count = c.in_ok-count.count in
    let new = c.read_piece.new.buffer in
    let fits : c.loop-filled.filled + count ≤ length new = omega (arith, c.in_ok-count.ensures.fits, c.read_piece.auto.buffer) in (
      filled_first ahead new (c.loop-filled.filled + count) fits (piece_more ahead c.loop-filled.buffer new c.loop-filled.filled filled c.in_ok-count.ensures.before count read),
      line_among ahead new (c.loop-filled.filled + c.in-Some.end) (c.loop-filled.filled + count) (omega (arith, cut.0, length-take count (drop c.loop-filled.filled new)))
          (line_at ahead c.loop-filled.buffer new c.loop-filled.filled filled c.in_ok-count.ensures.before count c.in-Some.end read fits cut.0 cut.1),
    )

pub returns-then-count-eq0-clause-found : goal.returns-then-count-eq0-clause-found
returns-then-count-eq0-clause-found g c = λ told within small.
    let file = readable ((g.S.Source.outside.state c.args.source.now).held.look c.args.path.now.bytes) in
    let filled = c.loop-filled.invariant.found told within small in
    let same = ap (λ (s : State). readable (s.held.look c.args.path.now.bytes)) c.loop-filled.invariant.reads.kept in
    let read = piece_read file (readable ((g.S.Source.outside.state c.loop-filled.source).held.look c.args.path.now.bytes)) (drop c.loop-filled.filled c.read_piece.new.buffer) c.args.place c.loop-filled.filled c.in_ok-count.count same
    (c.in_ok-count.ensures.found (c.loop-filled.invariant.reads.call.same_kind ∙ told) (omega (arith, filled_within file c.loop-filled.buffer c.args.place c.loop-filled.filled filled c.loop-filled.invariant.within within, small))) in
    let ahead = drop c.args.place file in
    let new = c.read_piece.new.buffer in
    let none : IsRead ahead c.loop-filled.filled (drop c.loop-filled.filled new) 0 = subst (IsRead ahead c.loop-filled.filled (drop c.loop-filled.filled new)) c.if-count-eq0.true read in
    let sized : length new ≡ length c.args.buffer.now = c.read_piece.auto.buffer ∙ c.loop-filled.invariant.size in (
      filled_first ahead new c.loop-filled.filled (omega (arith, sized, c.loop-filled.invariant.size, c.loop-filled.invariant.within)) (c.in_ok-count.ensures.before ∙ filled.same),
      subst (λ (n : ℕ). has_byte 10 (take n ahead) ≡ false) sized (at_end ahead c.loop-filled.buffer new c.loop-filled.filled filled c.in_ok-count.ensures.before none (omega (arith, c.loop-filled-test.true, c.read_piece.auto.buffer))),
    )

pub returns-clause-found : goal.returns-clause-found
returns-clause-found g c = λ told within small.
    let file = readable ((g.S.Source.outside.state c.args.source.now).held.look c.args.path.now.bytes) in
    let ahead = drop c.args.place file in
    let filled = c.loop-filled.invariant.found told within small in (
      filled_first ahead c.loop-filled.buffer c.loop-filled.filled c.loop-filled.invariant.within filled.same,
      subst (λ (n : ℕ). has_byte 10 (take n ahead) ≡ false) c.loop-filled.invariant.size (all_filled ahead c.loop-filled.buffer c.loop-filled.filled filled c.loop-filled.invariant.within (omega (arith, c.loop-filled-test.false))),
    )

pub loop-filled-preserved : goal.loop-filled-preserved
loop-filled-preserved g c = record {
  size = c.read_piece.auto.buffer ∙ c.loop-filled.invariant.size;
  within = omega (arith, c.in_ok-count.ensures.fits, c.read_piece.auto.buffer);
  reads = reads_then g.S.Source.outside c.args.source.now c.loop-filled.source c.read_piece.new.source (IsErr c.read_piece.result) _ c.loop-filled.invariant.reads c.read_piece.ensures.reads (answered c.read_piece.result _ c.in_ok-count.was) (λ f. absurd f);
  found = λ told within small.
      let file = readable ((g.S.Source.outside.state c.args.source.now).held.look c.args.path.now.bytes) in
      let filled = c.loop-filled.invariant.found told within small in
      let same = ap (λ (s : State). readable (s.held.look c.args.path.now.bytes)) c.loop-filled.invariant.reads.kept in
      let read = piece_read file (readable ((g.S.Source.outside.state c.loop-filled.source).held.look c.args.path.now.bytes)) (drop c.loop-filled.filled c.read_piece.new.buffer) c.args.place c.loop-filled.filled c.in_ok-count.count same
      (c.in_ok-count.ensures.found (c.loop-filled.invariant.reads.call.same_kind ∙ told) (omega (arith, filled_within file c.loop-filled.buffer c.args.place c.loop-filled.filled filled c.loop-filled.invariant.within within, small))) in
      let count_same : c.loop-filled.filled + c.in_ok-count.count - c.loop-filled.filled ≡ c.in_ok-count.count = omega arith in
      more_filled (drop c.args.place file) c.loop-filled.buffer c.read_piece.new.buffer c.loop-filled.filled filled c.in_ok-count.ensures.before c.in_ok-count.count read
      (ap (λ (n : ℕ). has_byte 10 (take n (drop c.loop-filled.filled c.read_piece.new.buffer))) (sym count_same) ∙ none_lacks 10 (take (c.loop-filled.filled + c.in_ok-count.count - c.loop-filled.filled) (drop c.loop-filled.filled c.read_piece.new.buffer)) (sym c.in_default.is ∙ c.first_place.ensures));
}
