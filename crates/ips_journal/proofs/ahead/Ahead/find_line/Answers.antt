use Rattle.std.proofs.Common.{◌≡◌, ◌-◌, ◌<◌, ◌≤◌, ◌==◌, List, ℕ, Option, IfSome, Some, length, length-take-le, take, drop, sym, ap, ◌∙◌, subst, arith}
use Rattle.std.specs.List.{position}
use Rattle.ips_text.proofs.Cuts.{found_cuts}
use Rattle.ips_outside.specs.Outside.{readable}
use Rattle.ips_journal.specs.Line.{ComeFirst, IsLineFound}
use Rattle.ips_journal.proofs.LinePieces.{line_held, front_read}
use Rattle.ips_journal.proofs.ahead.Ahead.find_line.Goals as goal

pub returns-in-Some-clause-fits : goal.returns-in-Some-clause-fits
returns-in-Some-clause-fits g c = (found_cuts 10 c.args.self.now c.in-Some.length (sym c.in-Some.is ∙ c.first_place.ensures ∙ ap (position (λ b. b == 10)) c.bytes.ensures)).0

pub returns-in-Some-clause-found : goal.returns-in-Some-clause-found
returns-in-Some-clause-found g c = λ told within small first.
    (first, line_held (drop c.args.place (readable ((g.S.Source.outside.state c.args.source.now).held.look c.args.path.now.bytes))) c.args.self.now c.in-Some.length first (found_cuts 10 c.args.self.now c.in-Some.length (sym c.in-Some.is ∙ c.first_place.ensures ∙ ap (position (λ b. b == 10)) c.bytes.ensures)))

pub invariant_of-self-2 : goal.invariant_of-self-2
invariant_of-self-2 g c = (c.self.invariant.0, omega arith, omega (arith, c.in_ok-found.ensures.fits, c.as_mut_slice.ensures.len, c.self.invariant.0))

pub returns-clause-fits : goal.returns-clause-fits
returns-clause-fits g c =
    let new = c.read_line.new.buffer in
    let end = c.in_ok-found.end in
    let same = front_read new c.self.inside.buffer.items c.self.inside.buffer.len end (c.read_line.auto.buffer ∙ c.as_mut_slice.ensures.len) in
    let fits : end ≤ length new = omega (arith, c.in_ok-found.ensures.fits, c.read_line.auto.buffer) in
    subst (λ (n : ℕ). IfSome c.in_ok-found.found (λ count. count < n)) (sym (ap length same ∙ length-take-le end new fits)) c.in_ok-found.ensures.whole

pub returns-clause-found : goal.returns-clause-found
returns-clause-found g c = λ told within small first.
    let new = c.read_line.new.buffer in
    let end = c.in_ok-found.end in
    let same = front_read new c.self.inside.buffer.items c.self.inside.buffer.len end (c.read_line.auto.buffer ∙ c.as_mut_slice.ensures.len) in
    let ahead = drop c.args.place (readable ((g.S.Source.outside.state c.args.source.now).held.look c.args.path.now.bytes)) in
    subst (λ (l : List ℕ). ComeFirst l ahead × IsLineFound 16384 ahead l c.in_ok-found.found) (sym same)
    (subst (λ (n : ℕ). ComeFirst (take end new) ahead × IsLineFound n ahead (take end new) c.in_ok-found.found) (c.as_mut_slice.ensures.len ∙ c.self.invariant.0) (c.in_ok-found.ensures.found told within small))
