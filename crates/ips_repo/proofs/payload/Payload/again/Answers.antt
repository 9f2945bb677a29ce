use Rattle.std.proofs.Common.{ℕ, List, false, ◌∙◌, ap, sym, subst}
use Rattle.ips_digest.specs.Digest.{Hashing}
use Rattle.ips_repo.specs.Payload.{PayloadReading, from_start, IsFrontOf}
use Rattle.ips_repo.proofs.Pieces.{front_again}
use Rattle.ips_repo.proofs.payload.Payload.again.Goals as goal

pub returns-clause-begun : goal.returns-clause-begun
returns-clause-begun c =
    let inside = c.self.inside in
    ap (λ (p : List ℕ). let r : PayloadReading = record { name = inside.name; place = p; size = inside.size; bytes = c.new.result.bytes; ended = false } in r) c.in_ok-place.ensures.same
    ∙ ap (λ (h : Hashing). let r : PayloadReading = record { name = inside.name; place = inside.place.bytes; size = inside.size; bytes = h.bytes; ended = false } in r) c.new.ensures
    ∙ ap from_start c.self.view_is

pub returns-clause-front : goal.returns-clause-front
returns-clause-front c = λ t front. subst (IsFrontOf t) (sym (returns-clause-begun c)) (front_again t c.args.self.now front)
