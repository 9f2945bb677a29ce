use Rattle.std.proofs.Common.{◌+◌, ◌++◌, ◌∷◌, [], List, ℕ, take, sym, ap, subst, ◌∙◌}
use Rattle.std.proofs.lemmas.Bool.{both_ways}
use Rattle.ips_request.specs.Named.{AreMatched, IsMatch}
use Rattle.ips_request.proofs.Named.{matched_more, matched_same}
use Rattle.ips_request.proofs.naming.matched.Goals as goal
use Rattle.ips_request.proofs.naming.matched.Goals.{then-is_match+in_ok-copy+in_ok-push, else-is_match}

pub loop-stem-preserved : goal.loop-stem-preserved
loop-stem-preserved c =
    let publisher = c.args.publisher.now in
    let p = c.args.pattern.now in
    let i = c.loop-stem.stem-index in
    let stem = c.stem-item.result in
    elim c.if-is_match.branch [
      | then-is_match+in_ok-copy+in_ok-push w ↦
          let is = subst (IsMatch publisher p) c.as_str.ensures (c.is_match.ensures.0 w.if-is_match.true) in
          let added = ap (λ v. v.items) w.matched-is ∙ w.in_ok-push.ensures.items ∙ ap (λ (s : List ℕ). c.loop-stem.matched.items ++ s ∷ []) w.in_ok-copy.ensures in
          subst (AreMatched publisher p (take (i + 1) c.args.known.now)) (sym added) (matched_more publisher p c.args.known.now c.loop-stem.matched.items i stem c.loop-stem-test.true c.stem-item.is c.loop-stem.invariant is)
      | else-is_match w ↦
          let not = λ (m : IsMatch publisher p stem). both_ways c.is_match.result w.if-is_match.false (c.is_match.ensures.1 (subst (IsMatch publisher p) (sym c.as_str.ensures) m)) in
          subst (AreMatched publisher p (take (i + 1) c.args.known.now)) (sym (ap (λ v. v.items) w.matched-is)) (matched_same publisher p c.args.known.now c.loop-stem.matched.items i stem c.loop-stem-test.true c.stem-item.is c.loop-stem.invariant not)
    ]
