use Rattle.std.proofs.Common.{◌+◌, ◌++◌, ◌∷◌, [], List, ℕ, take, sym, ap, subst, ◌∙◌}
use Rattle.std.proofs.lemmas.Bool.{both_ways}
use Rattle.ips_request.specs.Named.{AreMatched, IsMatch}
use Rattle.ips_shown.specs.Naming.{stems_of}
use Rattle.ips_shown.proofs.Names.{next_matched, next_passed}
use Rattle.ips_shown.proofs.naming.matched.Goals as goal
use Rattle.ips_shown.proofs.naming.matched.Goals.{then-is_match+in_ok-copy+in_ok-push, else-is_match}

pub loop-held-preserved : goal.loop-held-preserved
loop-held-preserved c =
    let publisher = c.args.publisher.now in
    let p = c.args.pattern.now in
    let i = c.loop-held.held-index in
    let packages = c.args.packages.now in
    let held = c.held-item.result in
    elim c.if-is_match.branch [
      | then-is_match+in_ok-copy+in_ok-push w ↦
          let is = subst (IsMatch publisher p) c.as_str.ensures (c.is_match.ensures.0 w.if-is_match.true) in
          let added = ap (λ v. v.items) w.matched-is ∙ w.in_ok-push.ensures.items ∙ ap (λ (s : List ℕ). c.loop-held.matched.items ++ s ∷ []) w.in_ok-copy.ensures in
          subst (AreMatched publisher p (stems_of (take (i + 1) packages))) (sym added) (next_matched publisher p packages i held c.loop-held.matched.items c.loop-held-test.true c.held-item.is c.loop-held.invariant is)
      | else-is_match w ↦
          let not = λ (m : IsMatch publisher p held.stem). both_ways c.is_match.result w.if-is_match.false (c.is_match.ensures.1 (subst (IsMatch publisher p) (sym c.as_str.ensures) m)) in
          subst (AreMatched publisher p (stems_of (take (i + 1) packages))) (sym (ap (λ v. v.items) w.matched-is)) (next_passed publisher p packages i held c.loop-held.matched.items c.loop-held-test.true c.held-item.is c.loop-held.invariant not)
    ]
