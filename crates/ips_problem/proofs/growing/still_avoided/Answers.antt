use Rattle.std.proofs.Common.{◌≡◌, ℕ, ◌&&◌, ◌++◌, ◌∷◌, [], ◌∙◌, ◌<◌, List, map, not, ap, get_or, length, subst, sym}
use Rattle.std.specs.List.{list_any}
use Rattle.ips_request.specs.Stems.{has}
use Rattle.ips_request.specs.Case.{Naming}
use Rattle.ips_request.specs.Candidates.{installs}
use Rattle.ips_request.specs.Subject.{seen_naming}
use Rattle.ips_request.proofs.Lookups.{filter_kept, filter_left}
use Rattle.ips_problem.proofs.growing.still_avoided.Goals as goal
use Rattle.ips_problem.proofs.growing.still_avoided.Goals.{then-keeps_avoiding+in_ok-copy+in_ok-push, else-keeps_avoiding}

pub loop-stem-preserved : goal.loop-stem-preserved
loop-stem-preserved c =
    let s = c.args.subject.now in
    let p = λ (stem : List ℕ). not (installs s.kind && list_any (λ (n : Naming). has stem n.stems) (map seen_naming s.named.items)) in
    let xs = s.state.now.avoid.items in
    let i = c.loop-stem.stem-index in
    let x = c.stem-item.result in
    let old = c.loop-stem.avoid.items in
    let same = c.deref-stem-items.ensures.value in
    let l = subst (λ (ss : List (List ℕ)). i < length ss) same c.loop-stem-test.true in
    let at = subst (λ (ss : List (List ℕ)). x ≡ get_or ss i x) same c.stem-item.is in
    let kept = c.keeps_avoiding.ensures ∙ ap p c.as_str.ensures in
    elim c.if-keeps_avoiding.branch [
      | then-keeps_avoiding+in_ok-copy+in_ok-push w ↦
          ap (λ v. v.items) w.avoid-is ∙ w.in_ok-push.ensures.items ∙ ap (λ (s : List ℕ). old ++ s ∷ []) w.in_ok-copy.ensures
          ∙ filter_kept p xs old i x l at c.loop-stem.invariant (sym kept ∙ w.if-keeps_avoiding.true)
      | else-keeps_avoiding w ↦
          ap (λ v. v.items) w.avoid-is ∙ filter_left p xs old i x l at c.loop-stem.invariant (sym kept ∙ w.if-keeps_avoiding.false)
    ]
