use Rattle.std.proofs.Common.{◌≡◌, ◌+◌, ◌++◌, ◌∷◌, [], ℕ, length, take, cond, ap, arith, append-nil, sym, ◌∙◌}
use Rattle.std.proofs.lemmas.Bool.{cond-true, cond-false}
use Rattle.std.proofs.lemmas.List.{length-take-le}
use Rattle.ips_problem.specs.Gathered.{coming_from}
use Rattle.ips_problem.proofs.Offering.{coming_more}
use Rattle.ips_problem.proofs.gathering.coming.Goals as goal
use Rattle.ips_problem.proofs.gathering.coming.Goals.{then-read+in_ok-push, else-read}
use Rattle.ips_text.proofs.Lists.{take_item}

pub loop-number-preserved : goal.loop-number-preserved
loop-number-preserved c =
    let xs = c.args.reads.now in
    let i = c.loop-number.number in
    let x = c.index-reads-number.result in
    let l = c.loop-number-test.true in
    let place : 0 + length (take i xs) ≡ i = omega (arith, length-take-le i xs (omega (arith, l))) in
    let more = ap (coming_from 0) (take_item xs i x l c.index-reads-number.is) ∙ coming_more 0 (take i xs) x ∙ ap (λ (n : ℕ). coming_from 0 (take i xs) ++ cond x.comes (n ∷ []) []) place in
    elim c.if-read.branch [
      | then-read+in_ok-push w ↦
          ap (λ v. v.items) w.numbers-is ∙ w.in_ok-push.ensures.items ∙ ap (λ ns. ns ++ i ∷ []) c.loop-number.invariant
          ∙ sym (more ∙ ap (λ ns. coming_from 0 (take i xs) ++ ns) (cond-true x.comes (i ∷ []) [] w.if-read.true))
      | else-read w ↦
          ap (λ v. v.items) w.numbers-is ∙ c.loop-number.invariant
          ∙ sym (more ∙ ap (λ ns. coming_from 0 (take i xs) ++ ns) (cond-false x.comes (i ∷ []) [] w.if-read.false) ∙ append-nil (coming_from 0 (take i xs)))
    ]
