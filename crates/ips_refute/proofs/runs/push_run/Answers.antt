use Rattle.std.proofs.Common.{◌≡◌, ◌++◌, ◌∷◌, [], ◌∙◌, ℕ, List, replicate, append_assoc, ap, sym, arith}
use Rattle.std.proofs.lemmas.List.{append-nil, replicate_more}
use Rattle.ips_refute.specs.declared.nogoods.Reason.{Reason}
use Rattle.ips_refute.proofs.runs.push_run.Goals as goal

pub loop-count-init : goal.loop-count-init
loop-count-init c = sym (append-nil c.args.reasons.now.items)

pub loop-count-preserved : goal.loop-count-preserved
loop-count-preserved c =
    let old = c.args.reasons.now.items in
    let x = c.args.run.reason in
    let n = c.loop-count._count in
    c.in_ok-push.ensures.items ∙ ap (λ (l : List Reason). l ++ x ∷ []) c.loop-count.invariant ∙ append_assoc old (replicate n x) (x ∷ []) ∙ ap (λ (l : List Reason). old ++ l) (replicate_more n x)

pub returns : goal.returns
returns c =
    let all : c.loop-count._count ≡ c.args.run.count = omega (arith, c.loop-count.auto._count-end, c.loop-count-test.false) in
    c.loop-count.invariant ∙ ap (λ (n : ℕ). c.args.reasons.now.items ++ replicate n c.args.run.reason) all
