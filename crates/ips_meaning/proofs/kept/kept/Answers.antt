use Rattle.std.proofs.Common.{◌∙◌, ◌<◌, ◌∷◌, ◌++◌, [], List, take, length, sym, ap, subst, arith}
use Rattle.std.proofs.lemmas.Bool.{true≢false}
use Rattle.ips_conflict.specs.declared.placed.Placed.{Placed}
use Rattle.ips_action.specs.Action.{Fields}
use Rattle.ips_meaning.specs.Taken.{Leaves, Stays}
use Rattle.ips_meaning.specs.Offers.{IsOfBest, IsThere}
use Rattle.ips_meaning.proofs.Left.{left_with, left_without}
use Rattle.ips_meaning.proofs.Offered.{is_there, stays_by}
use Rattle.ips_meaning.proofs.kept.kept.Goals as goal
use Rattle.ips_meaning.proofs.kept.kept.Goals.{then-branch+in_ok-push, else-branch}
use Rattle.ips_text.proofs.Lists.{take_item}

pub is_of_best-requires-clause-there : goal.is_of_best-requires-clause-there
is_of_best-requires-clause-there c = subst (IsThere c.in_ok-links.links) (sym c.action.ensures) (is_there c.args.admitted.now c.in_ok-links.links c.loop-item.item-index c.item-item.result c.in_ok-links.ensures (omega arith) c.item-item.is)

pub loop-item-preserved : goal.loop-item-preserved
loop-item-preserved c =
    let admitted = c.args.admitted.now in
    let i = c.loop-item.item-index in
    let item = c.item-item.result in
    let now = c.loop-item.kept.items in
    let next = c.if-branch.kept.items in
    let S : Placed → Type 0 = Stays c.args.mediators.now admitted in
    let B : Fields → Type 0 = IsOfBest c.args.mediators.now c.in_ok-links.links in
    let lt : i < length admitted = omega arith in
    let by = stays_by c.args.mediators.now admitted c.in_ok-links.links item c.in_ok-links.ensures in (
      c.in_ok-is_of_best.ensures.choices,
      subst (λ (l : List Placed). Leaves S l next) (sym (take_item admitted i item lt c.item-item.is))
          (elim c.if-branch.branch [
            | then-branch+in_ok-push w ↦
                left_with S (take i admitted) now next item c.loop-item.invariant.1 (by.0 (subst B c.action.ensures (c.in_ok-is_of_best.ensures.answer.0 w.if-branch.true))) (ap (λ v. v.items) w.kept-is ∙ w.in_ok-push.ensures.items ∙ ap (λ (x : Placed). now ++ x ∷ []) w.copy.ensures)
            | else-branch w ↦ left_without S (take i admitted) now next item c.loop-item.invariant.1 (λ h. true≢false (sym (c.in_ok-is_of_best.ensures.answer.1 (subst B (sym c.action.ensures) (by.1 h))) ∙ w.if-branch.false)) (ap (λ v. v.items) w.kept-is)
          ]),
    )
