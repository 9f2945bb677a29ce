use Rattle.std.proofs.Common.{◌∙◌, ap, subst, sym, List, [], ◌∷◌, ◌++◌, take, arith}
use Rattle.std.specs.Prelude.{Contains}
use Rattle.std.proofs.lemmas.List.{take_all}
use Rattle.ips_text.proofs.Lists.{take_item}
use Rattle.ips_index.specs.Rows.{IndexedValue}
use Rattle.ips_index.proofs.Picked.{Picks, picks_none, picks_more, picks_past, picks_each}
use Rattle.ips_index.proofs.InSets.{told_in, told_out}
use Rattle.ips_index.proofs.sets.absent.Goals as goal
use Rattle.ips_index.proofs.sets.absent.Goals.{then-not-contains+in_ok-share+in_ok-push, else-not-contains}

pub loop-row-init : goal.loop-row-init
loop-row-init c = picks_none (λ row. Contains c.args.set.now.keys row → ⊥) c.new-found.result.items c.new-found.ensures.items

pub loop-row-preserved : goal.loop-row-preserved
loop-row-preserved c =
    let rows : List IndexedValue = c.args.rows.now in
    let row : IndexedValue = c.row-item.result in
    let P : IndexedValue → Type 0 = λ r. Contains c.args.set.now.keys r → ⊥ in
    let front : List IndexedValue = take c.loop-row.row-index rows in
    subst (λ (l : List IndexedValue). Picks P l c.if-not-contains.found.items) (sym (take_item rows c.loop-row.row-index row c.loop-row-test.true c.row-item.is))
    (elim c.if-not-contains.branch [
      | then-not-contains+in_ok-share+in_ok-push w ↦ subst (λ v. Picks P (front ++ row ∷ []) v.items) (sym w.found-is)
          (subst (λ (l : List IndexedValue). Picks P (front ++ row ∷ []) l) (sym (w.in_ok-push.ensures.items ∙ ap (λ (r : IndexedValue). c.loop-row.found.items ++ r ∷ []) w.in_ok-share.ensures))
          (picks_more P front c.loop-row.found.items row (told_out c.args.set.now row c.contains.result c.contains.ensures w.if-not-contains.true) c.loop-row.invariant))
      | else-not-contains w ↦ subst (λ v. Picks P (front ++ row ∷ []) v.items) (sym w.found-is)
          (picks_past P front c.loop-row.found.items row (λ out. out (told_in c.args.set.now row c.contains.result c.contains.ensures w.if-not-contains.false)) c.loop-row.invariant)
    ])

pub returns : goal.returns
returns c =
    let P : IndexedValue → Type 0 = λ r. Contains c.args.set.now.keys r → ⊥ in
    picks_each P c.args.rows.now c.loop-row.found.items (subst (λ (l : List IndexedValue). Picks P l c.loop-row.found.items) (take_all c.loop-row.row-index c.args.rows.now (omega arith)) c.loop-row.invariant)
