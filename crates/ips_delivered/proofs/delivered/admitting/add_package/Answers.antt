use Rattle.std.proofs.Common.{◌≡◌, ◌∙◌, ◌∷◌, [], ◌++◌, ◌<◌, List, map, take, get_or, length, sym, ap, subst, arith}
use Rattle.std.proofs.lemmas.Bool.{true≢false}
use Rattle.ips_filter.specs.Admitted.{Admits}
use Rattle.ips_manifest.specs.declared.line.Line.{Line}
use Rattle.ips_conflict.specs.declared.placed.Placed.{Placed}
use Rattle.ips_meaning.specs.Leaving.{LeavesMore}
use Rattle.ips_meaning.proofs.Left.{placed_by, more_with, more_without}
use Rattle.ips_delivered.proofs.delivered.admitting.add_package.Goals as goal
use Rattle.ips_delivered.proofs.delivered.admitting.add_package.Goals.{then-admits+in_ok-push, else-admits}
use Rattle.ips_text.proofs.Lists.{map_item}

pub loop-line-preserved : goal.loop-line-preserved
loop-line-preserved c =
    let P : Placed → Type 0 = λ p. Admits c.args.settings.now p.action.attrs in
    let lines = c.args.pkg.now.manifest.lines.items in
    let i = c.loop-line.line-index in
    let same = c.deref-line-items.ensures.value in
    let stem = c.args.pkg.now.stem in
    let now = c.loop-line.admitted.items in
    let lt : i < length lines = omega (arith, ap length same) in
    let is : c.line-item.result ≡ get_or lines i c.line-item.result = subst (λ (l : List Line). c.line-item.result ≡ get_or l i c.line-item.result) same c.line-item.is in
    let front = map_item (placed_by stem) lines i c.line-item.result lt is in
    subst (λ (l : List Placed). LeavesMore P l c.args.admitted.now.items c.if-admits.admitted.items) (sym front)
    (elim c.if-admits.branch [
      | then-admits+in_ok-push w ↦
          more_with P (map (placed_by stem) (take c.loop-line.line-index lines)) c.args.admitted.now.items now c.if-admits.admitted.items (placed_by stem c.line-item.result) c.loop-line.invariant (c.admits.ensures.0 w.if-admits.true)
          (ap (λ v. v.items) w.admitted-is ∙ w.in_ok-push.ensures.items ∙ ap (λ (x : Placed). now ++ x ∷ []) w.new.ensures)
      | else-admits w ↦
          more_without P (map (placed_by stem) (take c.loop-line.line-index lines)) c.args.admitted.now.items now c.if-admits.admitted.items (placed_by stem c.line-item.result) c.loop-line.invariant (λ h. true≢false (sym (c.admits.ensures.1 h) ∙ w.if-admits.false))
          (ap (λ v. v.items) w.admitted-is)
    ])
