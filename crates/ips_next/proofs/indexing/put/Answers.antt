use Rattle.std.proofs.Common.{◌∙◌, List, ℕ, OnOk, map, ap, subst}
use Rattle.ips_action.specs.Action.{Fields}
use Rattle.ips_index.specs.Rows.{scanned}
use Rattle.ips_index.specs.Scan.{IsPut}
use Rattle.ips_manifest.specs.declared.line.Line.{Line}
use Rattle.ips_next.proofs.indexing.put.Goals as goal

pub returns-clause-put : goal.returns-clause-put
returns-clause-put c =
    let old = c.args.index.now in
    let new = c.put.new.self in
    let stem = c.as_str.ensures in
    let actions = c.deref-2.ensures.value ∙ c.in_ok-actions.ensures ∙ ap (map (λ (l : Line). l.action)) c.deref.ensures.value in
    subst (λ (a : List Fields). OnOk c.put.result (IsPut c.args.single.now.stem (scanned c.args.single.now.stem a) old new)) actions
    (subst (λ (s : List ℕ). OnOk c.put.result (IsPut s (scanned s c.deref-2.result.now) old new)) stem c.put.ensures.put)
