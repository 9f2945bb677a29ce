use Rattle.std.proofs.Common.{◌≡◌, ◌∙◌, ◌++◌, ap, sym, subst, arith}
use Rattle.ips_action.specs.Attrs.{values_of}
use Rattle.ips_action.specs.Action.{Fields}
use Rattle.ips_index.specs.Rows.{rows_at}
use Rattle.ips_index.specs.Entries.{index_name, AreFit}
use Rattle.ips_index.proofs.Scanned.{values_more}
use Rattle.ips_index.proofs.scanning.push_values.Goals as goal
use Rattle.ips_index.proofs.scanning.push_values.Goals.{in-Some+in_ok-push_value, in_default}

pub loop-i-preserved : goal.loop-i-preserved
loop-i-preserved c =
    let same : c.action.inside.kind ≡ c.args.action.now.kind = ap (λ (x : Fields). x.kind) c.action.view_is in
    elim c.match-nth.branch [
      | in-Some+in_ok-push_value w ↦ (
        values_more c.args.stem.now c.args.action.now.kind (index_name c.args.action.now.kind c.args.field) c.args.entries.now.items c.loop-i.entries.items c.match-nth.entries.items (values_of c.args.key.now c.args.action.now.attrs) c.loop-i.i
            w.in-Some.value.now w.in-Some.ensures.some c.loop-i.invariant.0 (ap (λ v. v.items) w.entries-is ∙ w.in_ok-push_value.ensures.rows ∙ ap (λ k. c.loop-i.entries.items ++ rows_at c.args.stem.now k (index_name k c.args.field) w.in-Some.value.now) same),
        λ fit. subst (λ v. AreFit v.items) (sym w.entries-is) (w.in_ok-push_value.ensures.fit (c.loop-i.invariant.1 fit)),
      )
      | in_default w ↦ absurd (omega (arith, c.loop-i-test.true, c.count-i-end.ensures, w.in_default.ensures.none))
    ]
