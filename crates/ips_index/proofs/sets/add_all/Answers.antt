use Rattle.std.proofs.Common.{subst, sym, List, [], ◌∷◌, ◌++◌, take, arith}
use Rattle.std.specs.Prelude.{Contains}
use Rattle.ips_text.proofs.Lists.{take_item}
use Rattle.ips_index.specs.Rows.{IndexedValue}
use Rattle.ips_index.proofs.Growing.{Grown, grown_none, grown_more, grown_kept, grown_only, grown_all}
use Rattle.ips_index.proofs.sets.add_all.Goals as goal

pub loop-row-init : goal.loop-row-init
loop-row-init c = (grown_none c.args.set.now, λ h. h)

pub loop-row-preserved : goal.loop-row-preserved
loop-row-preserved c =
    let rows : List IndexedValue = c.args.rows.now in (
      subst (λ (front : List IndexedValue). Grown c.args.set.now.keys front c.insert.new.self) (sym (take_item rows c.loop-row.row-index c.row-item.result c.loop-row-test.true c.row-item.is))
          (subst (λ (row : IndexedValue). Grown c.args.set.now.keys (take c.loop-row.row-index rows ++ row ∷ []) c.insert.new.self) c.in_ok-share.ensures (grown_more c.args.set.now.keys (take c.loop-row.row-index rows) c.in_ok-share.field-0 c.loop-row.set c.insert.new.self c.loop-row.invariant.0 c.in_ok-insert.ensures.updates)),
      λ h. c.in_ok-insert.ensures.ordered,
    )

pub returns-in_err-share-clause-old : goal.returns-in_err-share-clause-old
returns-in_err-share-clause-old c = grown_kept c.args.set.now.keys (take c.loop-row.row-index c.args.rows.now) c.loop-row.set c.loop-row.invariant.0

pub returns-in_err-share-clause-only : goal.returns-in_err-share-clause-only
returns-in_err-share-clause-only c = grown_only c.args.set.now.keys c.args.rows.now c.loop-row.row-index c.loop-row.set c.loop-row.invariant.0

pub returns-in_err-insert-clause-old : goal.returns-in_err-insert-clause-old
returns-in_err-insert-clause-old c row h = subst (λ (keys : List IndexedValue). Contains keys row) (sym c.in_err-insert.ensures.err) (grown_kept c.args.set.now.keys (take c.loop-row.row-index c.args.rows.now) c.loop-row.set c.loop-row.invariant.0 row h)

pub returns-in_err-insert-clause-only : goal.returns-in_err-insert-clause-only
returns-in_err-insert-clause-only c row h =
    grown_only c.args.set.now.keys c.args.rows.now c.loop-row.row-index c.loop-row.set c.loop-row.invariant.0 row (subst (λ (keys : List IndexedValue). Contains keys row) c.in_err-insert.ensures.err h)

pub returns-clause-all : goal.returns-clause-all
returns-clause-all c = grown_all c.args.set.now.keys c.args.rows.now c.loop-row.row-index c.loop-row.set (omega arith) c.loop-row.invariant.0

pub returns-clause-old : goal.returns-clause-old
returns-clause-old c = grown_kept c.args.set.now.keys (take c.loop-row.row-index c.args.rows.now) c.loop-row.set c.loop-row.invariant.0

pub returns-clause-only : goal.returns-clause-only
returns-clause-only c = grown_only c.args.set.now.keys c.args.rows.now c.loop-row.row-index c.loop-row.set c.loop-row.invariant.0
