use Rattle.std.proofs.Common.{subst, sym, List, arith}
use Rattle.std.specs.Prelude.{Contains}
use Rattle.std.proofs.lemmas.List.{nil_from_length}
use Rattle.ips_index.specs.Rows.{IndexedValue}
use Rattle.ips_index.proofs.Growing.{Going, going_first, going_more, going_only, going_all}
use Rattle.ips_index.proofs.sets.insert_all.Goals as goal

pub loop-row-init : goal.loop-row-init
loop-row-init c = (going_first c.args.set.now c.args.rows.items, λ h. h)

pub loop-row-preserved : goal.loop-row-preserved
loop-row-preserved c = (
  going_more c.args.set.now.keys c.args.rows.items c.pop.new.self.items c.in-Some.row c.loop-row.set c.insert.new.self
      (subst (λ (left : List IndexedValue). Going c.args.set.now.keys c.args.rows.items left c.loop-row.set) c.in-Some.ensures.items c.loop-row.invariant.0)
      c.in_ok-insert.ensures.updates,
  λ h. c.in_ok-insert.ensures.ordered,
)

pub returns-in_err-insert-clause-old : goal.returns-in_err-insert-clause-old
returns-in_err-insert-clause-old c row h = subst (λ (keys : List IndexedValue). Contains keys row) (sym c.in_err-insert.ensures.err) (c.loop-row.invariant.0.kept row h)

pub returns-in_err-insert-clause-only : goal.returns-in_err-insert-clause-only
returns-in_err-insert-clause-only c row h =
    going_only c.args.set.now.keys c.args.rows.items c.loop-row.left.items c.loop-row.set c.loop-row.invariant.0 row (subst (λ (keys : List IndexedValue). Contains keys row) c.in_err-insert.ensures.err h)

pub returns-clause-all : goal.returns-clause-all
returns-clause-all c =
    going_all c.args.set.now.keys c.args.rows.items c.loop-row.set (subst (λ (left : List IndexedValue). Going c.args.set.now.keys c.args.rows.items left c.loop-row.set) (nil_from_length c.loop-row.left.items (omega (arith, c.loop-row.left.ok, c.in_default.ensures.cases.0))) c.loop-row.invariant.0)

pub returns-clause-only : goal.returns-clause-only
returns-clause-only c = going_only c.args.set.now.keys c.args.rows.items c.loop-row.left.items c.loop-row.set c.loop-row.invariant.0

pub returns-in_err-insert-clause-order : goal.returns-in_err-insert-clause-order
returns-in_err-insert-clause-order c = λ h. c.in_err-insert.ensures.ordered

pub returns-clause-order : goal.returns-clause-order
returns-clause-order c = c.loop-row.invariant.1
