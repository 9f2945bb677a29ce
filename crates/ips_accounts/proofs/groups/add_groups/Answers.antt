use Rattle.std.proofs.Common.{refl, arith}
use Rattle.std.proofs.lemmas.Result.{err_from_is_err_and}
use Rattle.ips_accounts.specs.Seen.{tables_seen}
use Rattle.ips_accounts.specs.Editing.{with_group}
use Rattle.ips_accounts.proofs.Steps.{goes_more, goes_fails, goes_done}
use Rattle.ips_accounts.proofs.groups.add_groups.Goals as goal

pub loop-group-init : goal.loop-group-init
loop-group-init c = refl

pub loop-group-preserved : goal.loop-group-preserved
loop-group-preserved c =
    goes_more with_group c.args.groups.now c.loop-group.group-index c.group-item.result (tables_seen c.loop-group.tables) (tables_seen c.add_group.new.tables) (tables_seen c.args.tables.now) c.loop-group-test.true c.group-item.is c.in_ok-add_group.ensures c.loop-group.invariant

pub returns-in_err-add_group : goal.returns-in_err-add_group
returns-in_err-add_group c =
    let p = err_from_is_err_and c.from_residual.result c.from_residual.ensures.1 in
    rw (p.1, p.2) (goes_fails with_group c.args.groups.now c.loop-group.group-index c.group-item.result (tables_seen c.loop-group.tables) (tables_seen c.args.tables.now) c.in_err-add_group.field-0.0 c.loop-group-test.true c.group-item.is c.in_err-add_group.ensures c.loop-group.invariant)

pub returns : goal.returns
returns c = goes_done with_group c.args.groups.now c.loop-group.group-index (tables_seen c.loop-group.tables) (tables_seen c.args.tables.now) (omega arith) c.loop-group.invariant
