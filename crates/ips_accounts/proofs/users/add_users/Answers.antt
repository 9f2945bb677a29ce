use Rattle.std.proofs.Common.{refl, arith}
use Rattle.std.proofs.lemmas.Result.{err_from_is_err_and}
use Rattle.ips_accounts.specs.Seen.{tables_seen}
use Rattle.ips_accounts.specs.Editing.{with_user}
use Rattle.ips_accounts.proofs.Steps.{goes_more, goes_fails, goes_done}
use Rattle.ips_accounts.proofs.users.add_users.Goals as goal

pub loop-user-init : goal.loop-user-init
loop-user-init c = refl

pub loop-user-preserved : goal.loop-user-preserved
loop-user-preserved c =
    goes_more with_user c.args.users.now c.loop-user.user-index c.user-item.result (tables_seen c.loop-user.tables) (tables_seen c.add_user.new.tables) (tables_seen c.args.tables.now) c.loop-user-test.true c.user-item.is c.in_ok-add_user.ensures c.loop-user.invariant

pub returns-in_err-add_user : goal.returns-in_err-add_user
returns-in_err-add_user c =
    let p = err_from_is_err_and c.from_residual.result c.from_residual.ensures.1 in
    rw (p.1, p.2) (goes_fails with_user c.args.users.now c.loop-user.user-index c.user-item.result (tables_seen c.loop-user.tables) (tables_seen c.args.tables.now) c.in_err-add_user.field-0.0 c.loop-user-test.true c.user-item.is c.in_err-add_user.ensures c.loop-user.invariant)

pub returns : goal.returns
returns c = goes_done with_user c.args.users.now c.loop-user.user-index (tables_seen c.loop-user.tables) (tables_seen c.args.tables.now) (omega arith) c.loop-user.invariant
