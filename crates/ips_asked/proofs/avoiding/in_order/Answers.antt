use Rattle.std.proofs.Common.{◌≡◌, sym, subst, rules}
use Rattle.std.specs.Result.{IfOk}
use Rattle.ips_state.specs.State.{Ascend}
use Rattle.ips_request.proofs.Results.{ok_then}
use Rattle.ips_asked.proofs.avoiding.in_order.Goals as goal

pub returns-clause-order : goal.returns-clause-order
returns-clause-order c =
    let stems : IfOk c.collect.result (λ v. v.items ≡ c.args.all.keys) = search rules in
    ok_then _ _ c.collect.result stems (λ v is. subst Ascend (sym is) c.into_iter.ensures.into_iter_gives.4)
