use Rattle.std.proofs.Common.{◌≡◌, sym, subst, rules}
use Rattle.std.specs.Result.{IfOk}
use Rattle.std.specs.BTreeMap.{values}
use Rattle.ips_request.proofs.Results.{ok_then}
use Rattle.ips_asked.specs.Keyed.{IsListed}
use Rattle.ips_asked.proofs.Latest.{listed}
use Rattle.ips_asked.proofs.named.in_order.Goals as goal

pub returns : goal.returns
returns g c =
    let es = c.args.by_name.entries in
    let given : IfOk c.collect.result (λ v. v.items ≡ values c.args.by_name) = search rules in
    ok_then _ _ c.collect.result given (λ v is. subst (IsListed g.T.Named.name_of es) (sym is) (listed g.T.Named.name_of es c.len-length.ensures.ordered c.requires))
