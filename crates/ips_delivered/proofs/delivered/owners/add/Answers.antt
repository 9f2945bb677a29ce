use Rattle.std.proofs.Common.{◌≡◌, ◌∙◌, Option, true, sym, subst}
use Rattle.std.specs.Prelude.{IfSome}
use Rattle.ips_text.specs.Path.{IsPath}
use Rattle.ips_conflict.specs.declared.placed.Placed.{Placed}
use Rattle.ips_delivered.specs.delivered.Delivering.{owns}
use Rattle.ips_delivered.specs.delivered.Kept.{owner_at}
use Rattle.ips_delivered.proofs.delivered.Owning.{HasOwnPath, owns_self, path_with}
use Rattle.ips_delivered.proofs.delivered.owners.add.Goals as goal

pub returns-clause-proper : goal.returns-clause-proper
returns-clause-proper c = λ q so_far.
    let own = c.as_bytes.result.now in
    let item = c.args.item.now in
    let some = c.in-Some.ensures.some in
    let owned : owns own item ≡ true = owns_self own item some.0 (c.as_bytes.ensures.value ∙ some.1) in
    let is : IsPath own = subst IsPath (sym c.as_bytes.ensures.value) some.2 in
    subst (λ (o : Option Placed). IfSome o (HasOwnPath q)) (sym (c.in_ok-put.ensures q)) (path_with q own (owner_at c.args.owners.now q) item so_far owned is)
