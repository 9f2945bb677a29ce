use Rattle.std.proofs.Common.{◌≡◌, take, subst, Some}
use Rattle.ips_action.specs.Action.{IfName}
use Rattle.ips_action.proofs.Spelled.{name_is_text}
use Rattle.ips_index.proofs.scanning.push_payload.Goals as goal

pub unreachable-requires : goal.unreachable-requires
unreachable-requires c =
    let named : c.action.inside.payload ≡ Some c.in-Some.name = c.in-Some.is in
    name_is_text c.in-Some.name (take c.print-count.result c.print-count.new.out) (subst IfName named c.action.invariant.named) c.print-count.ensures.spelled c.in-Err.ensures.cases.0
