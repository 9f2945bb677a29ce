use Rattle.std.proofs.Common.{◌∙◌}
use Rattle.ips_conflict.proofs.Tabled.{hardlink_leads, none_leads}
use Rattle.ips_conflict.proofs.alike.end_of.Goals as goal

pub unreachable-requires : goal.unreachable-requires
unreachable-requires c =
    none_leads _ _ _ _ (c.as_bytes-path.ensures.value ∙ c.value.ensures.value) (c.as_bytes-target.ensures.value ∙ c.value-2.ensures.value) (rw c.in-None.is at c.in_ok-end.ensures.none)
    (hardlink_leads c.args.action.now c.value.ensures.action c.requires)
