use Rattle.ips_action.proofs.check.meets.Goals as goal

pub returns-in-HardlinkTarget : goal.returns-in-HardlinkTarget
returns-in-HardlinkTarget c = rw c.in-HardlinkTarget.is c.leads_inside.ensures
