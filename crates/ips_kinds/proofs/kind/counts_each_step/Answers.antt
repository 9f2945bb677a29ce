use Rattle.ips_kinds.proofs.Counting.{own_steps, steps_together, room_of}
use Rattle.ips_kinds.proofs.kind.counts_each_step.Goals as goal

pub returns : goal.returns
returns c = record { own = own_steps; together = λ kinds steps takes all. steps_together steps kinds takes (room_of _ kinds all) }
