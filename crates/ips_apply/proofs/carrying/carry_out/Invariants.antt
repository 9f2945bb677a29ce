use Rattle.std.proofs.Common.{◌≡◌, ◌-◌, ◌<◌, length}
use Rattle.ips_steps.specs.View.{step_of, sort_of}
use Rattle.ips_kinds.specs.Acts.{acts}
use Rattle.ips_apply.proofs.Carried.{InTurn}
use Rattle.ips_apply.proofs.carrying.carry_out.Given as goal

abbrev pub invariant-loop-folder : goal.invariant-loop-folder
invariant-loop-folder g l = record {
  sorts : (goal.Kind-dyn g (l.kind.vtable, l.kind.value)).sorts l.kind.value ≡ (goal.Kind-dyn g (l.fn.kind.vtable, l.fn.kind.value)).sorts l.fn.kind.value;
  finished : (goal.Kind-dyn g (l.kind.vtable, l.kind.value)).finished l.kind.value ≡ (goal.Kind-dyn g (l.fn.kind.vtable, l.fn.kind.value)).finished l.fn.kind.value;
  turn : l.turn < length (acts (sort_of (step_of l.step)));
  acts : InTurn g.F.Source.outside (step_of l.step) l.fn.folder l.folder l.turn;
}

abbrev pub decreases-loop-folder : goal.decreases-loop-folder
decreases-loop-folder g l = length (acts (sort_of (step_of l.step))) - l.turn
