use Rattle.std.proofs.Common.{IsTrue, ◌-◌, ◌<◌, length}
use Rattle.ips_steps.specs.View.{step_of, sort_of}
use Rattle.ips_kinds.specs.Acts.{acts}
use Rattle.ips_folder_tests.proofs.kinds.acts_of.Given as goal

abbrev pub invariant-loop-acts : goal.invariant-loop-acts
invariant-loop-acts g l =
    IsTrue ((goal.Kind-dyn g (l.kind.vtable, l.kind.value)).sorts l.kind.value (sort_of (step_of l.step))) × (l.turn < length (acts (sort_of (step_of l.step))))

abbrev pub decreases-loop-acts : goal.decreases-loop-acts
decreases-loop-acts g l = length (acts (sort_of (step_of l.step))) - l.turn
