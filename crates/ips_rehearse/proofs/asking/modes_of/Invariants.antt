use Rattle.std.proofs.Common.{◌≡◌, ℕ, take}
use Rattle.std.specs.List.{list_any}
use Rattle.ips_outside.specs.Tearing.{in_set}
use Rattle.ips_steps.specs.View.{step_of}
use Rattle.ips_rehearse.specs.Asked as asked
use Rattle.ips_rehearse.specs.Tried.{in_modes}
use Rattle.ips_rehearse.proofs.asking.modes_of.Given as goal

abbrev pub invariant-loop-step : goal.invariant-loop-step
invariant-loop-step l = record {
  worked : (m : ℕ) → in_modes l.modes.worked.has m ≡ list_any (λ s. asked.gives_worked (in_set l.worked) (in_set l.passed) m (step_of s)) (take l.step-index l.steps);
  dirs : (m : ℕ) → in_modes l.modes.dirs.has m ≡ list_any (λ s. asked.gives_dir m (step_of s)) (take l.step-index l.steps);
  files : (m : ℕ) → in_modes l.modes.files.has m ≡ list_any (λ s. asked.gives_file m (step_of s)) (take l.step-index l.steps);
}
