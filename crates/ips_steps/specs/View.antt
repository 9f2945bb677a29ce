-- What a step in the program means.
use Rattle.ips_steps.specs.Steps.{Step, Gone, Fresh, Mode, Put, Symlink, Hard}
use Rattle.ips_steps.specs.declared.step.Step as program
use Rattle.ips_steps.specs.declared.step.Step.TheVariants as step
use Rattle.ips_steps.specs.declared.step.Sort.{Sort}
use Rattle.ips_steps.specs.declared.step.Sort.TheVariants as sort

-- the step by its bytes
abbrev pub step_of : program.Step → Step
step_of (step.Gone path) = Gone path.bytes
step_of (step.Fresh path mode) = Fresh mode path.bytes
step_of (step.Mode path mode) = Mode mode path.bytes
step_of (step.Put path mode stage) = Put stage mode path.bytes
step_of (step.Link path target) = Symlink path.bytes target.bytes
step_of (step.Hard path to) = Hard path.bytes to.bytes

-- the sort of a step
abbrev pub sort_of : Step → Sort
sort_of (Gone p) = sort.Gone
sort_of (Fresh m p) = sort.Fresh
sort_of (Mode m p) = sort.Mode
sort_of (Put n m p) = sort.Put
sort_of (Symlink p target) = sort.Link
sort_of (Hard p to) = sort.Hard
