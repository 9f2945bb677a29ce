-- Which directories the steps of a plan work in, and which they make.
use Rattle.std.specs.Prelude.{ℕ, Bool, ◌||◌, List, map}
use Rattle.std.specs.List.{list_any}
use Rattle.ips_text.specs.Ancestry.{is_below, same_path}
use Rattle.ips_steps.specs.Private.{records_name}
use Rattle.ips_steps.specs.View.{step_of}
use Rattle.ips_steps.specs.declared.step.Step.{Step}
use Rattle.ips_rehearse.specs.Asked.{goes_through, makes_dir, works_in, works_first}

-- A step makes or takes away something directly in the directory, or it is that of the updater's records, in which marks and the gate are.
abbrev pub is_worked : List Step → List ℕ → Bool
is_worked steps dir = list_any (λ s. works_in dir (step_of s)) steps || same_path records_name dir

-- a step goes through the directory, or the way to the updater's records does
abbrev pub is_passed : List Step → List ℕ → Bool
is_passed steps dir = list_any (λ s. goes_through dir (step_of s)) steps || is_below dir records_name

-- a step makes or takes away something directly in the directory before any makes it or sets its mode
abbrev pub is_worked_first : List Step → List ℕ → Bool
is_worked_first steps dir = works_first dir (map step_of steps)

-- a step makes the directory
abbrev pub is_made : List Step → List ℕ → Bool
is_made steps dir = list_any (λ s. makes_dir dir (step_of s)) steps
