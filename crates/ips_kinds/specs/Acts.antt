-- How a step is carried out, act by act.
use Rattle.std.specs.Prelude.{ℕ, ◌+◌, ◌-◌, ◌^◌, min, Bool, true, false, List, [], ◌∷◌}
use Rattle.ips_steps.specs.declared.step.Sort.{Sort}
use Rattle.ips_steps.specs.declared.step.Sort.TheVariants as sort
use Rattle.ips_kinds.specs.declared.kind.Act.{Act}
use Rattle.ips_kinds.specs.declared.kind.Act.TheVariants.{Clear, MakeDir, MakeLink, MakeHard, SetMode, Finished}

-- the acts of each sort of step, turn by turn
abbrev pub acts : Sort → List Act
acts sort.Gone = Clear ∷ Finished ∷ []
acts sort.Fresh = Clear ∷ MakeDir ∷ Finished ∷ []
acts sort.Mode = SetMode ∷ Finished ∷ []
acts sort.Put = Clear ∷ MakeHard ∷ Finished ∷ []
acts sort.Link = Clear ∷ MakeLink ∷ Finished ∷ []
acts sort.Hard = Clear ∷ MakeHard ∷ Finished ∷ []

-- the tally after an act: one more at the end of a step, as long as its counter goes on, and else as it was
abbrev pub tally_after : Act → ℕ → ℕ
tally_after Clear n = n
tally_after MakeDir n = n
tally_after MakeLink n = n
tally_after MakeHard n = n
tally_after SetMode n = n
tally_after Finished n = min (n + 1) (2 ^ 64 - 1)

-- the two are one sort
abbrev pub same_sort : Sort → Sort → Bool
same_sort sort.Gone sort.Gone = true
same_sort sort.Fresh sort.Fresh = true
same_sort sort.Mode sort.Mode = true
same_sort sort.Put sort.Put = true
same_sort sort.Link sort.Link = true
same_sort sort.Hard sort.Hard = true
same_sort s r = false
