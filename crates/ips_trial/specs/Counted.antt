-- How far the tallies of the kinds rise.
use Rattle.std.specs.Prelude.{◌≡◌, ℕ, ◌+◌, ◌^◌, ◌<◌, All, IsTrue, List}
use Rattle.ips_steps.specs.declared.step.Sort.{Sort}
use Rattle.ips_kinds.specs.Tallies.{Carrier, taken, tally_of_all}

-- Each sort of step has a kind that takes it.
abbrev pub TakeAll : List Carrier → Type 0
TakeAll kinds = (s : Sort) → IsTrue (taken kinds s)

-- The kinds together have finished so many steps more, where the tally of none comes past the last value of its counter.
abbrev pub HaveFinished : ℕ → List Carrier → List Carrier → Type 0
HaveFinished count old new = All (λ k. k.finished + count < 2 ^ 64) old → tally_of_all new ≡ tally_of_all old + count
