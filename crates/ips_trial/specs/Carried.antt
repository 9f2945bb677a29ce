-- How far the tallies of the kinds rise as steps are finished.
use Rattle.std.specs.Prelude.{◌≡◌, ℕ, ◌+◌, ◌-◌, ◌^◌, min, List, length}
use Rattle.ips_counts.specs.declared.sorts.Sorts.{Sorts}
use Rattle.ips_steps.specs.Steps.{Step}
use Rattle.ips_kinds.specs.Tallies.{Carrier, all_counted}

-- How many steps there are of all sorts together, up to the last value of a counter.
abbrev pub number_in : Sorts → ℕ
number_in s = min (s.gone + s.fresh + s.mode + s.put + s.link + s.hard) (2 ^ 64 - 1)

-- Steps are finished one after another, each by the first kind that takes it: so many, up to the last value of a counter.
pub record AreFinished (count : ℕ) (old new : List Carrier) : Type 0 where
  pub steps : List Step
  pub many : count ≡ min (length steps) (2 ^ 64 - 1)
  pub counted : new ≡ all_counted steps old
