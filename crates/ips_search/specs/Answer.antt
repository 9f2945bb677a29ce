-- What an answer of the search says.
use Rattle.std.specs.Prelude.{ℕ, ◌<◌, ◌≤◌, List, Option}
use Rattle.ips_refute.specs.Meaning.{Meaning}
use Rattle.ips_refute.specs.Refuting.{IsTidyRefutation}
use Rattle.ips_search.specs.declared.state.Found.{Found}
use Rattle.ips_search.specs.declared.state.Found.TheVariants.{Chosen, Refuted, Spent}
use Rattle.ips_search.specs.Best.{IsFirst, IsBest}
use Rattle.ips_search.specs.Beginnings.{beginnings}

-- the first solution, under a limit of at least as many as there are stems; or a refutation whose sets ascend; or spent, where the beginnings that stand no later than the best choice's own are more than the limit
abbrev pub IsAnswer : Meaning → ℕ → Found → Type 0
IsAnswer m limit (Chosen choice) = IsFirst m choice.items × (m.stems ≤ limit)
IsAnswer m limit (Refuted refutation) = IsTidyRefutation m refutation.nogoods.items
IsAnswer m limit Spent = (best : Option (List ℕ)) → IsBest m best → limit < beginnings m best
