-- Kinds that stand one after another, and what they have finished.
use Rattle.std.specs.Prelude.{◌≡◌, ℕ, ◌+◌, Bool, false, cond, ◌||◌, IsTrue, IsFalse, List, [], ◌∷◌, map, take, slice_get, Some}
use Rattle.ips_steps.specs.Steps.{Step}
use Rattle.ips_steps.specs.View.{sort_of}
use Rattle.ips_steps.specs.declared.step.Sort.{Sort}
use Rattle.ips_kinds.specs.Acts.{tally_after, same_sort}
use Rattle.ips_kinds.specs.declared.kind.Act.TheVariants.{Finished}

-- A kind by the sorts that it takes, and by how many steps it has finished.
pub record Carrier : Type 0 where
  pub sorts : Sort → Bool
  pub finished : ℕ

-- the kinds of a list, as they are seen
abbrev pub seen_by : {K : Type 0} → (K → Sort → Bool) → (K → ℕ) → List K → List Carrier
seen_by sorts finished kinds = map (λ k. record { sorts = sorts k; finished = finished k }) kinds

-- some kind takes the sort
abbrev pub taken : List Carrier → Sort → Bool
taken [] s = false
taken (k ∷ rest) s = k.sorts s || taken rest s

-- a kind that has finished one more step
abbrev pub one_more : Carrier → Carrier
one_more k = record { sorts = k.sorts; finished = tally_after Finished k.finished }

-- the kinds when a step of this sort is finished by the first that takes it
abbrev pub counted : Sort → List Carrier → List Carrier
counted s [] = []
counted s (k ∷ rest) = cond (k.sorts s) (one_more k ∷ rest) (k ∷ counted s rest)

-- the kinds when these steps are finished, one after another
abbrev pub all_counted : List Step → List Carrier → List Carrier
all_counted [] kinds = kinds
all_counted (s ∷ rest) kinds = all_counted rest (counted (sort_of s) kinds)

-- how many steps of the sort there are
abbrev pub count_of_sort : Sort → List Step → ℕ
count_of_sort s [] = 0
count_of_sort s (x ∷ rest) = cond (same_sort s (sort_of x)) (count_of_sort s rest + 1) (count_of_sort s rest)

-- how many steps the kinds have finished together
abbrev pub tally_of_all : List Carrier → ℕ
tally_of_all [] = 0
tally_of_all (k ∷ rest) = k.finished + tally_of_all rest

-- The kind at this place takes the sort, and none before it does.
pub record IsFirstTaker (kinds : List Carrier) (s : Sort) (place : ℕ) : Type 0 where
  pub kind : Carrier
  pub stands : slice_get kinds place ≡ Some kind
  pub takes : IsTrue (kind.sorts s)
  pub first : IsFalse (taken (take place kinds) s)
