-- What a refutation is.
use Rattle.std.specs.Prelude.{◌≡◌, ℕ, ◌-◌, ◌<◌, ◌≢◌, true, List, [], ◌∷◌, length, take, slice_get, All, Some}
use Rattle.ips_refute.specs.declared.nogoods.Pair.{Pair}
use Rattle.ips_refute.specs.declared.nogoods.Nogood.{Nogood}
use Rattle.ips_refute.specs.declared.nogoods.Reason.{Reason}
use Rattle.ips_refute.specs.declared.nogoods.Reason.TheVariants.{Test, Earlier}
use Rattle.ips_refute.specs.Meaning.{Meaning, IsSubset, Ascends, OnePerStem, IsOffered}

-- it contains the set of the earlier nogood of that number
abbrev pub ContainsEarlier : List Nogood → ℕ → List Pair → Type 0
ContainsEarlier earlier n set = (g : Nogood) × (slice_get earlier n ≡ Some g) × IsSubset g.set.items set

-- `set` has the candidate in it: it breaks the test, or contains the set of the earlier nogood
abbrev pub Explains : Meaning → List Nogood → List Pair → Reason → Type 0
Explains m earlier set (Test t) = (t < m.tests) × (m.breaks t set ≡ true)
Explains m earlier set (Earlier n) = ContainsEarlier earlier n set

-- each reason holds of the candidate at its place
abbrev pub ExplainsEach : Meaning → List Nogood → List Pair → ℕ → List Reason → Type 0
ExplainsEach m earlier set stem reasons = (c : ℕ) (r : Reason) → slice_get reasons c ≡ Some r → Explains m earlier (record { stem = stem; candidate = c } ∷ set) r

-- a nogood: numbers below the puzzle's, one pair per stem, the further stem apart, and a reason that holds for each of its candidates
pub record IsNogood (m : Meaning) (earlier : List Nogood) (g : Nogood) : Type 0 where
  pub offered : All (IsOffered m) g.set.items
  pub one_per_stem : OnePerStem g.set.items
  pub known : g.stem < m.stems
  pub free : All (λ q. q.stem ≢ g.stem) g.set.items
  pub each : length g.reasons.items ≡ m.candidates g.stem
  pub explained : ExplainsEach m earlier g.set.items g.stem g.reasons.items

-- each is a nogood over the ones before it
abbrev pub AreNogoods : Meaning → List Nogood → Type 0
AreNogoods m nogoods = (i : ℕ) (g : Nogood) → slice_get nogoods i ≡ Some g → IsNogood m (take i nogoods) g

-- there is a last set, and it is empty
abbrev pub EndsEmpty : List Nogood → Type 0
EndsEmpty nogoods = (g : Nogood) × (0 < length nogoods) × (slice_get nogoods (length nogoods - 1) ≡ Some g) × (g.set.items ≡ [])

-- a refutation: nogoods that end with the empty set
abbrev pub IsRefutation : Meaning → List Nogood → Type 0
IsRefutation m nogoods = AreNogoods m nogoods × EndsEmpty nogoods

-- a refutation whose sets stand by ascending stem
abbrev pub IsTidyRefutation : Meaning → List Nogood → Type 0
IsTidyRefutation m nogoods = IsRefutation m nogoods × All (λ g. Ascends g.set.items) nogoods
