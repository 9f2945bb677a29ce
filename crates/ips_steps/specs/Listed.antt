-- Lists of steps with numbered contents.
use Rattle.std.specs.Prelude.{◌≡◌, ℕ, ◌<◌, Bool, true, nat_lt, IsTrue, List, slice_get, Some, is_some}
use Rattle.std.specs.List.{AllByRecursion}
use Rattle.ips_steps.specs.Steps.{Step, Gone, Fresh, Mode, Put, Symlink, Hard, Stage}
use Rattle.ips_steps.specs.Journal.{AllProper, numbered}

-- the content of a file is one of so many
abbrev pub is_within : ℕ → Step → Bool
is_within count (Gone p) = true
is_within count (Fresh m p) = true
is_within count (Mode m p) = true
is_within count (Put n m p) = nat_lt n count
is_within count (Symlink p target) = true
is_within count (Hard p to) = true

-- Each step has proper parts, and the content of each file is one of so many, numbered from 0 on in the order of the steps.
pub record AreListed (count : ℕ) (steps : List Step) : Type 0 where
  pub proper : AllProper steps
  pub contents : AllByRecursion (λ s. IsTrue (is_within count s)) steps
  pub numbers : IsTrue (numbered 0 steps)

-- so many contents have bytes
abbrev pub HasEach : ℕ → Stage → Type 0
HasEach count stage = (n : ℕ) → n < count → IsTrue (is_some (stage n))

-- each content has bytes that its name asks for
abbrev pub AreContents : {A : Type 0} → (A → List ℕ → Type 0) → List A → Stage → Type 0
AreContents {A} P names stage = (n : ℕ) (name : A) → slice_get names n ≡ Some name → (bytes : List ℕ) × (stage n ≡ Some bytes) × P name bytes
