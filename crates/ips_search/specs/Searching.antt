-- What a search knows as it stands at one candidate of one stem.
use Rattle.std.specs.Prelude.{◌≡◌, ℕ, zero, suc, ◌+◌, ◌<◌, ◌≤◌, List, [], ◌∷◌, ◌++◌, length, take, get_or, slice_get, slice_index, All, Option, Some, None, Bool, true, IsTrue, IsFalse}
use Rattle.ips_refute.specs.declared.nogoods.Pair.{Pair}
use Rattle.ips_refute.specs.declared.nogoods.Nogood.{Nogood}
use Rattle.ips_refute.specs.Meaning.{Meaning, Ascends, IsSubset, IsBeginning, BreaksNone, Solves, pairs}
use Rattle.ips_refute.specs.Refuting.{Explains, ExplainsEach, AreNogoods, IsTidyRefutation}
use Rattle.ips_refute.specs.declared.nogoods.Reason.{Reason}
use Rattle.ips_search.specs.declared.state.Failure.{Failure}
use Rattle.ips_search.specs.declared.state.Level.{Level}
use Rattle.ips_search.specs.declared.state.State.{State}
use Rattle.ips_search.specs.declared.state.Guide.{Guide}
use Rattle.ips_search.specs.Indexing.{IsIndexed}
use Rattle.ips_search.specs.Best.{NotLater, IsBest}
use Rattle.ips_search.specs.Beginnings.{own, sum_below, beginnings_from}

-- why each candidate at a stem that was tried fails, after the choice for the stems before it
pub record IsLevel (m : Meaning) (nogoods : List Nogood) (choice : List ℕ) (level : Level) : Type 0 where
  pub within : IsSubset level.set.items (pairs choice)
  pub ascends : Ascends level.set.items
  pub explained : ExplainsEach m nogoods level.set.items (length choice) level.reasons.items

-- the part of `beginnings_from` that stands before a place in the search
abbrev pub passed : Meaning → Option (List ℕ) → ℕ → List ℕ → List ℕ → ℕ
passed m best left choice [] = 0
passed m best zero choice (c ∷ place) = own choice
passed m best (suc left) choice (c ∷ place) = own choice + sum_below (λ x. beginnings_from m best left (choice ++ x ∷ [])) c + passed m best left (choice ++ c ∷ []) place

-- the choice so far, and the candidate that comes next
abbrev pub place : State → List ℕ
place s = s.choice.items ++ length s.top.reasons.items ∷ []

-- where a search stands: all that it knows is so, and no solution stands before the place
pub record IsSearching (m : Meaning) (s : State) : Type 0 where
  pub paired : s.pairs.items ≡ pairs s.choice.items
  pub begun : IsBeginning m s.choice.items
  pub learned : AreNogoods m s.nogoods.items
  pub sorted : All (λ g. Ascends g.set.items) s.nogoods.items
  pub as_deep : length s.levels.items ≡ length s.choice.items
  pub levels : (i : ℕ) (level : Level) → slice_get s.levels.items i ≡ Some level → IsLevel m s.nogoods.items (take i s.choice.items) level × (length level.reasons.items ≡ slice_index s.choice.items i)
  pub top : IsLevel m s.nogoods.items s.choice.items s.top
  pub tried : length s.choice.items < m.stems → length s.top.reasons.items ≤ m.candidates (length s.choice.items)
  pub ahead : (choice : List ℕ) → Solves m choice → NotLater (place s) choice

-- so many beginnings were reached
pub record IsCounted (m : Meaning) (s : State) (count : ℕ) : Type 0 where
  pub counted : (best : Option (List ℕ)) → IsBest m best → count ≤ passed m best m.stems [] (place s)
  pub deep : length s.choice.items ≤ count

-- part of the choice with which the new pair fails for the reason
pub record IsCore (m : Meaning) (nogoods : List Nogood) (whole : List Pair) (more : Pair) (reason : Reason) (core : List Pair) : Type 0 where
  pub inside : IsSubset core whole
  pub ascends : Ascends core
  pub explained : Explains m nogoods (more ∷ core) reason

-- the candidate that comes next, as a pair
abbrev pub next_pair : State → Pair
next_pair s = record { stem = length s.choice.items; candidate = length s.top.reasons.items }

-- one more candidate failed
pub record Rejected (m : Meaning) (before after : State) : Type 0 where
  pub searching : IsSearching m after
  pub same : after.choice.items ≡ before.choice.items
  pub tried : length after.top.reasons.items ≡ length before.top.reasons.items + 1
  pub keeps : (n : ℕ) → IsCounted m before n → IsCounted m after n

-- what is counted stays counted
abbrev pub KeepsCount : Meaning → State → State → Type 0
KeepsCount m before after = (n : ℕ) → IsCounted m before n → IsCounted m after n

-- at a next beginning, or at the end of the candidates
pub record Settled (m : Meaning) (before after : State) (found : Bool) : Type 0 where
  pub searching : IsSearching m after
  pub same : after.choice.items ≡ before.choice.items
  pub keeps : KeepsCount m before after
  pub begins : IsTrue found → IsBeginning m (place after)
  pub room : length after.choice.items < m.stems
  pub ends : IsFalse found → length after.top.reasons.items ≡ m.candidates (length after.choice.items)

-- refuted, or back at an earlier stem
pub record Retreated (m : Meaning) (before after : State) (done : Bool) : Type 0 where
  pub refuted : IsTrue done → IsTidyRefutation m after.nogoods.items
  pub searching : IsFalse done → IsSearching m after
  pub shorter : IsFalse done → length after.choice.items < length before.choice.items
  pub keeps : IsFalse done → KeepsCount m before after

-- at the next beginning, or refuted
pub record Moved (m : Meaning) (before after : State) (found : Bool) : Type 0 where
  pub refuted : IsFalse found → IsTidyRefutation m after.nogoods.items
  pub searching : IsTrue found → IsSearching m after
  pub begins : IsTrue found → IsBeginning m (place after)
  pub room : IsTrue found → length after.choice.items < m.stems
  pub keeps : IsTrue found → KeepsCount m before after

-- the candidate that came next is taken
pub record Advanced (m : Meaning) (before after : State) : Type 0 where
  pub searching : IsSearching m after
  pub counts : (n : ℕ) → IsCounted m before n → IsCounted m after (n + 1)

-- the nogood that the stem at the top gives
abbrev pub top_nogood : State → Nogood
top_nogood s = record { set = s.top.set; stem = length s.choice.items; reasons = s.top.reasons }

-- back where the search stood at an earlier stem, with the nogood of the top one
pub record Restored (before after : State) (stem : ℕ) : Type 0 where
  pub choice : after.choice.items ≡ take stem before.choice.items
  pub chosen : after.pairs.items ≡ take stem before.pairs.items
  pub levels : after.levels.items ≡ take stem before.levels.items
  pub top : slice_get before.levels.items stem ≡ Some after.top
  pub nogoods : after.nogoods.items ≡ before.nogoods.items ++ top_nogood before ∷ []

-- the candidate that comes next breaks nothing, or fails for a reason
abbrev pub IsJudged : Meaning → State → Option Failure → Type 0
IsJudged m s None = BreaksNone m (pairs (place s))
IsJudged m s (Some failure) = IsCore m s.nogoods.items s.pairs.items (next_pair s) failure.reason failure.core.items

-- the set is the new pair behind pairs of the choice
abbrev pub EndsWith : List Pair → List Pair → Pair → Type 0
EndsWith set chosen more = (rest : List Pair) × (set ≡ rest ++ more ∷ []) × IsSubset rest chosen

-- the choice with the new pair has the set of that nogood, and the new pair ends it
abbrev pub HasKept : List Nogood → List Pair → Pair → ℕ → Type 0
HasKept nogoods chosen more n = (g : Nogood) × (slice_get nogoods n ≡ Some g) × EndsWith g.set.items chosen more

-- the test is broken with a front of the choice beside the pairs that are kept, which all come behind it
pub record IsKept (m : Meaning) (whole : List Pair) (more : Pair) (test front : ℕ) (kept : List Pair) : Type 0 where
  pub bounded : front ≤ length whole
  pub inside : IsSubset kept whole
  pub ascends : Ascends kept
  pub behind : (k j : ℕ) (d e : Pair) → k < length kept → j < front → (get_or whole j e).stem < (get_or kept k d).stem
  pub broken : m.breaks test (more ∷ (take front whole ++ kept)) ≡ true

-- a guide that learns finds each test by its last stem
abbrev pub IsGuide : Meaning → Guide → Type 0
IsGuide m guide = IsTrue guide.learns → IsIndexed m guide.tests
