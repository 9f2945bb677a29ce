-- What a pattern without `*` looks for in a text, on the way to what a whole pattern matches. All lists are of characters.
use Rattle.std.specs.Prelude.{◌≡◌, ◌≢◌, ℕ, ◌≤◌, Bool, List, [], ◌∷◌, ◌++◌, length}
use Rattle.std.specs.List.{AllByRecursion}
use Rattle.ips_fmri.specs.Pattern.{MatchesCharacter}

-- none of the characters is this one
abbrev pub HasNone : ℕ → List ℕ → Type 0
HasNone c text = AllByRecursion (λ (d : ℕ). d ≢ c) text

-- the characters meet those of a text one by one
abbrev pub AllMeet : Bool → List ℕ → List ℕ → Type 0
AllMeet marks [] [] = Unit {0}
AllMeet marks [] (d ∷ text) = ⊥
AllMeet marks (c ∷ pattern) [] = ⊥
AllMeet marks (c ∷ pattern) (d ∷ text) = MatchesCharacter marks c d × AllMeet marks pattern text

-- they meet a beginning of the text, behind which the rest stands
abbrev pub MeetsFront : Bool → List ℕ → List ℕ → List ℕ → Type 0
MeetsFront marks pattern text rest = (met : List ℕ) × (text ≡ met ++ rest) × AllMeet marks pattern met

-- they meet an end of the text
abbrev pub MeetsEnd : Bool → List ℕ → List ℕ → Type 0
MeetsEnd marks pattern text = (before : List ℕ) × (met : List ℕ) × (text ≡ before ++ met) × AllMeet marks pattern met

-- they meet some of the text, behind which the rest stands
abbrev pub MeetsSome : Bool → List ℕ → List ℕ → List ℕ → Type 0
MeetsSome marks pattern text rest = (before : List ℕ) × (met : List ℕ) × (text ≡ before ++ met ++ rest) × AllMeet marks pattern met

-- the same, at the first place: no longer rest stands behind what they meet
pub record MeetsFirst (marks : Bool) (pattern text rest : List ℕ) : Type 0 where
  pub some : MeetsSome marks pattern text rest
  pub first : (other : List ℕ) → MeetsSome marks pattern text other → length other ≤ length rest
