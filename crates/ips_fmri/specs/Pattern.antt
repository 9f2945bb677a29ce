-- Patterns: how they are written, and what they match.
use Rattle.std.specs.Prelude.{◌≡◌, ◌≢◌, ℕ, ◌⊎◌, Bool, true, false, List, [], ◌∷◌, ◌++◌, Option, Some, None}
use Rattle.ips_fmri.specs.declared.pattern.Pattern.{Pattern}
use Rattle.ips_fmri.specs.Version.{Parts}
use Rattle.ips_fmri.specs.Order.{Incorporates}
use Rattle.ips_fmri.specs.Fmri.{IsName, lead_text, version_part_text}

-- a name with a publisher is anchored
abbrev pub IfAnchored : Option (List ℕ) → Bool → Type 0
IfAnchored None anchored = Unit {0}
IfAnchored (Some publisher) anchored = anchored ≡ true

-- what a pattern consists of
pub record IsPattern (p : Pattern) : Type 0 where
  pub name : IsName true p
  pub anchored : IfAnchored p.publisher p.anchored

-- the canonical spelling of a pattern
abbrev pub pattern_text : Pattern → List ℕ
pattern_text p = lead_text p.publisher p.anchored ++ p.stem ++ version_part_text p.version

-- a character of a pattern meets a character of a text: the same one, and `?` each one where marks are wildcards too
abbrev pub MatchesCharacter : Bool → ℕ → ℕ → Type 0
MatchesCharacter marks c d = ((marks ≡ true) × (c ≡ 63)) ⊎ (c ≡ d)

-- characters match: `*` stands for some text, `?` for some one character where marks are wildcards too, any other character for itself
abbrev pub MatchesBy : Bool → List ℕ → List ℕ → Type 0
MatchesBy marks [] text = text ≡ []
MatchesBy marks (c ∷ pattern) text =
    ((c ≡ 42) × ((some : List ℕ) × (rest : List ℕ) × (text ≡ some ++ rest) × MatchesBy marks pattern rest))
    ⊎ ((c ≢ 42) × ((one : ℕ) × (rest : List ℕ) × (text ≡ one ∷ rest) × MatchesCharacter marks c one × MatchesBy marks pattern rest))

-- a pattern in which `*` stands for some text and `?` for some one character
abbrev pub Matches : List ℕ → List ℕ → Type 0
Matches pattern text = MatchesBy true pattern text

-- a pattern in which `*` alone is a wildcard
abbrev pub MatchesStars : List ℕ → List ℕ → Type 0
MatchesStars pattern text = MatchesBy false pattern text

-- the pattern matches what follows one of the stem's `/`
abbrev pub MatchesBehindSlash : List ℕ → List ℕ → Type 0
MatchesBehindSlash pattern stem = (front : List ℕ) × (rest : List ℕ) × (stem ≡ front ++ 47 ∷ rest) × Matches pattern rest

-- an anchored pattern matches the whole stem; another one the stem, or what follows one of its `/`
abbrev pub MatchesStem : Bool → List ℕ → List ℕ → Type 0
MatchesStem anchored pattern stem = Matches pattern stem ⊎ ((anchored ≡ false) × MatchesBehindSlash pattern stem)

-- a pattern with a version admits the versions that incorporate it, and one without admits all
abbrev pub Admits : Option Parts → Parts → Type 0
Admits None version = Unit {0}
Admits (Some limit) version = Incorporates version limit
