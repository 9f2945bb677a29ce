-- What the patterns of a request name, and the first that names nothing, or one of several.
use Rattle.std.specs.Prelude.{◌≡◌, ℕ, ◌<◌, ◌⊎◌, Bool, ◌||◌, if◌then◌else◌, List, [], ◌∷◌, map, length, Option, Some, None}
use Rattle.std.specs.List.{list_any}
use Rattle.std.specs.Str.{chars}
use Rattle.ips_fmri.specs.Name.{is_wildcard}
use Rattle.ips_fmri.specs.Pattern.{MatchesStem, pattern_text}
use Rattle.ips_fmri.specs.declared.pattern.Pattern.{Pattern}
use Rattle.ips_catalog.specs.Listed.{Listed}
use Rattle.ips_state.specs.State.{Installed, Ascend}
use Rattle.ips_request.specs.declared.fault.ProblemFault.{ProblemFault}
use Rattle.ips_request.specs.declared.fault.ProblemFault.TheVariants as fault
use Rattle.ips_request.specs.Stems.{has}
use Rattle.ips_request.specs.Case.{Naming}

-- the stems of the catalog
abbrev pub listed_stems : List Listed → List (List ℕ)
listed_stems catalog = map (λ (l : Listed). l.stem) catalog

-- the stems of the installed packages
abbrev pub installed_stems : List Installed → List (List ℕ)
installed_stems packages = map (λ (p : Installed). p.stem) packages

-- These are the stems that are listed or installed, each once, by their bytes.
pub record AreKnown (catalog : List Listed) (packages : List Installed) (known : List (List ℕ)) : Type 0 where
  pub each : (stem : List ℕ) → has stem known ≡ (has stem (listed_stems catalog) || has stem (installed_stems packages))
  pub order : Ascend known

-- the pattern names a publisher's packages: it has no publisher, or this one
abbrev pub IsOf : List ℕ → Option (List ℕ) → Type 0
IsOf publisher None = Unit {0}
IsOf publisher (Some other) = other ≡ publisher

-- the pattern matches the stem of a package of the publisher
abbrev pub IsMatch : List ℕ → Pattern → List ℕ → Type 0
IsMatch publisher p stem = IsOf publisher p.publisher × MatchesStem p.anchored (chars p.stem) (chars stem)

-- these are the stems that the pattern matches, in their order
abbrev pub AreMatched : List ℕ → Pattern → List (List ℕ) → List (List ℕ) → Type 0
AreMatched publisher p [] matched = matched ≡ []
AreMatched publisher p (stem ∷ known) matched =
    (IsMatch publisher p stem × ((rest : List (List ℕ)) × (matched ≡ stem ∷ rest) × AreMatched publisher p known rest))
    ⊎ ((IsMatch publisher p stem → ⊥) × AreMatched publisher p known matched)

-- a wildcard stands in the pattern
abbrev pub is_wild : Pattern → Bool
is_wild p = list_any is_wildcard p.stem

-- the only one of the stems
abbrev pub sole : List ℕ → List (List ℕ) → Option (List (List ℕ))
sole stem [] = Some (stem ∷ [])
sole stem (other ∷ others) = None

-- The stems that a pattern names among those that it matches: with a wildcard all of them, and without one the stem that equals
-- it, or else the only one. None where it names no stem.
abbrev pub named_among : Pattern → List (List ℕ) → Option (List (List ℕ))
named_among p [] = None
named_among p (stem ∷ stems) = if is_wild p then Some (stem ∷ stems) else (if has p.stem (stem ∷ stems) then Some (p.stem ∷ []) else sole stem stems)

-- the pattern names these stems among the known ones
abbrev pub Names : List ℕ → List (List ℕ) → Pattern → List (List ℕ) → Type 0
Names publisher known p named = (matched : List (List ℕ)) × AreMatched publisher p known matched × (named_among p matched ≡ Some named)

-- the pattern matches nothing, or several stems of which it names none
abbrev pub IsUnnamed : Pattern → List (List ℕ) → ProblemFault → Type 0
IsUnnamed p matched (fault.NoMatch pattern) = (matched ≡ []) × (pattern ≡ pattern_text p)
IsUnnamed p matched (fault.Ambiguous pattern stems) = (1 < length matched) × (named_among p matched ≡ None) × (pattern ≡ pattern_text p) × (stems.items ≡ matched)
IsUnnamed p matched (fault.ManifestMissing fmri) = ⊥
IsUnnamed p matched (fault.BadManifest fmri why) = ⊥
IsUnnamed p matched (fault.BadDepend fmri line) = ⊥
IsUnnamed p matched (fault.TooLarge which count) = ⊥
IsUnnamed p matched fault.SourceFault = ⊥

-- the fault is that of the first pattern that names no stem
abbrev pub IsFirstUnnamed : List ℕ → List (List ℕ) → List Pattern → ProblemFault → Type 0
IsFirstUnnamed publisher known [] why = ⊥
IsFirstUnnamed publisher known (p ∷ patterns) why =
    ((matched : List (List ℕ)) × AreMatched publisher p known matched × IsUnnamed p matched why)
    ⊎ (((named : List (List ℕ)) × Names publisher known p named) × IsFirstUnnamed publisher known patterns why)

-- what each of the patterns names, in their order
abbrev pub AreNamed : List ℕ → List (List ℕ) → List Pattern → List (List (List ℕ)) → Type 0
AreNamed publisher known [] named = named ≡ []
AreNamed publisher known (p ∷ patterns) [] = ⊥
AreNamed publisher known (p ∷ patterns) (stems ∷ named) = Names publisher known p stems × AreNamed publisher known patterns named

-- what patterns name, at versions that they admit
abbrev pub with_limits : List Pattern → List (List (List ℕ)) → List Naming
with_limits [] named = []
with_limits (p ∷ patterns) [] = []
with_limits (p ∷ patterns) (stems ∷ named) = record { stems = stems; limit = p.version } ∷ with_limits patterns named
