-- Lists of stems, in which each stands once.
use Rattle.std.specs.Prelude.{ℕ, Bool, if◌then◌else◌, List, [], ◌∷◌, ◌++◌, fold, map, string_bytes}
use Rattle.std.specs.List.{list_any}
use Rattle.std.specs.Str.{bytes_eq}
use Rattle.std.specs.declared.alloc.Global.{Global}
use Rattle.std.specs.declared.string.String.{String}

-- the stem is one of these
abbrev pub has : List ℕ → List (List ℕ) → Bool
has stem stems = list_any (bytes_eq stem) stems

-- the stems with one more put last, unless it is there
abbrev pub put : List (List ℕ) → List ℕ → List (List ℕ)
put stems stem = if has stem stems then stems else stems ++ stem ∷ []

-- the stems with each of these put last in turn, unless it is there
abbrev pub put_all : List (List ℕ) → List (List ℕ) → List (List ℕ)
put_all stems more = fold put stems more

-- each of the stems once, at its first place
abbrev pub firsts : List (List ℕ) → List (List ℕ)
firsts stems = put_all [] stems

-- the texts of stems
abbrev pub stems_of : List (String Global) → List (List ℕ)
stems_of keys = map (λ k. string_bytes k) keys
