-- Marks that stand beside rows.
use Rattle.std.specs.Prelude.{◌≡◌, ℕ, Bool, false, ◌&&◌, List, map}
use Rattle.std.specs.List.{list_any}
use Rattle.ips_text.specs.Ancestry.{is_below}
use Rattle.ips_after.specs.Lists.{listed}
use Rattle.ips_change.specs.declared.survey.row.Row.{Row}
use Rattle.ips_change.specs.survey.Rows.{row_pair}

-- the paths of rows
abbrev pub row_paths : List Row → List (List ℕ)
row_paths rows = map (λ pair. pair.path) (map row_pair rows)

-- The marks say of each of these paths whether the test holds there, and it holds at no other.
pub record IsMarkOf (test : List ℕ → Bool) (paths : List (List ℕ)) (marks : List Bool) : Type 0 where
  pub are : marks ≡ map test paths
  pub none_else : (q : List ℕ) → listed paths q ≡ false → test q ≡ false

-- below the path the test holds at one of these
abbrev pub holds_below : (List ℕ → Bool) → List (List ℕ) → List ℕ → Bool
holds_below test paths p = list_any (λ q. is_below p q && test q) paths
