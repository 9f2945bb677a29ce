-- Marks by what account files and records say.
use Rattle.std.proofs.Common.{◌≡◌, ℕ, Bool, false, List, [], ◌∷◌, map, Option, Some, None, is_some, refl, ◌∙◌, ap}
use Rattle.ips_outside.specs.Image.{Entry}
use Rattle.ips_after.specs.Request.{Request, lays}
use Rattle.ips_change.specs.declared.survey.row.Row.{Row}
use Rattle.ips_change.specs.survey.Marks.{IsMarkOf, row_paths}
use Rattle.ips_change.specs.declared.survey.said.Said.{Said}
use Rattle.ips_change.specs.survey.Said.{said_as, says_laid}
use Rattle.ips_change.specs.survey.Tables.{IsTable}

-- a test of what is laid or taken away is marked by the same test of what is said
pub said_marked : (f : Option (Option Entry) → Bool) (g : Option Said → Bool) → f None ≡ false → ((o : Option (Option Entry)) → g (said_as o) ≡ f o) → (r : Request) (rows : List Row) (said : List (Option Said)) → IsTable r rows said
    → IsMarkOf (λ q. f (r.over.at q)) (row_paths rows) (map g said)
said_marked f g none same r rows said table = record {
  are = ap (map g) table.said ∙ go (row_paths rows);
  none_else = λ q apart. ap f (table.none_else q apart) ∙ none;
}
  where
    go : (paths : List (List ℕ)) → map g (map (λ (p : List ℕ). said_as (r.over.at p)) paths) ≡ map (λ (q : List ℕ). f (r.over.at q)) paths
    go [] = refl
    go (p ∷ paths) = ap (λ (b : Bool). b ∷ map g (map (λ (p : List ℕ). said_as (r.over.at p)) paths)) (same (r.over.at p)) ∙ ap (λ (l : List Bool). f (r.over.at p) ∷ l) (go paths)

pub is_spoken : (o : Option (Option Entry)) → is_some (said_as o) ≡ is_some o
is_spoken None = refl
is_spoken (Some None) = refl
is_spoken (Some (Some e)) = refl

pub is_laid : (o : Option (Option Entry)) → says_laid (said_as o) ≡ lays o
is_laid None = refl
is_laid (Some None) = refl
is_laid (Some (Some e)) = refl

-- the paths that are spoken of are marked by what is said
pub spoken_marked : (r : Request) (rows : List Row) (said : List (Option Said)) → IsTable r rows said → IsMarkOf (λ q. is_some (r.over.at q)) (row_paths rows) (map (λ s. is_some s) said)
spoken_marked = said_marked (λ o. is_some o) (λ s. is_some s) refl is_spoken

-- and so are those at which an entry is laid
pub laid_marked : (r : Request) (rows : List Row) (said : List (Option Said)) → IsTable r rows said → IsMarkOf (λ q. lays (r.over.at q)) (row_paths rows) (map says_laid said)
laid_marked = said_marked lays says_laid refl is_laid
