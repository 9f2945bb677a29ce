-- That what is decided on is the best selection.
use Rattle.std.specs.Prelude.{◌≡◌, ℕ, List, map, Contains, Option}
use Rattle.std.specs.Option.{option_map}
use Rattle.ips_outside.specs.Image.{Image}
use Rattle.ips_repo.specs.Opening.{Opened}
use Rattle.ips_state.specs.State.{Installed, Recorded, Ascend}
use Rattle.ips_search.specs.Best.{NotLater}
use Rattle.ips_depend.specs.Selection.{Selection}
use Rattle.ips_request.specs.declared.request.Request.{Request}
use Rattle.ips_request.specs.Case.{Case, ManifestReading, manifest_facts}
use Rattle.ips_request.specs.Request.{AreNames, asked_case}
use Rattle.ips_request.specs.Subject.{catalog_of, files_of}
use Rattle.ips_problem.specs.Reach.{IsReach}
use Rattle.ips_problem.specs.Selecting.{AreCandidateNumbers, IsAdmissible, IsBestSelection}
use Rattle.ips_problem.specs.Posed.{lines_said}
use Rattle.ips_problem.specs.Taken.{package_with}
use Rattle.ips_words.specs.declared.what.What.{What}
use Rattle.ips_asked.specs.Requested.{IsRequestOf, kind_asked}
use Rattle.ips_next.specs.Decided.{IsLookedAt, chosen_over, looks}

-- This is the case that the command makes: a request of it, over the records of the choice, and the repository that it looks at.
pub record IsCaseOf (w : What) (old asked : Recorded) (held : Image) (r : ManifestReading) (c : Case) : Type 0 where
  pub request : Request
  pub is_request : IsRequestOf w request
  pub repository : Option Opened
  pub looked_at : IsLookedAt (looks (kind_asked w)) old.publisher held repository
  pub named : List (List (List ℕ))
  pub rejects : List (List (List ℕ))
  pub names : AreNames request (chosen_over w old asked) (catalog_of repository) named rejects
  pub case_is : c ≡ asked_case request (chosen_over w old asked) (catalog_of repository) (files_of repository held) named rejects r

-- The packages of a selection, by the bytes of their stems: each stem that is selected, at its version, with the lines that the
-- manifest of this version has.
pub record AreSelected (c : Case) (s : Selection) (packages : List Installed) : Type 0 where
  pub order : Ascend (map (λ (q : Installed). q.stem) packages)
  pub versions : (stem : List ℕ) → s stem ≡ option_map (λ (q : Installed). q.version) (package_with stem packages)
  pub lines : (q : Installed) → Contains packages q → q.lines ≡ lines_said (manifest_facts c q.stem q.version)

-- These are the packages of the best selection. None that is admissible comes before it, also of those that select stems out of reach.
pub record AreBest (w : What) (old asked : Recorded) (held : Image) (r : ManifestReading) (packages : List Installed) : Type 0 where
  pub the_case : Case
  pub is_case : IsCaseOf w old asked held r the_case
  pub reach : List (List ℕ)
  pub is_reach : IsReach the_case reach
  pub selection : Selection
  pub best : IsBestSelection the_case reach selection
  pub foremost : (other : Selection) (others : List ℕ) → IsAdmissible the_case other → AreCandidateNumbers the_case other reach others → NotLater best.numbers others
  pub selected : AreSelected the_case selection packages

-- No selection is admissible in the case that the command makes.
pub record NoneFits (w : What) (old asked : Recorded) (held : Image) (r : ManifestReading) : Type 0 where
  pub the_case : Case
  pub is_case : IsCaseOf w old asked held r the_case
  pub none : (s : Selection) → IsAdmissible the_case s → ⊥
