-- The puzzle of a request, and why a request poses none.
use Rattle.std.specs.Prelude.{ℕ, ◌⊎◌, Bool, not, ◌||◌, List, Option}
use Rattle.ips_outside.specs.Image.{Image}
use Rattle.ips_repo.specs.Opening.{Opened}
use Rattle.ips_state.specs.State.{Recorded}
use Rattle.ips_request.specs.declared.request.Request.{Request}
use Rattle.ips_request.specs.declared.fault.ProblemFault.{ProblemFault}
use Rattle.ips_request.specs.Case.{ManifestReading, IsReading}
use Rattle.ips_request.specs.Subject.{catalog_of, files_of}
use Rattle.ips_request.specs.Request.{AreNames, IsPatternFault, asked_case}
use Rattle.ips_problem.specs.Posed.{Posed}
use Rattle.ips_problem.specs.Fault.{IsFirstFault}
use Rattle.ips_problem.specs.Gathered.{IsPosedBy}

-- A source that is looked at tells what it holds; else it needn't, since nothing is read of it.
abbrev pub tells_where : Bool → Bool → Bool
tells_where looked tells = not looked || tells

-- The puzzle is that of the request on what the image records, over the repository and what the source holds.
pub record IsAsked (q : Request) (s : Recorded) (repo : Option Opened) (held : Image) (p : Posed) : Type 0 where
  pub named : List (List (List ℕ))
  pub rejects : List (List (List ℕ))
  pub names : AreNames q s (catalog_of repo) named rejects
  pub poses : (r : ManifestReading) → IsReading s.settings r → IsPosedBy (asked_case q s (catalog_of repo) (files_of repo held) named rejects r) p

-- Every pattern names stems, and this is the fault of the first needed manifest in the order of reach that has one.
pub record IsNeededFault (q : Request) (s : Recorded) (repo : Option Opened) (held : Image) (why : ProblemFault) : Type 0 where
  pub named : List (List (List ℕ))
  pub rejects : List (List (List ℕ))
  pub names : AreNames q s (catalog_of repo) named rejects
  pub first : (r : ManifestReading) → IsReading s.settings r → IsFirstFault s.settings (asked_case q s (catalog_of repo) (files_of repo held) named rejects r) why

-- Why a request poses no puzzle: the first pattern that is at fault, or else the first needed manifest that is.
abbrev pub IsProblemFault : Request → Recorded → Option Opened → Image → ProblemFault → Type 0
IsProblemFault q s repo held why = IsPatternFault q s (catalog_of repo) why ⊎ IsNeededFault q s repo held why
