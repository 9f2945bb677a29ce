-- What a request asks of an image.
use Rattle.std.specs.Prelude.{◌≡◌, ℕ, ◌⊎◌, Bool, true, false, List, [], flat_map, Option}
use Rattle.ips_fmri.specs.Version.{Parts}
use Rattle.ips_fmri.specs.declared.pattern.Pattern.{Pattern}
use Rattle.ips_catalog.specs.Listed.{Listed}
use Rattle.ips_repo.specs.Opening.{Opened}
use Rattle.ips_state.specs.State.{Recorded}
use Rattle.ips_request.specs.declared.kind.Kind.{Kind}
use Rattle.ips_request.specs.declared.kind.Kind.TheVariants as kind
use Rattle.ips_request.specs.declared.request.Request.{Request}
use Rattle.ips_request.specs.declared.request.Request.TheVariants.{Install, Update, Uninstall, Keep}
use Rattle.ips_request.specs.declared.fault.ProblemFault.{ProblemFault}
use Rattle.ips_request.specs.Stems.{firsts}
use Rattle.ips_request.specs.Case.{Case, ManifestReading}
use Rattle.ips_request.specs.Named.{AreKnown, AreNamed, IsFirstUnnamed, with_limits}
use Rattle.ips_request.specs.Subject.{case_of, catalog_of, repo_of}
use Rattle.ips_request.specs.declared.asking.Subject.{Subject}

-- what a request asks for
abbrev pub kind_of : Request → Kind
kind_of (Install patterns reject) = kind.Install
kind_of (Update patterns reject) = kind.Update
kind_of (Uninstall patterns) = kind.Uninstall
kind_of Keep = kind.Keep

-- its patterns
abbrev pub patterns_of : Request → List Pattern
patterns_of (Install patterns reject) = patterns.items
patterns_of (Update patterns reject) = patterns.items
patterns_of (Uninstall patterns) = patterns.items
patterns_of Keep = []

-- the patterns of what it rejects
abbrev pub rejects_of : Request → List Pattern
rejects_of (Install patterns reject) = reject.items
rejects_of (Update patterns reject) = reject.items
rejects_of (Uninstall patterns) = []
rejects_of Keep = []

-- versions are looked for in a repository
abbrev pub looks_at_repository : Request → Bool
looks_at_repository (Install patterns reject) = true
looks_at_repository (Update patterns reject) = true
looks_at_repository (Uninstall patterns) = false
looks_at_repository Keep = false

-- the catalog that patterns are matched against: only an install names packages that aren't installed
abbrev pub matched_against : Kind → List Listed → List Listed
matched_against kind.Install catalog = catalog
matched_against kind.Update catalog = []
matched_against kind.Uninstall catalog = []
matched_against kind.Keep catalog = []

-- What the patterns of the request name, and what the patterns of what it rejects name.
pub record AreNames (q : Request) (s : Recorded) (catalog : List Listed) (named rejects : List (List (List ℕ))) : Type 0 where
  pub known : List (List ℕ)
  pub all : List (List ℕ)
  pub are_known : AreKnown (matched_against (kind_of q) catalog) s.installed known
  pub are_all : AreKnown catalog s.installed all
  pub named_so : AreNamed s.publisher known (patterns_of q) named
  pub rejected_so : AreNamed s.publisher all (rejects_of q) rejects

-- The first pattern that names nothing, or one of several, is one of the request's patterns, or else of those of what it rejects.
pub record IsPatternFault (q : Request) (s : Recorded) (catalog : List Listed) (why : ProblemFault) : Type 0 where
  pub known : List (List ℕ)
  pub all : List (List ℕ)
  pub are_known : AreKnown (matched_against (kind_of q) catalog) s.installed known
  pub are_all : AreKnown catalog s.installed all
  pub first : IsFirstUnnamed s.publisher known (patterns_of q) why
      ⊎ (((named : List (List (List ℕ))) × AreNamed s.publisher known (patterns_of q) named) × IsFirstUnnamed s.publisher all (rejects_of q) why)

-- the case of a request on what an image records, over a repository's catalog and manifest files
abbrev pub asked_case : Request → Recorded → List Listed → (List ℕ → Parts → Option (List ℕ)) → List (List (List ℕ)) → List (List (List ℕ)) → ManifestReading → Case
asked_case q s catalog file named rejects reading = record {
  kind = kind_of q;
  named = with_limits (patterns_of q) named;
  rejected = firsts (flat_map (λ (stems : List (List ℕ)). stems) rejects);
  catalog = catalog;
  installed = s.installed;
  avoid = s.avoid;
  freeze = s.freeze;
  file = file;
  reading = reading;
}

-- What is asked, as it stands in memory, is that of the request.
pub record IsSubjectOf (q : Request) (s : Recorded) (repo : Option Opened) (subject : Subject) : Type 0 where
  pub named : List (List (List ℕ))
  pub rejects : List (List (List ℕ))
  pub names : AreNames q s (catalog_of repo) named rejects
  pub offered : repo_of subject ≡ repo
  pub settings : subject.state.now.settings ≡ s.settings
  pub same : (file : List ℕ → Parts → Option (List ℕ)) (r : ManifestReading) → case_of subject file r ≡ asked_case q s (catalog_of repo) file named rejects r
