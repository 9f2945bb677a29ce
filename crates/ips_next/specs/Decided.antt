-- From what is asked of an image to the packages that are chosen, phase by phase, and why none are.
use Rattle.std.specs.Prelude.{◌≡◌, ◌⊎◌, ℕ, ◌<◌, ◌≤◌, Bool, true, false, List, map, Option, Some, None, Err, Ok}
use Rattle.ips_outside.specs.Image.{Image}
use Rattle.ips_repo.specs.Opening.{Opened, opening}
use Rattle.ips_repo.specs.declared.fault.RepoFault.{RepoFault}
use Rattle.ips_repo.specs.declared.fault.RepoFault.TheVariants as repo
use Rattle.ips_state.specs.State.{Installed, Recorded}
use Rattle.ips_refute.specs.Meaning.{HasNoChoice, Meaning}
use Rattle.ips_refute.specs.Refuting.{IsTidyRefutation}
use Rattle.ips_refute.specs.declared.nogoods.Refutation.{Refutation}
use Rattle.ips_search.specs.Best.{IsBest, IsFirst}
use Rattle.ips_search.specs.Beginnings.{beginnings}
use Rattle.ips_request.specs.declared.kind.Kind.{Kind}
use Rattle.ips_request.specs.declared.kind.Kind.TheVariants as kind
use Rattle.ips_request.specs.declared.request.Request.{Request}
use Rattle.ips_request.specs.declared.fault.ProblemFault.{ProblemFault}
use Rattle.ips_request.specs.declared.fault.ProblemFault.TheVariants as problem
use Rattle.ips_problem.specs.Asked.{IsAsked, IsProblemFault}
use Rattle.ips_problem.specs.Avoided.{AreAvoided}
use Rattle.ips_problem.specs.Posed.{Posed, meaning_of}
use Rattle.ips_problem.specs.Taken.{AreTaken}
use Rattle.ips_report.specs.declared.unsolved.Tried as declared
use Rattle.ips_words.specs.Meaning.{default_limit}
use Rattle.ips_words.specs.declared.what.What.{What}
use Rattle.ips_words.specs.declared.what.What.TheVariants.{Install, Update, Uninstall, Avoid, Unavoid}
use Rattle.ips_asked.specs.Requested.{IsRequestOf, kind_asked}
use Rattle.ips_next.specs.Tried.{seen_tried, tried_rows}
use Rattle.ips_next.specs.declared.fault.NextFault.{NextFault}
use Rattle.ips_next.specs.declared.fault.NextFault.TheVariants.{OldFormat, NoRepository, BadCatalog, NoMatch, Ambiguous, ManifestMissing, BadManifest, BadDepend, TooLarge, NoSolution, SearchSpent, NothingToDo, SourceFault}

-- ---- the repository

-- versions are looked for in a repository
abbrev pub looks : Kind → Bool
looks kind.Install = true
looks kind.Update = true
looks kind.Uninstall = false
looks kind.Keep = false

-- The repository that is looked at: the publisher's, as what is held opens, at a command that looks for versions; and else none.
abbrev pub IsLookedAt : Bool → List ℕ → Image → Option Opened → Type 0
IsLookedAt true publisher held None = ⊥
IsLookedAt true publisher held (Some repository) = (repository.publisher ≡ publisher) × (opening publisher held ≡ Ok repository.catalog)
IsLookedAt false publisher held repository = repository ≡ None

-- The command looks for versions, and the publisher's repository doesn't open, for this cause.
pub record DoesNotOpen (w : What) (publisher : List ℕ) (held : Image) (why : RepoFault) : Type 0 where
  pub looking : looks (kind_asked w) ≡ true
  pub fault : opening publisher held ≡ Err why

-- ---- the puzzle

-- The limit of the search: that of the command, or else the usual one.
abbrev pub limit_asked : What → ℕ
limit_asked (Install patterns reject accept limit) = limit
limit_asked (Update patterns reject accept limit) = limit
limit_asked (Uninstall patterns limit) = limit
limit_asked w = default_limit

-- The records over which packages are chosen: those that are asked for, with the avoided stems of before. So `avoid` and `unavoid`, which ask for
-- nothing else, choose over the old ones.
abbrev pub chosen_over : What → Recorded → Recorded → Recorded
chosen_over (Avoid stems) old asked = old
chosen_over (Unavoid stems) old asked = old
chosen_over w old asked = asked

-- The puzzle is that of the command: of this request of it, over these records, the repository that it looks at, and what is held.
pub record IsPosed (w : What) (old asked : Recorded) (held : Image) (request : Request) (repository : Option Opened) (p : Posed) : Type 0 where
  pub is_request : IsRequestOf w request
  pub looked_at : IsLookedAt (looks (kind_asked w)) old.publisher held repository
  pub posed : IsAsked request (chosen_over w old asked) repository held p

-- The command poses no puzzle, for this cause: over the records of the choice, or over those that are asked for, which differ in avoided stems
-- alone.
pub record IsUnposed (w : What) (old asked : Recorded) (held : Image) (why : ProblemFault) : Type 0 where
  pub request : Request
  pub is_request : IsRequestOf w request
  pub repository : Option Opened
  pub looked_at : IsLookedAt (looks (kind_asked w)) old.publisher held repository
  pub over : Recorded
  pub is_over : (over ≡ chosen_over w old asked) ⊎ (over ≡ asked)
  pub fault : IsProblemFault request over repository held why

-- ---- the choice

-- These are the packages of the best selection, from a puzzle of no more stems than the limit of the search, and the stems that are avoided from it on: the avoided ones that the command doesn't ask for, and those that a
-- group dependency of what is selected names and that are absent.
pub record IsDecided (w : What) (old asked : Recorded) (held : Image) (packages : List Installed) (avoid : List (List ℕ)) : Type 0 where
  pub request : Request
  pub repository : Option Opened
  pub puzzle : Posed
  pub is_posed : IsPosed w old asked held request repository puzzle
  pub choice : List ℕ
  pub first : IsFirst (meaning_of puzzle) choice
  pub within : (meaning_of puzzle).stems ≤ limit_asked w
  pub taken : AreTaken puzzle choice packages
  pub kept : Posed
  pub is_kept : IsAsked request asked repository held kept
  pub avoided : AreAvoided kept choice avoid

-- Nothing fits: no choice breaks no test, the puzzle has this refutation, whose sets stand by ascending stem, and these are its stems with their candidates.
pub record HasNoSolution (p : Posed) (stems : List declared.Tried) (refutation : Refutation) : Type 0 where
  pub none : HasNoChoice (meaning_of p)
  pub tried : map seen_tried stems ≡ tried_rows p.stems p.rows
  pub refuted : IsTidyRefutation (meaning_of p) refutation.nogoods.items

-- the puzzle has more beginnings than the limit, none of which stands later than the best choice's own
abbrev pub IsPastLimit : Meaning → ℕ → Type 0
IsPastLimit m limit = (best : Option (List ℕ)) → IsBest m best → limit < beginnings m best

-- Why the puzzle gives no choice under this limit.
abbrev pub IsUnsolved : Posed → ℕ → NextFault → Type 0
IsUnsolved p limit OldFormat = ⊥
IsUnsolved p limit NoRepository = ⊥
IsUnsolved p limit (BadCatalog fault) = ⊥
IsUnsolved p limit (NoMatch pattern) = ⊥
IsUnsolved p limit (Ambiguous pattern stems) = ⊥
IsUnsolved p limit (ManifestMissing fmri) = ⊥
IsUnsolved p limit (BadManifest fmri fault) = ⊥
IsUnsolved p limit (BadDepend fmri line) = ⊥
IsUnsolved p limit (TooLarge which count) = ⊥
IsUnsolved p limit (NoSolution stems refutation) = HasNoSolution p stems.items refutation
IsUnsolved p limit (SearchSpent spent) = (spent ≡ limit) × IsPastLimit (meaning_of p) limit
IsUnsolved p limit NothingToDo = ⊥
IsUnsolved p limit SourceFault = ⊥

-- The puzzle of the command gives no choice under its limit, for this cause
pub record IsUnchosen (w : What) (old asked : Recorded) (held : Image) (why : NextFault) : Type 0 where
  pub request : Request
  pub repository : Option Opened
  pub puzzle : Posed
  pub is_posed : IsPosed w old asked held request repository puzzle
  pub unsolved : IsUnsolved puzzle (limit_asked w) why

-- Why no packages are chosen: mark and catalog first, then patterns and manifests, then the choice itself. A call on the repository fails only where
-- versions are looked for.
abbrev pub IsUndecided : What → Recorded → Recorded → Image → NextFault → Type 0
IsUndecided w old asked held OldFormat = ⊥
IsUndecided w old asked held NoRepository = DoesNotOpen w old.publisher held repo.NoRepository
IsUndecided w old asked held (BadCatalog fault) = DoesNotOpen w old.publisher held (repo.BadCatalog fault)
IsUndecided w old asked held (NoMatch pattern) = IsUnposed w old asked held (problem.NoMatch pattern)
IsUndecided w old asked held (Ambiguous pattern stems) = IsUnposed w old asked held (problem.Ambiguous pattern stems)
IsUndecided w old asked held (ManifestMissing fmri) = IsUnposed w old asked held (problem.ManifestMissing fmri)
IsUndecided w old asked held (BadManifest fmri fault) = IsUnposed w old asked held (problem.BadManifest fmri fault)
IsUndecided w old asked held (BadDepend fmri line) = IsUnposed w old asked held (problem.BadDepend fmri line)
IsUndecided w old asked held (TooLarge which count) = DoesNotOpen w old.publisher held (repo.TooLarge which count) ⊎ IsUnposed w old asked held (problem.TooLarge which count)
IsUndecided w old asked held (NoSolution stems refutation) = IsUnchosen w old asked held (NoSolution stems refutation)
IsUndecided w old asked held (SearchSpent limit) = IsUnchosen w old asked held (SearchSpent limit)
IsUndecided w old asked held NothingToDo = ⊥
IsUndecided w old asked held SourceFault = looks (kind_asked w) ≡ true

-- the fault of a command that poses no puzzle
abbrev pub unposed : ProblemFault → NextFault
unposed (problem.NoMatch pattern) = NoMatch pattern
unposed (problem.Ambiguous pattern stems) = Ambiguous pattern stems
unposed (problem.ManifestMissing fmri) = ManifestMissing fmri
unposed (problem.BadManifest fmri fault) = BadManifest fmri fault
unposed (problem.BadDepend fmri line) = BadDepend fmri line
unposed (problem.TooLarge which count) = TooLarge which count
unposed problem.SourceFault = SourceFault

-- It may come of a command of this kind, whatever the source tells: only where versions are looked for is the repository at fault, or a call on it.
abbrev pub MayCome : Kind → NextFault → Type 0
MayCome k OldFormat = ⊥
MayCome k NoRepository = looks k ≡ true
MayCome k (BadCatalog fault) = looks k ≡ true
MayCome k (NoMatch pattern) = Unit {0}
MayCome k (Ambiguous pattern stems) = Unit {0}
MayCome k (ManifestMissing fmri) = Unit {0}
MayCome k (BadManifest fmri fault) = Unit {0}
MayCome k (BadDepend fmri line) = Unit {0}
MayCome k (TooLarge which count) = Unit {0}
MayCome k (NoSolution stems refutation) = Unit {0}
MayCome k (SearchSpent limit) = Unit {0}
MayCome k NothingToDo = Unit {0}
MayCome k SourceFault = looks k ≡ true

-- patterns name packages: not where the selection is kept
abbrev pub names : Kind → Bool
names kind.Install = true
names kind.Update = true
names kind.Uninstall = true
names kind.Keep = false

-- The fault may come of a command of this kind: of a pattern where it has some, and of the repository, its catalog and its manifests where it
-- looks for versions.
abbrev pub ComesOfKind : Kind → NextFault → Type 0
ComesOfKind k OldFormat = Unit {0}
ComesOfKind k NoRepository = looks k ≡ true
ComesOfKind k (BadCatalog fault) = looks k ≡ true
ComesOfKind k (NoMatch pattern) = names k ≡ true
ComesOfKind k (Ambiguous pattern stems) = names k ≡ true
ComesOfKind k (ManifestMissing fmri) = looks k ≡ true
ComesOfKind k (BadManifest fmri fault) = looks k ≡ true
ComesOfKind k (BadDepend fmri line) = Unit {0}
ComesOfKind k (TooLarge which count) = looks k ≡ true
ComesOfKind k (NoSolution stems refutation) = Unit {0}
ComesOfKind k (SearchSpent limit) = Unit {0}
ComesOfKind k NothingToDo = Unit {0}
ComesOfKind k SourceFault = looks k ≡ true
