-- The candidates of a stem, in order, each a version or, as None, absence.
use Rattle.std.specs.Prelude.{ℕ, Bool, true, false, not, ◌&&◌, ◌||◌, if◌then◌else◌, List, [], ◌∷◌, ◌++◌, map, reverse, filter, Option, Some, None}
use Rattle.std.specs.List.{list_any, list_all, last_or}
use Rattle.std.specs.Option.{is_some}
use Rattle.std.specs.Ordering.{is_lt}
use Rattle.std.specs.Str.{bytes_eq}
use Rattle.ips_fmri.specs.Version.{Parts}
use Rattle.ips_fmri.specs.Order.{version_cmp}
use Rattle.ips_fmri.specs.declared.fmri.Fmri.{Fmri}
use Rattle.ips_catalog.specs.Listed.{versions_of}
use Rattle.ips_manifest.specs.declared.line.Line.{Line}
use Rattle.ips_manifest.specs.Manifest.{tells_obsolete}
use Rattle.ips_depend.specs.Matching.{admits, reaches}
use Rattle.ips_request.specs.declared.kind.Kind.{Kind}
use Rattle.ips_request.specs.declared.kind.Kind.TheVariants.{Install, Update, Uninstall, Keep}
use Rattle.ips_request.specs.declared.role.Role.{Role}
use Rattle.ips_request.specs.declared.role.Role.TheVariants.{Refused, Gone, Asked, Renewed, Standing, Free}
use Rattle.ips_request.specs.Stems.{has}
use Rattle.ips_request.specs.Case.{Case, Naming, Facts, is_same_version, is_named, is_installed, installed_version, manifest_facts}

-- ---- the versions of a stem

-- the versions that are listed, with the installed one, where one is, at its place
abbrev pub with_installed : List Parts → Option Parts → List Parts
with_installed listed None = listed
with_installed listed (Some v) = filter (λ w. is_lt (version_cmp w v)) listed ++ v ∷ filter (λ w. is_lt (version_cmp v w)) listed

-- the versions of a stem, which are those of the catalog and the installed one, newest first
abbrev pub newest : Case → List ℕ → List Parts
newest c stem = reverse (with_installed (versions_of c.catalog stem) (installed_version c stem))

-- each pattern that names the stem admits the version, and each freeze of the stem too
abbrev pub is_allowed : Case → List ℕ → Parts → Bool
is_allowed c stem v =
    list_all (λ (n : Naming). not (has stem n.stems) || admits n.limit v) c.named
    && list_all (λ (f : Fmri). not (bytes_eq stem f.stem) || admits f.version v) c.freeze

-- the stem may come to this version: it isn't less than the installed one, and is allowed
abbrev pub may_come : Case → List ℕ → Parts → Bool
may_come c stem v = reaches (installed_version c stem) v && is_allowed c stem v

-- the versions that the stem may come to, newest first, whose manifests say something
abbrev pub coming : Case → List ℕ → List Parts
coming c stem = filter (λ v. may_come c stem v && is_some (manifest_facts c stem v)) (newest c stem)

-- it is this version, where there is one
abbrev pub is_version : Option Parts → Parts → Bool
is_version None v = false
is_version (Some w) v = is_same_version v w

-- one of the lines tells that the package is obsolete
abbrev pub tell_obsolete : List Line → Bool
tell_obsolete lines = list_any (λ (line : Line). tells_obsolete line.action) lines

-- a manifest says that its package is obsolete
abbrev pub says_obsolete : Option Facts → Bool
says_obsolete None = false
says_obsolete (Some facts) = tell_obsolete facts.lines

-- the version is obsolete
abbrev pub is_obsolete : Case → List ℕ → Parts → Bool
is_obsolete c stem v = says_obsolete (manifest_facts c stem v)

-- ---- candidates

-- those that aren't gone
abbrev pub present : {X : Type 0} → (X → Bool) → List X → List (Option X)
present gone xs = map (λ x. Some x) (filter (λ x. not (gone x)) xs)

-- those that aren't gone, with absence at the place of the first that is
abbrev pub present_or_gone : {X : Type 0} → (X → Bool) → List X → List (Option X)
present_or_gone gone [] = []
present_or_gone gone (x ∷ xs) = if gone x then None ∷ present gone xs else Some x ∷ present_or_gone gone xs

-- the role of a stem of which nothing is said
abbrev pub unnamed : Bool → Role
unnamed installed = if installed then Standing else Free

-- The role of a stem in a request of a kind: whether a pattern names it, it is rejected, an update is of it, and it is installed.
abbrev pub role_by : Kind → Bool → Bool → Bool → Bool → Role
role_by Install named rejected target installed = if rejected then (if named then Refused else Gone) else (if named then Asked else unnamed installed)
role_by Update named rejected target installed = if rejected then Gone else (if target then Renewed else unnamed installed)
role_by Uninstall named rejected target installed = if named then Gone else unnamed installed
role_by Keep named rejected target installed = unnamed installed

-- an update that names this is of the stem: where it names nothing, of each that is installed
abbrev pub is_target_of : List Naming → Case → List ℕ → Bool
is_target_of [] c stem = is_installed c stem
is_target_of (n ∷ ns) c stem = is_named c stem

-- the role of a stem
abbrev pub role : Case → List ℕ → Role
role c stem = role_by c.kind (is_named c stem) (has stem c.rejected) (is_target_of c.named c stem) (is_installed c stem)

-- those beyond the one that stands: an update lets what is obsolete go
abbrev pub beyond : {X : Type 0} → Kind → (X → Bool) → List X → List (Option X)
beyond Install gone xs = present gone xs
beyond Update gone xs = present_or_gone gone xs
beyond Uninstall gone xs = []
beyond Keep gone xs = []

-- The candidates of a stem in its role, of the versions that it may come to. Asked for: present, not obsolete. Updated:
-- present, or absent where obsolete. Installed otherwise: as it stands, before other versions. Not installed: absent, before
-- present.
abbrev pub candidates_in : {X : Type 0} → Role → Kind → (X → Bool) → (X → Bool) → List X → List (Option X)
candidates_in Refused kind gone stands xs = []
candidates_in Gone kind gone stands xs = None ∷ []
candidates_in Asked kind gone stands xs = present gone xs
candidates_in Renewed kind gone stands xs = present_or_gone gone xs
candidates_in Standing kind gone stands xs = map (λ x. Some x) (filter stands xs) ++ beyond kind gone (filter (λ x. not (stands x)) xs)
candidates_in Free kind gone stands xs = None ∷ present gone xs

-- the candidates of a stem
abbrev pub candidates : Case → List ℕ → List (Option Parts)
candidates c stem = candidates_in (role c stem) c.kind (is_obsolete c stem) (is_version (installed_version c stem)) (coming c stem)

-- ---- stems that group dependencies don't ask for

-- the greatest version of the catalog
abbrev pub greatest : Case → List ℕ → Option Parts
greatest c stem = last_or None (versions_of c.catalog stem)

-- a version is there, and is obsolete
abbrev pub is_obsolete_at : Case → List ℕ → Option Parts → Bool
is_obsolete_at c stem None = false
is_obsolete_at c stem (Some v) = is_obsolete c stem v

-- the request is to install
abbrev pub installs : Kind → Bool
installs Install = true
installs Update = false
installs Uninstall = false
installs Keep = false

-- the request is to uninstall
abbrev pub uninstalls : Kind → Bool
uninstalls Install = false
uninstalls Update = false
uninstalls Uninstall = true
uninstalls Keep = false

-- The stem is spared: it is avoided and not asked for, or uninstalled, or rejected, or its greatest version is obsolete.
abbrev pub is_spared : Case → List ℕ → Bool
is_spared c stem =
    (has stem c.avoid && not (installs c.kind && is_named c stem))
    || (uninstalls c.kind && is_named c stem)
    || has stem c.rejected
    || is_obsolete_at c stem (greatest c stem)
