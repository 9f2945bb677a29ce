-- Which faults come of a command of a kind.
use Rattle.std.proofs.Common.{◌≡◌, ◌⊎◌, ℕ, Bool, true, false, cond, List, [], ◌∷◌, ◌++◌, filter, reverse, take, Option, Some, None, Vec, Global, option_map, refl, sym, ap, subst, ◌∙◌, inl, inr}
use Rattle.std.specs.Ordering.{is_eq}
use Rattle.std.proofs.lemmas.Bool.{true≢false}
use Rattle.ips_outside.specs.Image.{Image}
use Rattle.ips_fmri.specs.Version.{Parts}
use Rattle.ips_fmri.specs.Order.{version_cmp}
use Rattle.ips_fmri.specs.declared.pattern.Pattern.{Pattern}
use Rattle.ips_fmri.proofs.Orders.{tells_equal, versions_tell}
use Rattle.ips_filter.specs.Settings.{Set}
use Rattle.ips_catalog.specs.Listed.{Listed, versions_of}
use Rattle.ips_repo.specs.Opening.{Opened}
use Rattle.ips_state.specs.State.{Installed, Recorded}
use Rattle.ips_request.specs.declared.request.Request.{Request}
use Rattle.ips_request.specs.declared.fault.ProblemFault.{ProblemFault}
use Rattle.ips_request.specs.declared.fault.ProblemFault.TheVariants as problem
use Rattle.ips_request.specs.Case.{Case, at_version, installed_at, installed_version, is_same_version}
use Rattle.ips_request.specs.Candidates.{with_installed}
use Rattle.ips_request.specs.Manifests.{FaultOf, is_needed, name_of}
use Rattle.ips_request.specs.Named.{AreNamed, IsFirstUnnamed, IsUnnamed}
use Rattle.ips_request.specs.Request.{IsPatternFault, asked_case, patterns_of, rejects_of}
use Rattle.ips_request.specs.Subject.{catalog_of, files_of}
use Rattle.ips_request.proofs.Grammar.{some_reading}
use Rattle.ips_problem.specs.Asked.{IsNeededFault}
use Rattle.ips_problem.specs.Fault.{IsFirstFault, all_bytes, manifests_at, manifests_of}
use Rattle.ips_words.specs.declared.what.What.{What}
use Rattle.ips_words.specs.declared.what.What.TheVariants.{Install, Update, Uninstall}
use Rattle.ips_asked.specs.Requested.{IsRequestOf, kind_asked, patterns_asked, rejects_asked}
use Rattle.ips_next.specs.Decided.{ComesOfKind, IsLookedAt, IsUnposed, looks, names}
use Rattle.ips_next.specs.Next.{ComesNext, Given}
use Rattle.ips_next.specs.declared.fault.NextFault.{NextFault}
use Rattle.ips_next.specs.declared.fault.NextFault.TheVariants.{OldFormat, NoRepository, BadCatalog, NoMatch, Ambiguous, ManifestMissing, BadManifest, BadDepend, TooLarge, NoSolution, SearchSpent, NothingToDo, SourceFault}

-- ---- patterns

no_patterns : (w : What) → names (kind_asked w) ≡ false → patterns_asked w ≡ []
no_patterns (Install patterns reject accept limit) none = absurd (true≢false none)
no_patterns (Update patterns reject accept limit) none = absurd (true≢false none)
no_patterns (Uninstall patterns limit) none = absurd (true≢false none)
no_patterns w none = refl

no_rejects : (w : What) → names (kind_asked w) ≡ false → rejects_asked w ≡ []
no_rejects (Install patterns reject accept limit) none = absurd (true≢false none)
no_rejects (Update patterns reject accept limit) none = absurd (true≢false none)
no_rejects (Uninstall patterns limit) none = absurd (true≢false none)
no_rejects w none = refl

-- a command without patterns has no fault of one
unpatterned : (w : What) (q : Request) (s : Recorded) (catalog : List Listed) (why : ProblemFault) → names (kind_asked w) ≡ false → IsRequestOf w q → IsPatternFault q s catalog why → ⊥
unpatterned w q s catalog why none is fault = go fault.first
  where
    go : IsFirstUnnamed s.publisher fault.known (patterns_of q) why
        ⊎ (((named : List (List (List ℕ))) × AreNamed s.publisher fault.known (patterns_of q) named) × IsFirstUnnamed s.publisher fault.all (rejects_of q) why) → ⊥
    go (inl first) = subst (λ ps. IsFirstUnnamed s.publisher fault.known ps why) (is.patterns ∙ no_patterns w none) first
    go (inr later) = subst (λ ps. IsFirstUnnamed s.publisher fault.all ps why) (is.rejects ∙ no_rejects w none) later.1

-- nor is a pattern at fault with what isn't said of one
unnamed_not : (publisher : List ℕ) (known : List (List ℕ)) (ps : List Pattern) (why : ProblemFault) → ((p : Pattern) (matched : List (List ℕ)) → IsUnnamed p matched why → ⊥) → IsFirstUnnamed publisher known ps why → ⊥
unnamed_not publisher known [] why never first = first
unnamed_not publisher known (p ∷ ps) why never (inl here) = never p here.0 here.2
unnamed_not publisher known (p ∷ ps) why never (inr later) = unnamed_not publisher known ps why never later.1

pattern_not : (q : Request) (s : Recorded) (catalog : List Listed) (why : ProblemFault) → ((p : Pattern) (matched : List (List ℕ)) → IsUnnamed p matched why → ⊥) → IsPatternFault q s catalog why → ⊥
pattern_not q s catalog why never fault = go fault.first
  where
    go : IsFirstUnnamed s.publisher fault.known (patterns_of q) why
        ⊎ (((named : List (List (List ℕ))) × AreNamed s.publisher fault.known (patterns_of q) named) × IsFirstUnnamed s.publisher fault.all (rejects_of q) why) → ⊥
    go (inl first) = unnamed_not s.publisher fault.known (patterns_of q) why never first
    go (inr later) = unnamed_not s.publisher fault.all (rejects_of q) why never later.1

-- ---- manifests

-- a needed manifest is never at fault with a pattern
manifest_not : (q : Request) (s : Recorded) (repo : Option Opened) (held : Image) (why : ProblemFault)
    → ((o : Option Installed) (total : ℕ) (file : Option (List ℕ)) (name : List ℕ) → FaultOf o s.settings total file name why → ⊥) → IsNeededFault q s repo held why → ⊥
manifest_not q s repo held why never fault =
    let (r, is) = some_reading s.settings in
    let first = fault.first r is in
    never _ _ _ _ first.fault

nothing_there : (before behind : List Parts) (version : Parts) → [] ≡ before ++ version ∷ behind → ⊥
nothing_there [] behind version is = cc
nothing_there (x ∷ before) behind version is = cc

-- where nothing is listed, a version that is needed is installed
own_needed : (o : Option Installed) (test : Parts → Bool) (before behind : List Parts) (version : Parts) → filter test (reverse (with_installed [] (option_map (λ (p : Installed). p.version) o))) ≡ before ++ version ∷ behind
    → (p : Installed) × (at_version o version ≡ Some p)
own_needed None test before behind version is = absurd (nothing_there before behind version is)
own_needed (Some p) test before behind version is = go (test p.version) before is
  where
    same : (v : Parts) → v ≡ p.version → is_same_version v p.version ≡ true
    same v one = ap is_eq ((tells_equal (version_cmp v p.version) (versions_tell v p.version)).1 one)

    go : (b : Bool) (before : List Parts) → cond b (p.version ∷ []) [] ≡ before ++ version ∷ behind → (q : Installed) × (at_version (Some p) version ≡ Some q)
    go false before at = absurd (nothing_there before behind version at)
    go true [] at = (p, ap (λ (b : Bool). cond b (Some p) None) (same version (sym cc)))
    go true (x ∷ before) at = absurd (nothing_there before behind version cc)

unlooked_first : (settings : Set) (c : Case) (why : ProblemFault) → c.catalog ≡ [] → ((p : Installed) (total : ℕ) (file : Option (List ℕ)) (name : List ℕ) → FaultOf (Some p) settings total file name why → ⊥) → IsFirstFault settings c why → ⊥
unlooked_first settings c why nothing never first =
    let total = all_bytes c (manifests_of c (take first.turn first.reach) ++ manifests_at first.stem first.before) in
    let file = c.file first.stem first.version in
    let name = name_of (record { stem = first.stem; version = first.version }) in
    let next = ap (λ (l : List Listed). filter (is_needed c.kind c first.stem) (reverse (with_installed (versions_of l first.stem) (installed_version c first.stem)))) (sym nothing) ∙ first.next in
    let (p, at) = own_needed (installed_at c first.stem) (is_needed c.kind c first.stem) first.before first.behind first.version next in
    never p total file name (subst (λ (o : Option Installed). FaultOf o settings total file name why) at first.fault)

-- without a repository no manifest of one is at fault
unlooked_not : (q : Request) (s : Recorded) (repo : Option Opened) (held : Image) (why : ProblemFault) → repo ≡ None
    → ((p : Installed) (total : ℕ) (file : Option (List ℕ)) (name : List ℕ) → FaultOf (Some p) s.settings total file name why → ⊥) → IsNeededFault q s repo held why → ⊥
unlooked_not q s repo held why none never fault =
    let (r, is) = some_reading s.settings in
    unlooked_first s.settings (asked_case q s (catalog_of repo) (files_of repo held) fault.named fault.rejects r) why (ap catalog_of none) never (fault.first r is)

-- ---- faults

looked_none : (b : Bool) (publisher : List ℕ) (held : Image) (repo : Option Opened) → b ≡ false → IsLookedAt b publisher held repo → repo ≡ None
looked_none true publisher held repo is at = absurd (true≢false is)
looked_none false publisher held repo is at = at

whether : (b : Bool) → (b ≡ false → ⊥) → b ≡ true
whether true never = refl
whether false never = absurd (never refl)

named_only : (w : What) (old asked : Recorded) (held : Image) (why : ProblemFault) → ((o : Option Installed) (settings : Set) (total : ℕ) (file : Option (List ℕ)) (name : List ℕ) → FaultOf o settings total file name why → ⊥)
    → IsUnposed w old asked held why → names (kind_asked w) ≡ true
named_only w old asked held why never is = whether (names (kind_asked w)) (λ none. elim is.fault [
  | inl pattern ↦ unpatterned w is.request is.over (catalog_of is.repository) why none is.is_request pattern
  | inr needed ↦ manifest_not is.request is.over is.repository held why (λ o total file name. never o is.over.settings total file name) needed
])

looked_only : (w : What) (old asked : Recorded) (held : Image) (why : ProblemFault) → ((p : Pattern) (matched : List (List ℕ)) → IsUnnamed p matched why → ⊥)
    → ((p : Installed) (settings : Set) (total : ℕ) (file : Option (List ℕ)) (name : List ℕ) → FaultOf (Some p) settings total file name why → ⊥) → IsUnposed w old asked held why → looks (kind_asked w) ≡ true
looked_only w old asked held why unnamed never is = whether (looks (kind_asked w)) (λ none. elim is.fault [
  | inl pattern ↦ pattern_not is.request is.over (catalog_of is.repository) why unnamed pattern
  | inr needed ↦ unlooked_not is.request is.over is.repository held why (looked_none (looks (kind_asked w)) old.publisher held is.repository none is.looked_at) (λ p total file name. never p is.over.settings total file name) needed
])

no_pattern_of_manifest : (o : Option Installed) (settings : Set) (total : ℕ) (file : Option (List ℕ)) (name pattern : List ℕ) → FaultOf o settings total file name (problem.NoMatch pattern) → ⊥
no_pattern_of_manifest None settings total file name pattern is = is
no_pattern_of_manifest (Some p) settings total file name pattern is = is

no_stems_of_manifest : (o : Option Installed) (settings : Set) (total : ℕ) (file : Option (List ℕ)) (name pattern : List ℕ) (stems : Vec (List ℕ) Global) → FaultOf o settings total file name (problem.Ambiguous pattern stems) → ⊥
no_stems_of_manifest None settings total file name pattern stems is = is
no_stems_of_manifest (Some p) settings total file name pattern stems is = is

-- a fault comes of the kinds of which it may
pub of_kind : (g : Given) (why : NextFault) → ComesNext g why → ComesOfKind (kind_asked g.what) why
of_kind g OldFormat is = tt
of_kind g NoRepository is = is.undecided.looking
of_kind g (BadCatalog fault) is = is.undecided.looking
of_kind g (NoMatch pattern) is = named_only g.what g.old is.asked g.held (problem.NoMatch pattern) (λ o settings total file name. no_pattern_of_manifest o settings total file name pattern) is.undecided
of_kind g (Ambiguous pattern stems) is = named_only g.what g.old is.asked g.held (problem.Ambiguous pattern stems) (λ o settings total file name. no_stems_of_manifest o settings total file name pattern stems) is.undecided
of_kind g (ManifestMissing fmri) is = looked_only g.what g.old is.asked g.held (problem.ManifestMissing fmri) (λ p matched no. no) (λ p settings total file name no. no) is.undecided
of_kind g (BadManifest fmri fault) is = looked_only g.what g.old is.asked g.held (problem.BadManifest fmri fault) (λ p matched no. no) (λ p settings total file name no. no) is.undecided
of_kind g (BadDepend fmri line) is = tt
of_kind g (TooLarge which count) is = elim is.undecided [
  | inl opening ↦ opening.looking
  | inr unposed ↦ looked_only g.what g.old is.asked g.held (problem.TooLarge which count) (λ p matched no. no) (λ p settings total file name no. no) unposed
]
of_kind g (NoSolution stems refutation) is = tt
of_kind g (SearchSpent limit) is = tt
of_kind g NothingToDo is = tt
of_kind g SourceFault is = is
