-- A manifest that is needed has one fault, and none where it was read.
use Rattle.std.proofs.Common.{◌≡◌, ◌⊎◌, ℕ, ◌+◌, ◌<◌, ◌≤◌, true, List, length, Option, Some, None, is_some, refl, sym, ap, subst, ◌∙◌, inl, inr, arith}
use Rattle.std.specs.Prelude.{MatchOption}
use Rattle.std.specs.Option.{option_and_then, option_map}
use Rattle.std.proofs.lemmas.Bool.{true≢false}
use Rattle.std.proofs.lemmas.Option.{none-some}
use Rattle.ips_text.specs.declared.limits.Which.{Which}
use Rattle.ips_text.specs.declared.limits.Which.TheVariants as which
use Rattle.ips_filter.specs.Settings.{Set}
use Rattle.ips_manifest.specs.declared.line.Line.{Line}
use Rattle.ips_manifest.specs.declared.fault.ManifestFault.{ManifestFault}
use Rattle.ips_manifest.specs.Manifest.{IsFaultOf, IsManifestOf}
use Rattle.ips_depend.specs.Dependency.{Dependency}
use Rattle.ips_depend.specs.Asking.{IsFirstBad, LinesAsk}
use Rattle.ips_state.specs.State.{Installed}
use Rattle.ips_repo.specs.Manifest.{manifest_limit}
use Rattle.ips_request.specs.declared.fault.ProblemFault.{ProblemFault}
use Rattle.ips_request.specs.declared.fault.ProblemFault.TheVariants as fault
use Rattle.ips_request.specs.Case.{Case, Facts, IsReading, ManifestReading, facts_in, facts_of, manifest_facts, own, said_of}
use Rattle.ips_request.specs.Manifests.{FaultOf, FitsBehind, IsManifestFault, IsManifestFileFault, IsOwnFault, IsTooLarge, Needed, all_manifests_limit, bytes_read, manifest_bytes_read, name_of, size_of}
use Rattle.ips_laws.proofs.next_laws.Manifests.{bad_once, bad_or_ask, fault_or_manifest, manifest_fault_once, manifest_once}

-- the fault tells of what was asked, and not that a call failed
abbrev pub IsTold : ProblemFault → Type 0
IsTold fault.SourceFault = ⊥
IsTold f = Unit {0}

-- ---- the repository's file

-- its bytes are too many by themselves
abbrev IsLarge : List ℕ → ProblemFault → Type 0
IsLarge bytes why = (manifest_limit < length bytes) × (why ≡ fault.TooLarge which.ManifestBytes (length bytes))

-- its bytes are too many behind those before
abbrev IsMuch : ℕ → List ℕ → ProblemFault → Type 0
IsMuch total bytes why = (length bytes ≤ manifest_limit) × (all_manifests_limit < total + length bytes) × (why ≡ fault.TooLarge which.AllManifests (total + length bytes))

-- it is no manifest
abbrev IsNone : ℕ → List ℕ → List ℕ → ProblemFault → Type 0
IsNone total bytes name why = FitsBehind total bytes × ((f : ManifestFault) × IsFaultOf bytes f × (why ≡ fault.BadManifest name f))

-- one of its lines should be a dependency and is none
abbrev AsksBadly : Set → ℕ → List ℕ → List ℕ → ProblemFault → Type 0
AsksBadly settings total bytes name why = FitsBehind total bytes × ((lines : List Line) × (line : ℕ) × IsManifestOf bytes lines × IsFirstBad settings lines line × (why ≡ fault.BadDepend name line))

abbrev Faulty : Set → ℕ → List ℕ → List ℕ → ProblemFault → Type 0
Faulty settings total bytes name why = (IsLarge bytes why ⊎ IsMuch total bytes why) ⊎ (IsNone total bytes name why ⊎ AsksBadly settings total bytes name why)

too_large : (total : ℕ) (bytes : List ℕ) (limit : Which) (count : ℕ) → IsTooLarge total bytes limit count → IsLarge bytes (fault.TooLarge limit count) ⊎ IsMuch total bytes (fault.TooLarge limit count)
too_large total bytes which.ManifestBytes count h = inl (subst (λ (n : ℕ). manifest_limit < n) h.0 h.1, ap (λ (n : ℕ). fault.TooLarge which.ManifestBytes n) h.0)
too_large total bytes which.AllManifests count h = inr (h.0, subst (λ (n : ℕ). all_manifests_limit < n) h.1 h.2, ap (λ (n : ℕ). fault.TooLarge which.AllManifests n) h.1)
too_large total bytes limit count h = absurd h

faulty : (settings : Set) (total : ℕ) (bytes name : List ℕ) (why : ProblemFault) → IsTold why → IsManifestFileFault settings total (Some bytes) name why → Faulty settings total bytes name why
faulty settings total bytes name (fault.ManifestMissing fmri) t h = absurd (none-some bytes (sym h.0))
faulty settings total bytes name (fault.BadManifest fmri f) t h = inr (inl (h.0.0, (f, h.0.1, ap (λ (n : List ℕ). fault.BadManifest n f) h.1)))
faulty settings total bytes name (fault.BadDepend fmri line) t h =
    inr (inr (h.0.0, (h.0.1.0, line, h.0.1.1, h.0.1.2, ap (λ (n : List ℕ). fault.BadDepend n line) h.1)))
faulty settings total bytes name (fault.TooLarge limit count) t h = inl (too_large total bytes limit count h)
faulty settings total bytes name fault.SourceFault t h = absurd t
faulty settings total bytes name why t h = absurd h

faulty_once : (settings : Set) (total : ℕ) (bytes name : List ℕ) (why other : ProblemFault) → Faulty settings total bytes name why → Faulty settings total bytes name other → why ≡ other
faulty_once settings total bytes name why other (inl (inl a)) (inl (inl b)) = a.1 ∙ sym b.1
faulty_once settings total bytes name why other (inl (inl a)) (inl (inr b)) = absurd (let m = a.0 in let n = b.0 in omega arith)
faulty_once settings total bytes name why other (inl (inl a)) (inr (inl b)) = absurd (let m = a.0 in let n = b.0.alone in omega arith)
faulty_once settings total bytes name why other (inl (inl a)) (inr (inr b)) = absurd (let m = a.0 in let n = b.0.alone in omega arith)
faulty_once settings total bytes name why other (inl (inr a)) (inl (inl b)) = absurd (let m = a.0 in let n = b.0 in omega arith)
faulty_once settings total bytes name why other (inl (inr a)) (inl (inr b)) = a.2 ∙ sym b.2
faulty_once settings total bytes name why other (inl (inr a)) (inr (inl b)) = absurd (let m = a.1 in let n = b.0.behind in omega arith)
faulty_once settings total bytes name why other (inl (inr a)) (inr (inr b)) = absurd (let m = a.1 in let n = b.0.behind in omega arith)
faulty_once settings total bytes name why other (inr (inl a)) (inl (inl b)) = absurd (let m = b.0 in let n = a.0.alone in omega arith)
faulty_once settings total bytes name why other (inr (inl a)) (inl (inr b)) = absurd (let m = b.1 in let n = a.0.behind in omega arith)
faulty_once settings total bytes name why other (inr (inl a)) (inr (inl b)) = a.1.2 ∙ ap (λ (f : ManifestFault). fault.BadManifest name f) (manifest_fault_once bytes a.1.0 b.1.0 a.1.1 b.1.1) ∙ sym b.1.2
faulty_once settings total bytes name why other (inr (inl a)) (inr (inr b)) = absurd (fault_or_manifest bytes a.1.0 b.1.0 a.1.1 b.1.2)
faulty_once settings total bytes name why other (inr (inr a)) (inl (inl b)) = absurd (let m = b.0 in let n = a.0.alone in omega arith)
faulty_once settings total bytes name why other (inr (inr a)) (inl (inr b)) = absurd (let m = b.1 in let n = a.0.behind in omega arith)
faulty_once settings total bytes name why other (inr (inr a)) (inr (inl b)) = absurd (fault_or_manifest bytes b.1.0 a.1.0 b.1.1 a.1.2)
faulty_once settings total bytes name why other (inr (inr a)) (inr (inr b)) =
    let lines = manifest_once bytes a.1.0 b.1.0 a.1.2 b.1.2 in
    let number = bad_once settings b.1.0 a.1.1 b.1.1 (subst (λ (l : List Line). IsFirstBad settings l a.1.1) lines a.1.3) b.1.3 in
    a.1.4 ∙ ap (λ (n : ℕ). fault.BadDepend name n) number ∙ sym b.1.4

-- a file that isn't there is missing, and nothing else
missing : (settings : Set) (total : ℕ) (name : List ℕ) (why : ProblemFault) → IsTold why → IsManifestFileFault settings total None name why → why ≡ fault.ManifestMissing name
missing settings total name (fault.ManifestMissing fmri) t h = ap (λ (n : List ℕ). fault.ManifestMissing n) h.1
missing settings total name (fault.BadManifest fmri f) t h = absurd h.0
missing settings total name (fault.BadDepend fmri line) t h = absurd h.0
missing settings total name fault.SourceFault t h = absurd t
missing settings total name why t h = absurd h

file_fault_once : (settings : Set) (total : ℕ) (file : Option (List ℕ)) (name : List ℕ) (why other : ProblemFault) → IsTold why → IsTold other
    → IsManifestFileFault settings total file name why → IsManifestFileFault settings total file name other → why ≡ other
file_fault_once settings total None name why other t u h k = missing settings total name why t h ∙ sym (missing settings total name other u k)
file_fault_once settings total (Some bytes) name why other t u h k = faulty_once settings total bytes name why other (faulty settings total bytes name why t h) (faulty settings total bytes name other u k)

-- ---- lines of the image

-- of lines that ask badly nothing is said
unsaid : (settings : Set) (r : ManifestReading) (lines : List Line) (n : ℕ) → IsReading settings r → IsFirstBad settings lines n → is_some (facts_of r lines) ≡ true → ⊥
unsaid settings r lines n reading bad said = go (r.dependencies lines) (reading.dependencies lines) said
  where
    go : (o : Option (List Dependency)) → MatchOption o ((ds : List Dependency) → LinesAsk settings lines ds → ⊥) (LinesAsk settings lines)
        → is_some (option_map (λ (ds : List Dependency). let f : Facts = record { lines = lines; dependencies = ds } in f) o) ≡ true → ⊥
    go None none some = true≢false (sym some)
    go (Some ds) ask some = bad_or_ask settings lines n ds bad ask

own_fault : (settings : Set) (lines : List Line) (name : List ℕ) (why : ProblemFault) → IsOwnFault settings lines name why → (n : ℕ) × IsFirstBad settings lines n × (why ≡ fault.BadDepend name n)
own_fault settings lines name (fault.BadDepend fmri line) h = (line, h.0, ap (λ (n : List ℕ). fault.BadDepend n line) h.1)
own_fault settings lines name why h = absurd h

own_fault_once : (settings : Set) (lines : List Line) (name : List ℕ) (why other : ProblemFault) → IsOwnFault settings lines name why → IsOwnFault settings lines name other → why ≡ other
own_fault_once settings lines name why other h k =
    let a = own_fault settings lines name why h in
    let b = own_fault settings lines name other k in
    a.2 ∙ ap (λ (n : ℕ). fault.BadDepend name n) (bad_once settings lines a.0 b.0 a.1 b.1) ∙ sym b.2

-- ---- the one or the other

-- a file that has a fault says nothing, or is too large
unread : (settings : Set) (r : ManifestReading) (total : ℕ) (bytes name : List ℕ) (why : ProblemFault) → IsReading settings r → Faulty settings total bytes name why → is_some (facts_in r (Some bytes)) ≡ true
    → length bytes ≤ manifest_limit → total + length bytes ≤ all_manifests_limit → ⊥
unread settings r total bytes name why reading (inl (inl a)) said alone behind = let m = a.0 in omega arith
unread settings r total bytes name why reading (inl (inr a)) said alone behind = let m = a.1 in omega arith
unread settings r total bytes name why reading (inr (inl a)) said alone behind = go (r.lines bytes) refl (reading.lines bytes)
  where
    go : (o : Option (List Line)) → r.lines bytes ≡ o → MatchOption o ((lines : List Line) → IsManifestOf bytes lines → ⊥) (IsManifestOf bytes) → ⊥
    go None at none = true≢false (sym said ∙ ap (λ (l : Option (List Line)). is_some (option_and_then (facts_of r) l)) at)
    go (Some lines) at is = fault_or_manifest bytes a.1.0 lines a.1.1 is
unread settings r total bytes name why reading (inr (inr a)) said alone behind = go (r.lines bytes) refl (reading.lines bytes)
  where
    go : (o : Option (List Line)) → r.lines bytes ≡ o → MatchOption o ((lines : List Line) → IsManifestOf bytes lines → ⊥) (IsManifestOf bytes) → ⊥
    go None at none = none a.1.0 a.1.2
    go (Some lines) at is =
        let same = manifest_once bytes a.1.0 lines a.1.2 is in
        let here : is_some (facts_of r lines) ≡ true = ap (λ (l : Option (List Line)). is_some (option_and_then (facts_of r) l)) (sym at) ∙ said in
        unsaid settings r lines a.1.1 reading (subst (λ (l : List Line). IsFirstBad settings l a.1.1) same a.1.3) here

unread_file : (settings : Set) (r : ManifestReading) (total : ℕ) (file : Option (List ℕ)) (name : List ℕ) (why : ProblemFault) → IsReading settings r → IsTold why → IsManifestFileFault settings total file name why
    → is_some (facts_in r file) ≡ true → size_of file ≤ manifest_limit → total + size_of file ≤ all_manifests_limit → ⊥
unread_file settings r total None name why reading t h said alone behind = true≢false (sym said)
unread_file settings r total (Some bytes) name why reading t h said alone behind = unread settings r total bytes name why reading (faulty settings total bytes name why t h) said alone behind

-- ---- a manifest that is needed

pub fault_once : (settings : Set) (c : Case) (total : ℕ) (n : Needed) (why other : ProblemFault) → IsTold why → IsTold other → IsManifestFault settings c total n why → IsManifestFault settings c total n other → why ≡ other
fault_once settings c total n why other t u = go (own c n.stem n.version)
  where
    go : (o : Option Installed) → FaultOf o settings total (c.file n.stem n.version) (name_of n) why → FaultOf o settings total (c.file n.stem n.version) (name_of n) other → why ≡ other
    go None h k = file_fault_once settings total (c.file n.stem n.version) (name_of n) why other t u h k
    go (Some p) h k = own_fault_once settings p.lines (name_of n) why other h k

pub fault_or_read : (settings : Set) (c : Case) (total : ℕ) (n : Needed) (why : ProblemFault) → IsReading settings c.reading → IsTold why → IsManifestFault settings c total n why
    → is_some (manifest_facts c n.stem n.version) ≡ true → bytes_read c n ≤ manifest_limit → total + bytes_read c n ≤ all_manifests_limit → ⊥
fault_or_read settings c total n why reading t = go (own c n.stem n.version)
  where
    go : (o : Option Installed) → FaultOf o settings total (c.file n.stem n.version) (name_of n) why → is_some (said_of c o n.stem n.version) ≡ true → manifest_bytes_read o (c.file n.stem n.version) ≤ manifest_limit
        → total + manifest_bytes_read o (c.file n.stem n.version) ≤ all_manifests_limit → ⊥
    go None h said alone behind = unread_file settings c.reading total (c.file n.stem n.version) (name_of n) why reading t h said alone behind
    go (Some p) h said alone behind = let a = own_fault settings p.lines (name_of n) why h in unsaid settings c.reading p.lines a.0 reading a.1 said
