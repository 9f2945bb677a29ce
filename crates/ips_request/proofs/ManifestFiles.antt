-- What reading a manifest's file gives.
use Rattle.std.proofs.Common.{◌≡◌, ℕ, List, Option, Some, None, Err, refl, sym, subst}
use Rattle.ips_text.specs.Reading.{IfBad}
use Rattle.ips_text.specs.declared.limits.Which.{Which}
use Rattle.ips_text.specs.declared.refusal.Or.{Or}
use Rattle.ips_text.specs.declared.refusal.Or.TheVariants.{Bad, OutOfMemory}
use Rattle.ips_files.specs.Files.{HasSize}
use Rattle.ips_repo.specs.Manifest as held
use Rattle.ips_repo.specs.Answer.{Answers}
use Rattle.ips_repo.specs.Manifest.{IsBytesFault, IsManifestRefusal, manifest_in, manifest_limit}
use Rattle.ips_repo.proofs.Manifests.{refused_bytes}
use Rattle.ips_repo.specs.declared.fault.RepoFault.{RepoFault}
use Rattle.ips_repo.specs.declared.fault.RepoFault.TheVariants as repo
use Rattle.ips_request.specs.declared.fault.ProblemFault.{ProblemFault}
use Rattle.ips_request.specs.declared.fault.ProblemFault.TheVariants as fault
use Rattle.ips_request.specs.Manifests.{IsFetchFault, IsMissing, IsThere, IsTooLarge, IsUnread}

-- what holds of the bytes of a file
pub there : (file : Option (List ℕ)) (bytes : List ℕ) (P : List ℕ → Type 0) → file ≡ Some bytes → P bytes → IsThere file P
there file bytes P e h = subst (λ o. IsThere o P) (sym e) h

-- ---- why bytes weren't read

too_large : (total count : ℕ) (which : Which) (file : Option (List ℕ)) → held.IsTooLarge which count → HasSize file count → IsThere file (λ bytes. IsTooLarge total bytes which count)
too_large total count which None large size = absurd size
too_large total count which (Some bytes) large size = subst (λ w. IsTooLarge total bytes w count) (sym large.0) (sym size, large.1)

missed : (X : Type 0) (total : ℕ) (file : Option (List ℕ)) (name : List ℕ) (e : Or ProblemFault) → file ≡ None → IsMissing name e → IfBad {X = X} (Err e) (IsFetchFault total file name)
missed X total file name (Bad (fault.NoMatch pattern)) none h = absurd h
missed X total file name (Bad (fault.Ambiguous pattern stems)) none h = absurd h
missed X total file name (Bad (fault.ManifestMissing fmri)) none h = (none, h)
missed X total file name (Bad (fault.BadManifest fmri why)) none h = absurd h
missed X total file name (Bad (fault.BadDepend fmri line)) none h = absurd h
missed X total file name (Bad (fault.TooLarge which count)) none h = absurd h
missed X total file name (Bad fault.SourceFault) none h = absurd h
missed X total file name OutOfMemory none h = tt

-- a fault of reading the bytes, as one of the problem
pub unread_fault : (X : Type 0) (total : ℕ) (file : Option (List ℕ)) (name : List ℕ) (f : RepoFault) (e : Or ProblemFault) → IsBytesFault f → IsManifestRefusal file f → IsUnread f name e → IfBad {X = X} (Err e) (IsFetchFault total file name)
unread_fault X total file name repo.NoRepository e is why u = absurd is
unread_fault X total file name (repo.BadCatalog c) e is why u = absurd is
unread_fault X total file name repo.ManifestMissing e is why u = missed X total file name e why u
unread_fault X total file name (repo.BadManifest m) e is why u = absurd is
unread_fault X total file name repo.PayloadMissing e is why u = absurd is
unread_fault X total file name (repo.PayloadDamaged found) e is why u = absurd is
unread_fault X total file name (repo.Compressed found) e is why u = absurd is
unread_fault X total file name (repo.TooLarge which count) e is why u =
    subst (λ e. IfBad {X = X} (Err e) (IsFetchFault total file name)) (sym u) (too_large total count which file why.0 why.1)
unread_fault X total file name repo.SourceFault e is why u = subst (λ e. IfBad {X = X} (Err e) (IsFetchFault total file name)) (sym u) tt

pub no_missing : (name : List ℕ) (e : Or ProblemFault) → IsMissing name e → e ≡ Bad fault.SourceFault → ⊥
no_missing name e h is = subst (IsMissing name) is h

-- a call that failed is told as such, and nothing else is
pub unread_source : (name : List ℕ) (f : RepoFault) (e : Or ProblemFault) → IsUnread f name e → e ≡ Bad fault.SourceFault → f ≡ repo.SourceFault
unread_source name repo.NoRepository e u is = absurd (no_missing name e u is)
unread_source name (repo.BadCatalog c) e u is = absurd (no_missing name e u is)
unread_source name repo.ManifestMissing e u is = absurd (no_missing name e u is)
unread_source name (repo.BadManifest m) e u is = absurd (no_missing name e u is)
unread_source name repo.PayloadMissing e u is = absurd (no_missing name e u is)
unread_source name (repo.PayloadDamaged found) e u is = absurd (no_missing name e u is)
unread_source name (repo.Compressed found) e u is = absurd (no_missing name e u is)
unread_source name (repo.TooLarge which count) e u is = cc
unread_source name repo.SourceFault e u is = refl

pub source_unread : (name : List ℕ) (f : RepoFault) (e : Or ProblemFault) → IsUnread f name e → f ≡ repo.SourceFault → e ≡ Bad fault.SourceFault
source_unread name f e u is = let h : IsUnread repo.SourceFault name e = subst (λ f. IsUnread f name e) is u in h

-- what a fault of reading the bytes says
pub refusal_of : (A : Type 0) (view : A → List ℕ) (file : Option (List ℕ)) (e : Or RepoFault) (f : RepoFault) → e ≡ Bad f → IfBad {X = A} (Err e) IsBytesFault → Answers view (Err e) (manifest_in file)
    → IsBytesFault f × IsManifestRefusal file f
refusal_of A view file e f is faults meant =
    (subst (λ e. IfBad {X = A} (Err e) IsBytesFault) is faults, subst (λ e. IfBad {X = A} (Err e) (IsManifestRefusal file)) is (refused_bytes A A view file e faults meant))
