-- Which outcome of which phase is which.
use Rattle.std.proofs.Common.{◌≡◌, ◌⊎◌, ⊎_elim, ℕ, false, List, Result, Ok, Err, OnOk, refl, subst}
use Rattle.ips_text.specs.declared.refusal.Or.{Or}
use Rattle.ips_text.specs.declared.refusal.Or.TheVariants.{Bad}
use Rattle.ips_text.specs.declared.refusal.Or.TheVariants as or
use Rattle.ips_commit.specs.declared.fault.CommitFault.{CommitFault}
use Rattle.ips_commit.specs.declared.fault.CommitFault.TheVariants as commit
use Rattle.ips_repo.specs.declared.fault.RepoFault.{RepoFault}
use Rattle.ips_repo.specs.declared.fault.RepoFault.TheVariants as repo
use Rattle.ips_judged.specs.declared.verdict.Asked.{Asked}
use Rattle.ips_judged.specs.declared.verdict.Refusal.{Refusal}
use Rattle.ips_judged.specs.declared.verdict.Refusal.TheVariants as refusal
use Rattle.ips_published.specs.declared.fault.PublishFault.TheVariants as publish
use Rattle.ips_published.specs.Ending.{Ending, IsStopped}
use Rattle.ips_create.specs.declared.fault.CreateFault.{CreateFault}
use Rattle.ips_create.specs.declared.fault.CreateFault.TheVariants as create
use Rattle.ips_create.specs.Created.{has_begun}
use Rattle.ips_sends.specs.Published.{fmri_text}
use Rattle.ips_send_report.specs.declared.outcome.SendOutcome.{SendOutcome}
use Rattle.ips_send_report.specs.declared.outcome.SendOutcome.TheVariants as outcome
use Rattle.ips_publish.specs.Told.{unsettled_as, created_as, unopened_as, refused_as, published_as, is_published, BlamesFolder, IsFault, IsEarly}

-- how a making ends
abbrev pub Made : Type 0
Made = Result (Unit {0}) (Or CreateFault)

-- ---- an early one

pub early_unpublished : (x : SendOutcome) → IsEarly x → is_published x ≡ false
early_unpublished (outcome.Usage place why) early = refl
early_unpublished (outcome.BadJournal line) early = refl
early_unpublished outcome.Exists early = refl
early_unpublished (outcome.Blocked path) early = refl
early_unpublished outcome.NoRepository early = refl
early_unpublished (outcome.BadCatalog fault) early = refl
early_unpublished outcome.ManifestMissing early = refl
early_unpublished (outcome.BadManifest fault) early = refl
early_unpublished (outcome.ContentMissing path) early = refl
early_unpublished (outcome.TooLarge which count) early = refl
early_unpublished outcome.SourceFault early = refl
early_unpublished (outcome.FolderFault unfinished) early = refl
early_unpublished outcome.Created early = refl
early_unpublished (outcome.Published fmri) early = absurd early
early_unpublished outcome.OutOfMemory early = refl

pub early_unblamed : (x : SendOutcome) → IsEarly x → BlamesFolder x → ⊥
early_unblamed (outcome.Usage place why) early blames = blames
early_unblamed (outcome.BadJournal line) early blames = blames
early_unblamed outcome.Exists early blames = blames
early_unblamed (outcome.Blocked path) early blames = blames
early_unblamed outcome.NoRepository early blames = blames
early_unblamed (outcome.BadCatalog fault) early blames = blames
early_unblamed outcome.ManifestMissing early blames = blames
early_unblamed (outcome.BadManifest fault) early blames = blames
early_unblamed (outcome.ContentMissing path) early blames = blames
early_unblamed (outcome.TooLarge which count) early blames = blames
early_unblamed outcome.SourceFault early blames = blames
early_unblamed (outcome.FolderFault unfinished) early blames = early
early_unblamed outcome.Created early blames = blames
early_unblamed (outcome.Published fmri) early blames = blames
early_unblamed outcome.OutOfMemory early blames = blames

pub early_isnt : (x y : SendOutcome) → IsEarly x → x ≡ y → IsEarly y
early_isnt x y early is = subst (λ (o : SendOutcome). IsEarly o) is early

pub early_unread : (x : SendOutcome) → IsEarly x → x ≡ outcome.SourceFault → ⊥
early_unread x early is = early_isnt x outcome.SourceFault early is

-- ---- what was stopped isn't brought to its end

pub unsettled_fault : (why : Or CommitFault) → IsFault (unsettled_as why)
unsettled_fault (Bad commit.Unchanged) = tt
unsettled_fault (Bad commit.Unfinished) = tt
unsettled_fault (Bad (commit.BadJournal line)) = tt
unsettled_fault or.OutOfMemory = tt

pub unsettled_unpublished : (why : Or CommitFault) → is_published (unsettled_as why) ≡ false
unsettled_unpublished (Bad commit.Unchanged) = refl
unsettled_unpublished (Bad commit.Unfinished) = refl
unsettled_unpublished (Bad (commit.BadJournal line)) = refl
unsettled_unpublished or.OutOfMemory = refl

pub unsettled_unread : (why : Or CommitFault) → unsettled_as why ≡ outcome.SourceFault → ⊥
unsettled_unread (Bad commit.Unchanged) is = cc
unsettled_unread (Bad commit.Unfinished) is = cc
unsettled_unread (Bad (commit.BadJournal line)) is = cc
unsettled_unread or.OutOfMemory is = cc

pub unsettled_bad : (why : Or CommitFault) (line : ℕ) → unsettled_as why ≡ outcome.BadJournal line → why ≡ Bad (commit.BadJournal line)
unsettled_bad (Bad commit.Unchanged) line is = cc
unsettled_bad (Bad commit.Unfinished) line is = cc
unsettled_bad (Bad (commit.BadJournal other)) line is = cc
unsettled_bad or.OutOfMemory line is = cc

pub unsettled_starved : (why : Or CommitFault) → IsEarly (unsettled_as why) ⊎ (unsettled_as why ≡ outcome.OutOfMemory) → why ≡ or.OutOfMemory
unsettled_starved (Bad commit.Unchanged) which = ⊎_elim (λ early. absurd early) (λ is. cc) which
unsettled_starved (Bad commit.Unfinished) which = ⊎_elim (λ early. absurd early) (λ is. cc) which
unsettled_starved (Bad (commit.BadJournal line)) which = ⊎_elim (λ early. absurd early) (λ is. cc) which
unsettled_starved or.OutOfMemory which = refl

-- ---- a repository that is made, or isn't

pub made_unpublished : (x : Made) → is_published (created_as x) ≡ false
made_unpublished (Ok done) = refl
made_unpublished (Err (Bad create.Exists)) = refl
made_unpublished (Err (Bad (create.Blocked path))) = refl
made_unpublished (Err (Bad (create.FolderFault unfinished))) = refl
made_unpublished (Err or.OutOfMemory) = refl

pub made_unread : (x : Made) → created_as x ≡ outcome.SourceFault → ⊥
made_unread (Ok done) is = cc
made_unread (Err (Bad create.Exists)) is = cc
made_unread (Err (Bad (create.Blocked path))) is = cc
made_unread (Err (Bad (create.FolderFault unfinished))) is = cc
made_unread (Err or.OutOfMemory) is = cc

pub made_not_bad : (x : Made) (line : ℕ) → created_as x ≡ outcome.BadJournal line → ⊥
made_not_bad (Ok done) line is = cc
made_not_bad (Err (Bad create.Exists)) line is = cc
made_not_bad (Err (Bad (create.Blocked path))) line is = cc
made_not_bad (Err (Bad (create.FolderFault unfinished))) line is = cc
made_not_bad (Err or.OutOfMemory) line is = cc

pub made_not_published : (x : Made) (fmri : List ℕ) → created_as x ≡ outcome.Published fmri → ⊥
made_not_published (Ok done) fmri is = cc
made_not_published (Err (Bad create.Exists)) fmri is = cc
made_not_published (Err (Bad (create.Blocked path))) fmri is = cc
made_not_published (Err (Bad (create.FolderFault unfinished))) fmri is = cc
made_not_published (Err or.OutOfMemory) fmri is = cc

-- it is told as made
pub made_so : (x : Made) (P : Type 0) → created_as x ≡ outcome.Created → OnOk x P → P
made_so (Ok done) P is made = made
made_so (Err (Bad create.Exists)) P is made = cc
made_so (Err (Bad (create.Blocked path))) P is made = cc
made_so (Err (Bad (create.FolderFault unfinished))) P is made = cc
made_so (Err or.OutOfMemory) P is made = cc

pub made_starved : (x : Made) → IsEarly (created_as x) ⊎ (created_as x ≡ outcome.OutOfMemory) → has_begun x ≡ false
made_starved (Ok done) which = ⊎_elim (λ early. absurd early) (λ is. cc) which
made_starved (Err (Bad create.Exists)) which = refl
made_starved (Err (Bad (create.Blocked path))) which = refl
made_starved (Err (Bad (create.FolderFault unfinished))) which = ⊎_elim (λ early. absurd early) (λ is. cc) which
made_starved (Err or.OutOfMemory) which = refl

-- ---- a package that is published, or isn't

unopened_early : (why : RepoFault) → IsEarly (unopened_as why)
unopened_early repo.NoRepository = tt
unopened_early (repo.BadCatalog why) = tt
unopened_early repo.ManifestMissing = tt
unopened_early (repo.BadManifest why) = tt
unopened_early repo.PayloadMissing = tt
unopened_early (repo.PayloadDamaged found) = tt
unopened_early (repo.Compressed found) = tt
unopened_early (repo.TooLarge which count) = tt
unopened_early repo.SourceFault = tt

pub refused_early : (why : Refusal) → IsEarly (refused_as why)
refused_early (refusal.Unopened why) = unopened_early why
refused_early refusal.ManifestMissing = tt
refused_early (refusal.BadManifest why) = tt
refused_early (refusal.ContentMissing text) = tt
refused_early refusal.Exists = tt
refused_early (refusal.Blocked path) = tt
refused_early (refusal.TooLarge which count) = tt

pub refused_isnt : (why : Refusal) (x : SendOutcome) → refused_as why ≡ x → IsEarly x
refused_isnt why x is = early_isnt (refused_as why) x (refused_early why) is

pub refused_unpublished : (why : Refusal) → is_published (refused_as why) ≡ false
refused_unpublished why = early_unpublished (refused_as why) (refused_early why)

pub refused_unblamed : (why : Refusal) → BlamesFolder (refused_as why) → ⊥
refused_unblamed why blames = early_unblamed (refused_as why) (refused_early why) blames

module _ (a : Asked) where
  pub stopped_unpublished : (x : Ending) → IsStopped x → is_published (published_as a x) ≡ false
  stopped_unpublished (Ok done) stopped = absurd stopped
  stopped_unpublished (Err (Bad (publish.Refused why))) stopped = absurd stopped
  stopped_unpublished (Err (Bad (publish.Lost text))) stopped = refl
  stopped_unpublished (Err (Bad publish.SourceFault)) stopped = refl
  stopped_unpublished (Err (Bad (publish.FolderFault unfinished))) stopped = refl
  stopped_unpublished (Err (Bad (publish.BadJournal line))) stopped = refl
  stopped_unpublished (Err or.OutOfMemory) stopped = refl

  pub published_bad : (x : Ending) (line : ℕ) → published_as a x ≡ outcome.BadJournal line → x ≡ Err (Bad (publish.BadJournal line))
  published_bad (Ok done) line is = cc
  published_bad (Err (Bad (publish.Refused why))) line is = absurd (refused_isnt why (outcome.BadJournal line) is)
  published_bad (Err (Bad (publish.Lost text))) line is = cc
  published_bad (Err (Bad publish.SourceFault)) line is = cc
  published_bad (Err (Bad (publish.FolderFault unfinished))) line is = cc
  published_bad (Err (Bad (publish.BadJournal other))) line is = cc
  published_bad (Err or.OutOfMemory) line is = cc

  pub published_not_made : (x : Ending) → published_as a x ≡ outcome.Created → ⊥
  published_not_made (Ok done) is = cc
  published_not_made (Err (Bad (publish.Refused why))) is = refused_isnt why outcome.Created is
  published_not_made (Err (Bad (publish.Lost text))) is = cc
  published_not_made (Err (Bad publish.SourceFault)) is = cc
  published_not_made (Err (Bad (publish.FolderFault unfinished))) is = cc
  published_not_made (Err (Bad (publish.BadJournal line))) is = cc
  published_not_made (Err or.OutOfMemory) is = cc

  -- it is told as published, under this name
  pub published_so : (x : Ending) (fmri : List ℕ) → published_as a x ≡ outcome.Published fmri → (x ≡ Ok tt) × (fmri ≡ fmri_text a.publisher a.stem a.version)
  published_so (Ok done) fmri is = (refl, cc)
  published_so (Err (Bad (publish.Refused why))) fmri is = absurd (refused_isnt why (outcome.Published fmri) is)
  published_so (Err (Bad (publish.Lost text))) fmri is = absurd (cc)
  published_so (Err (Bad publish.SourceFault)) fmri is = absurd (cc)
  published_so (Err (Bad (publish.FolderFault unfinished))) fmri is = absurd (cc)
  published_so (Err (Bad (publish.BadJournal line))) fmri is = absurd (cc)
  published_so (Err or.OutOfMemory) fmri is = absurd (cc)

  pub published_unread : (x : Ending) → published_as a x ≡ outcome.SourceFault → x ≡ Err (Bad publish.SourceFault)
  published_unread (Ok done) is = cc
  published_unread (Err (Bad (publish.Refused why))) is = absurd (refused_isnt why outcome.SourceFault is)
  published_unread (Err (Bad (publish.Lost text))) is = cc
  published_unread (Err (Bad publish.SourceFault)) is = refl
  published_unread (Err (Bad (publish.FolderFault unfinished))) is = cc
  published_unread (Err (Bad (publish.BadJournal line))) is = cc
  published_unread (Err or.OutOfMemory) is = cc
