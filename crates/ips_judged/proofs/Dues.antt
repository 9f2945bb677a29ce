-- What the first steps answer, as the judging of publications has it.
use Rattle.std.proofs.Common.{◌≡◌, ℕ, ◌≤◌, ◌<◌, List, length, Some, Result, Ok, Err, inl, inr, sym, subst}
use Rattle.std.specs.List.{AllByRecursion, Contains}
use Rattle.ips_text.specs.declared.limits.Which.{Which}
use Rattle.ips_text.specs.declared.limits.Which.TheVariants.{ManifestBytes}
use Rattle.ips_text.specs.declared.refusal.Or.{Or}
use Rattle.ips_text.specs.declared.refusal.Or.TheVariants.{Bad, OutOfMemory}
use Rattle.ips_text.specs.Reading.{IfBad}
use Rattle.ips_outside.specs.Image.{Image}
use Rattle.ips_files.specs.Files.{file_at}
use Rattle.ips_catalog.specs.Listed.{Listed, versions_of}
use Rattle.ips_manifest.specs.declared.draft.Draft.{Draft}
use Rattle.ips_repo.specs.Manifest.{manifest_limit}
use Rattle.ips_repo.specs.Opening.{opening}
use Rattle.ips_sends.specs.Judged as judged
use Rattle.ips_sends.specs.Judged.{HasSource, HasManifest, IsNew, Judges, HasNoManifest, HasLargeManifest, HasBadManifest, LacksSource, IsListedYet}
use Rattle.ips_judged.specs.declared.verdict.Asked.{Asked}
use Rattle.ips_judged.specs.declared.verdict.Refusal.{Refusal}
use Rattle.ips_judged.specs.declared.verdict.Refusal.TheVariants.{Unopened, ManifestMissing, BadManifest, ContentMissing, Exists, Blocked, TooLarge}
use Rattle.ips_judged.specs.declared.verdict.JudgeFault.{JudgeFault}
use Rattle.ips_judged.specs.declared.verdict.JudgeFault.TheVariants.{Refused, SourceFault, FolderFault}
use Rattle.ips_judged.specs.Steps.{IsWhy, IsUnopened, AreDraftsAt, IsNoDraft, AreLacking, IsNotReady, IsOfTarget, IsOfProto}
use Rattle.ips_judged.specs.Answers.{asked_of, refusal_of, SaysOfJudging, HasPassed}

module _ (proto t : Image) (a : Asked) where
  abbrev Due : Refusal → Type 0
  Due r = Judges proto t (asked_of a) (judged.Refused (refusal_of r))

  unopened_due : (r : Refusal) → IsUnopened a.publisher t r → Due r
  unopened_due (Unopened why) h = judged.IsUnopened why h
  unopened_due ManifestMissing h = absurd h
  unopened_due (BadManifest f) h = absurd h
  unopened_due (ContentMissing text) h = absurd h
  unopened_due Exists h = absurd h
  unopened_due (Blocked path) h = absurd h
  unopened_due (TooLarge which count) h = absurd h

  pub unopened_says : (X Y : Type 0) (e : Or JudgeFault) → IfBad {X = X} (Err e) (IsWhy (IsUnopened a.publisher t)) → IfBad {X = Y} (Err e) (SaysOfJudging proto t a)
  unopened_says X Y OutOfMemory h = tt
  unopened_says X Y (Bad (Refused r)) h = unopened_due r h
  unopened_says X Y (Bad SourceFault) h = tt
  unopened_says X Y (Bad FolderFault) h = tt

  module _ (catalog : List Listed) (opened : opening a.publisher t ≡ Ok catalog) where
    abbrev pub has_manifest : (bytes : List ℕ) → file_at proto a.path.bytes ≡ Some bytes → length bytes ≤ manifest_limit → HasManifest proto t (asked_of a)
    has_manifest bytes stands within = record { catalog = catalog; opened = opened; bytes = bytes; stands = stands; within = within }

    no_draft_due : (r : Refusal) → IsNoDraft proto a.path.bytes r → Due r
    no_draft_due (Unopened why) h = absurd h
    no_draft_due ManifestMissing h = HasNoManifest catalog opened h
    no_draft_due (BadManifest f) h = HasBadManifest (has_manifest h.0 h.1 h.2) f h.3
    no_draft_due (ContentMissing text) h = absurd h
    no_draft_due Exists h = absurd h
    no_draft_due (Blocked path) h = absurd h
    no_draft_due (TooLarge which count) h = large which count h.0 h.1
      where
        large : (which : Which) (count : ℕ) → which ≡ ManifestBytes → (let over : Type 0 = (bytes : List ℕ) × (file_at proto a.path.bytes ≡ Some bytes) × (length bytes ≡ count) × (manifest_limit < count) in over) → Due (TooLarge which count)
        large which count is over =
            let passed : manifest_limit < length over.0 = subst (λ (n : ℕ). manifest_limit < n) (sym over.2) over.3 in
            let due : Due (TooLarge ManifestBytes (length over.0)) = HasLargeManifest catalog over.0 opened over.1 passed in
            subst (λ (w : Which). Due (TooLarge w count)) (sym is) (subst (λ (n : ℕ). Due (TooLarge ManifestBytes n)) over.2 due)

    lacking_due : (drafts : List Draft) → AreDraftsAt proto a.path.bytes drafts → (r : Refusal) → AreLacking proto drafts r → Due r
    lacking_due drafts at (Unopened why) h = absurd h
    lacking_due drafts at ManifestMissing h = absurd h
    lacking_due drafts at (BadManifest f) h = absurd h
    lacking_due drafts at (ContentMissing text) h = LacksSource (has_manifest at.bytes at.stands at.within) drafts text at.are h
    lacking_due drafts at Exists h = absurd h
    lacking_due drafts at (Blocked path) h = absurd h
    lacking_due drafts at (TooLarge which count) h = absurd h

    not_ready_due : (r : Refusal) → IsNotReady proto a.path.bytes r → Due r
    not_ready_due r (inl h) = no_draft_due r h
    not_ready_due r (inr h) = lacking_due h.0 h.1 r h.2

    pub unready_says : (X Y : Type 0) (e : Or JudgeFault) → IfBad {X = X} (Err e) (IsWhy (IsNotReady proto a.path.bytes)) → IfBad {X = Y} (Err e) (SaysOfJudging proto t a)
    unready_says X Y OutOfMemory h = tt
    unready_says X Y (Bad (Refused r)) h = not_ready_due r h
    unready_says X Y (Bad SourceFault) h = tt
    unready_says X Y (Bad FolderFault) h = tt

    pub listed_due : (drafts : List Draft) → AreDraftsAt proto a.path.bytes drafts → AllByRecursion (HasSource proto) drafts → Contains (versions_of catalog a.stem) a.version → Due Exists
    listed_due drafts at sources listed = IsListedYet (has_manifest at.bytes at.stands at.within) drafts at.are sources listed

  abbrev pub is_new : (catalog : List Listed) (drafts : List Draft) → HasPassed proto t a catalog drafts → IsNew proto t (asked_of a)
  is_new catalog drafts p = record {
    has = record { catalog = catalog; opened = p.opened; bytes = p.draft.bytes; stands = p.draft.stands; within = p.draft.within };
    drafts = drafts;
    are = p.draft.are;
    sources = p.sources;
    new = p.new;
  }

pub not_of_proto : (X Y : Type 0) (e : Or JudgeFault) → IfBad {X = X} (Err e) IsOfTarget → (let r : Result Y (Or JudgeFault) = Err e in r) ≡ Err (Bad SourceFault) → ⊥
not_of_proto X Y OutOfMemory h is = cc
not_of_proto X Y (Bad (Refused r)) h is = cc
not_of_proto X Y (Bad SourceFault) h is = h
not_of_proto X Y (Bad FolderFault) h is = cc

pub not_of_target : (X Y : Type 0) (e : Or JudgeFault) → IfBad {X = X} (Err e) IsOfProto → (let r : Result Y (Or JudgeFault) = Err e in r) ≡ Err (Bad FolderFault) → ⊥
not_of_target X Y OutOfMemory h is = cc
not_of_target X Y (Bad (Refused r)) h is = cc
not_of_target X Y (Bad SourceFault) h is = cc
not_of_target X Y (Bad FolderFault) h is = h
