-- Files that aren't read, and what comes of them.
use Rattle.std.proofs.Common.{◌≡◌, ◌⊎◌, inl, inr, ℕ, List, [], Option, Some, None, IsTrue, refl, sym, subst}
use Rattle.ips_text.specs.declared.limits.Which.{Which}
use Rattle.ips_text.specs.declared.limits.Which.TheVariants.{ManifestBytes}
use Rattle.ips_files.specs.Files.{file_at, HasSize}
use Rattle.ips_syntax.specs.declared.table.Why.{Why}
use Rattle.ips_mogrify.specs.declared.judging.Refusal.{Refusal}
use Rattle.ips_mogrify.specs.declared.status.MogrifyOutcome.{MogrifyOutcome}
use Rattle.ips_mogrify.specs.declared.status.MogrifyOutcome.TheVariants.{FileMissing, TooLarge, SourceFault, OutOfMemory}
use Rattle.ips_mogrify.specs.declared.status.MogrifyOutcome.TheVariants as outcome
use Rattle.ips_mogrify.specs.Outcome.{SeenSource, IsSomeFile, IsFitFile, IsLargeFile, AsksToTransform, AsksFor, ComesTo, IsHostFault, IsWordFault, outcome_of, usage, refused, no_rules, no_manifest, large_rules, large_manifest}
use Rattle.ips_mogrify.specs.Refused.{IsRefused}
use Rattle.ips_mogrify.specs.Reading.{AreUnread}

-- a file that has a size is there
pub there : (s : SeenSource) (path : List ℕ) (size : ℕ) → (IsTrue s.tells → HasSize (file_at s.held path) size) → IsSomeFile s path
there s path size h = go (file_at s.held path) refl h
  where
    go : (file : Option (List ℕ)) → file_at s.held path ≡ file → (IsTrue s.tells → HasSize file size) → IsSomeFile s path
    go None e h = ([], λ told. absurd (h told))
    go (Some bytes) e h = (bytes, λ told. e)

-- ---- what comes of it

pub comes_unread : (s : SeenSource) (rules manifest : List ℕ) (words : List (List ℕ)) (o : MogrifyOutcome) → AsksToTransform words rules manifest → AreUnread s rules manifest o → IsHostFault o ⊎ ComesTo words s o
comes_unread s rules manifest words (FileMissing p) asks (inl h) = inr (no_rules rules manifest p asks h.0 h.1)
comes_unread s rules manifest words (FileMissing p) asks (inr h) = inr (no_manifest rules manifest p asks h.0 h.1 h.2)
comes_unread s rules manifest words (TooLarge which count) asks h = subst (λ (w : Which). IsHostFault (TooLarge w count) ⊎ ComesTo words s (TooLarge w count)) (sym h.0) (go h.1)
  where
    go : (IsSomeFile s manifest × IsLargeFile s rules count) ⊎ (((text : List ℕ) × IsFitFile s rules text) × IsLargeFile s manifest count) → IsHostFault (TooLarge ManifestBytes count) ⊎ ComesTo words s (TooLarge ManifestBytes count)
    go (inl g) = inr (large_rules rules manifest count asks g.0 g.1)
    go (inr g) = inr (large_manifest rules manifest g.0.0 count asks g.0.1 g.1)
comes_unread s rules manifest words SourceFault asks h = inl (inl refl)
comes_unread s rules manifest words OutOfMemory asks h = inl (inr refl)
comes_unread s rules manifest words o asks h = absurd h

pub comes_misused : (words : List (List ℕ)) (s : SeenSource) (place : ℕ) (why : Why) (o : MogrifyOutcome) → IsWordFault words place why → o ≡ outcome.Usage place why → IsHostFault o ⊎ ComesTo words s o
comes_misused words s place why o fault e = inr (subst (ComesTo words s) (sym e) (usage place why fault))

pub comes_refused : (words : List (List ℕ)) (s : SeenSource) (text bytes : List ℕ) (why : Refusal) (o : MogrifyOutcome) → AsksFor words s text bytes → IsRefused text bytes why → o ≡ outcome_of why → IsHostFault o ⊎ ComesTo words s o
comes_refused words s text bytes why o asks h e = inr (subst (ComesTo words s) (sym e) (refused text bytes why asks h))
