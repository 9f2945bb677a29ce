-- The causes of the outcomes, in the order in which they are tested.
use Rattle.std.specs.Prelude.{◌≡◌, ℕ, zero, suc, ◌+◌, ◌<◌, ◌≤◌, ◌==◌, ◌⊎◌, nat_lt, Bool, IsTrue, if◌then◌else◌, List, [], ◌∷◌, ◌++◌, length, take, Option, Some, None, codes}
use Rattle.ips_text.specs.declared.path.RelPath.{RelPath}
use Rattle.ips_text.specs.declared.limits.Which.TheVariants.{ManifestBytes}
use Rattle.ips_text.specs.Path.{IsPath}
use Rattle.ips_outside.specs.Image.{Image}
use Rattle.ips_outside.specs.Outside.{Outside}
use Rattle.ips_files.specs.Files.{file_at, HasSize}
use Rattle.ips_syntax.specs.declared.table.Why.{Why}
use Rattle.ips_syntax.specs.declared.table.Why.TheVariants.{Missing, Unknown, BadValue, Extra}
use Rattle.ips_mogrify.specs.declared.judging.Refusal.{Refusal}
use Rattle.ips_mogrify.specs.declared.judging.Refusal.TheVariants as refusal
use Rattle.ips_mogrify.specs.declared.status.MogrifyOutcome.{MogrifyOutcome}
use Rattle.ips_mogrify.specs.declared.status.MogrifyOutcome.TheVariants as outcome
use Rattle.ips_mogrify.specs.Whole.{Makes}
use Rattle.ips_mogrify.specs.Refused.{IsRefused}

-- the outcome of such a refusal
abbrev pub outcome_of : Refusal → MogrifyOutcome
outcome_of (refusal.BadRule line) = outcome.BadRule line
outcome_of (refusal.BadPattern line) = outcome.BadPattern line
outcome_of (refusal.BadManifest fault) = outcome.BadManifest fault
outcome_of (refusal.BadResult line) = outcome.BadResult line

-- ---- words

-- the words ask for the transformation of the manifest at one path by the rules at another, below a folder
pub record AsksToTransform (words : List (List ℕ)) (rules manifest : List ℕ) : Type 0 where
  pub folder : List ℕ
  pub form : words ≡ codes "mogrify" ∷ codes "-d" ∷ folder ∷ rules ∷ manifest ∷ []
  pub rules_path : IsPath rules
  pub manifest_path : IsPath manifest

-- The words ask for some transformation.
abbrev pub AskToTransform : List (List ℕ) → Type 0
AskToTransform words = (rules : List ℕ) × (manifest : List ℕ) × AsksToTransform words rules manifest

-- some such words begin with these
abbrev pub BeginsRequest : List (List ℕ) → Type 0
BeginsRequest words = (more : List (List ℕ)) × (rules : List ℕ) × (manifest : List ℕ) × AsksToTransform (words ++ more) rules manifest

-- what is wrong with the word at a place: the name and the option aren't known, a path isn't one, and behind them no word stands
abbrev pub why_at : ℕ → Why
why_at zero = Unknown
why_at (suc zero) = Unknown
why_at (suc (suc place)) = if nat_lt place 3 then BadValue else Extra

-- the words aren't of this form, and this is the first place at which no such words go on: a word is missing there, or that one is wrong
pub record IsWordFault (words : List (List ℕ)) (place : ℕ) (why : Why) : Type 0 where
  pub within : place ≤ length words
  pub begins : BeginsRequest (take place words)
  pub stops : place < length words → BeginsRequest (take (place + 1) words) → ⊥
  pub none : (rules manifest : List ℕ) → AsksToTransform words rules manifest → ⊥
  pub cause : why ≡ (if place == length words then Missing else why_at place)

-- ---- files

-- a source as far as it is known: whether it tells what it holds, and what that is
pub record SeenSource : Type 0 where
  pub tells : Bool
  pub held : Image

-- the source as a call finds it
abbrev pub source_seen : {S : Type 0} → Outside S → S → SeenSource
source_seen o s = record { tells = o.tells s; held = (o.state s).held }

-- the greatest number of bytes of a file
abbrev pub most_bytes : ℕ
most_bytes = 16777216

-- this is the file at the path, or there is none, as far as the source tells
abbrev pub IsFile : SeenSource → List ℕ → Option (List ℕ) → Type 0
IsFile s path file = IsTrue s.tells → file_at s.held path ≡ file

-- a file stands at the path
abbrev pub IsSomeFile : SeenSource → List ℕ → Type 0
IsSomeFile s path = (bytes : List ℕ) × IsFile s path (Some bytes)

-- a file of these bytes stands at the path, at most so many
abbrev pub IsFitFile : SeenSource → List ℕ → List ℕ → Type 0
IsFitFile s path bytes = IsFile s path (Some bytes) × (length bytes ≤ most_bytes)

-- the file at the path has so many bytes, which are more
abbrev pub IsLargeFile : SeenSource → List ℕ → ℕ → Type 0
IsLargeFile s path count = (IsTrue s.tells → HasSize (file_at s.held path) count) × (most_bytes < count)

-- the words ask for files of these bytes
abbrev pub AsksFor : List (List ℕ) → SeenSource → List ℕ → List ℕ → Type 0
AsksFor words s rules_text manifest_bytes = (rules : List ℕ) × (manifest : List ℕ) × AsksToTransform words rules manifest × IsFitFile s rules rules_text × IsFitFile s manifest manifest_bytes

-- ---- outcomes

-- What words come to over a source: each outcome but a fault of the source and want of memory, under its cause.
pub data ComesTo (words : List (List ℕ)) (s : SeenSource) : MogrifyOutcome → Type 0 where
  usage : (place : ℕ) (why : Why) → IsWordFault words place why → ComesTo words s (outcome.Usage place why)
  no_rules : (rules manifest : List ℕ) (path : RelPath) → AsksToTransform words rules manifest → path.bytes ≡ rules → IsFile s rules None → ComesTo words s (outcome.FileMissing path)
  no_manifest : (rules manifest : List ℕ) (path : RelPath) → AsksToTransform words rules manifest → IsSomeFile s rules → path.bytes ≡ manifest → IsFile s manifest None → ComesTo words s (outcome.FileMissing path)
  large_rules : (rules manifest : List ℕ) (count : ℕ) → AsksToTransform words rules manifest → IsSomeFile s manifest → IsLargeFile s rules count → ComesTo words s (outcome.TooLarge ManifestBytes count)
  large_manifest : (rules manifest rules_text : List ℕ) (count : ℕ) → AsksToTransform words rules manifest → IsFitFile s rules rules_text → IsLargeFile s manifest count → ComesTo words s (outcome.TooLarge ManifestBytes count)
  refused : (rules_text manifest_bytes : List ℕ) (why : Refusal) → AsksFor words s rules_text manifest_bytes → IsRefused rules_text manifest_bytes why → ComesTo words s (outcome_of why)
  written : (rules_text manifest_bytes text : List ℕ) → AsksFor words s rules_text manifest_bytes → Makes rules_text manifest_bytes text → ComesTo words s outcome.Written

-- the outcome is a fault of the source, or want of memory
abbrev pub IsHostFault : MogrifyOutcome → Type 0
IsHostFault o = (o ≡ outcome.SourceFault) ⊎ (o ≡ outcome.OutOfMemory)

-- the text is the canonical manifest that the words come to, and reads as it
abbrev pub IsManifestDue : List (List ℕ) → SeenSource → List ℕ → Type 0
IsManifestDue words s text = (rules_text : List ℕ) × (manifest_bytes : List ℕ) × AsksFor words s rules_text manifest_bytes × Makes rules_text manifest_bytes text
