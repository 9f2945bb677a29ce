-- What is answered of drafts and their contents.
use Rattle.std.specs.Prelude.{◌≡◌, ℕ, ◌<◌, cond, IsTrue, List, [], ◌∷◌, length, Option, Some, None, IsSome}
use Rattle.std.specs.List.{AllByRecursion}
use Rattle.std.specs.Option.{option_map}
use Rattle.ips_text.specs.Kept.{Kept}
use Rattle.ips_text.specs.declared.limits.Which.{Which}
use Rattle.ips_text.specs.declared.refusal.Or.{Or}
use Rattle.ips_text.specs.declared.refusal.Or.TheVariants.{Bad, OutOfMemory}
use Rattle.ips_manifest.specs.declared.draft.Draft.{Draft}
use Rattle.ips_manifest.specs.Manifest.{StandsOnLine}
use Rattle.ips_outside.specs.Image.{Image}
use Rattle.ips_repo.specs.Payload.{payload_limit}
use Rattle.ips_repo.specs.declared.fault.RepoFault.{RepoFault}
use Rattle.ips_repo.specs.declared.fault.RepoFault.TheVariants as repo
use Rattle.ips_filling.specs.declared.filled.Filled.{Filled}
use Rattle.ips_filling.specs.declared.filled.ContentFault.{ContentFault}
use Rattle.ips_filling.specs.declared.filled.ContentFault.TheVariants.{Missing, TooLarge, SourceFault}
use Rattle.ips_sends.specs.Whole.{has_content}
use Rattle.ips_sends.specs.Published.{content_text, Fills}
use Rattle.ips_sends.specs.Judged.{HasSource, LacksContent, IsFirstMissing, IsOver, Fits, IsFirstOver}

-- where the content of a draft stands in the folder, of one that has a content
abbrev pub content_path : Draft → Option (List ℕ)
content_path d = cond (has_content d.line.action.kind) (Some (content_text d)) None

-- The line is that of the draft with its payload, and its content isn't too large.
pub record IsFilling (proto : Image) (d : Draft) (f : Filled) : Type 0 where
  pub number : f.line.number ≡ d.line.number
  pub fills : Fills proto d f.line.action
  pub fits : Fits proto d

-- The line can stand on a line of a text, its action is of the draft's kind and has a payload where it has a content, and the path is that of the draft's content.
pub record IsPlaced (d : Draft) (f : Filled) : Type 0 where
  pub stands : StandsOnLine f.line
  pub kind : f.line.action.kind ≡ d.line.action.kind
  pub named : IsTrue (has_content d.line.action.kind) → IsSome f.line.action.payload
  pub path : option_map (λ (p : Kept). p.bytes) f.path ≡ content_path d

-- this is so of each draft and what was made of it, one after the other
abbrev pub Pairwise : (Draft → Filled → Type 0) → List Draft → List Filled → Type 0
Pairwise R [] [] = Unit {0}
Pairwise R [] (f ∷ filled) = ⊥
Pairwise R (d ∷ drafts) [] = ⊥
Pairwise R (d ∷ drafts) (f ∷ filled) = R d f × Pairwise R drafts filled

-- why the content of one draft isn't found
abbrev pub IsLost : Image → Draft → ContentFault → Type 0
IsLost proto d (Missing text) = LacksContent proto d × (text ≡ content_text d)
IsLost proto d (TooLarge count) = ⊥
IsLost proto d SourceFault = Unit {0}

-- why the contents of drafts aren't all found: the first that is missing
abbrev pub AreLost : Image → List Draft → ContentFault → Type 0
AreLost proto drafts (Missing text) = IsFirstMissing proto drafts text
AreLost proto drafts (TooLarge count) = ⊥
AreLost proto drafts SourceFault = Unit {0}

-- why one draft isn't filled: its content is missing, or too large
abbrev pub IsUnfilled : Image → Draft → ContentFault → Type 0
IsUnfilled proto d (Missing text) = LacksContent proto d
IsUnfilled proto d (TooLarge count) = IsOver proto d count
IsUnfilled proto d SourceFault = Unit {0}

-- why drafts aren't all filled: a content is missing, or this is the first that is too large
abbrev pub AreUnfilled : Image → List Draft → ContentFault → Type 0
AreUnfilled proto drafts (Missing text) = AllByRecursion (HasSource proto) drafts → ⊥
AreUnfilled proto drafts (TooLarge count) = IsFirstOver proto drafts count
AreUnfilled proto drafts SourceFault = Unit {0}

-- why this file isn't read: there is none, or it has too many bytes
abbrev pub IsUnread : Option (List ℕ) → ContentFault → Type 0
IsUnread file (Missing text) = file ≡ None
IsUnread file (TooLarge count) = (bytes : List ℕ) × (file ≡ Some bytes) × (count ≡ length bytes) × (payload_limit < count)
IsUnread file SourceFault = Unit {0}

-- what is answered where a file isn't opened
abbrev pub AnswersOpening : RepoFault → Or ContentFault → Type 0
AnswersOpening why (Bad (Missing text)) = why ≡ repo.PayloadMissing
AnswersOpening why (Bad (TooLarge count)) = (which : Which) × (why ≡ repo.TooLarge which count)
AnswersOpening why (Bad SourceFault) = why ≡ repo.SourceFault
AnswersOpening why OutOfMemory = Unit {0}

-- it is answered that a content is missing, unless memory ran out
abbrev pub SaysMissing : Or ContentFault → Type 0
SaysMissing (Bad (Missing text)) = Unit {0}
SaysMissing (Bad (TooLarge count)) = ⊥
SaysMissing (Bad SourceFault) = ⊥
SaysMissing OutOfMemory = Unit {0}
