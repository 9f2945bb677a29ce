-- Drafts of manifests: the contents of files and licenses aren't known yet.
use Rattle.std.specs.Prelude.{ℕ, List, Option, IsSome}
use Rattle.ips_digest.specs.declared.name.PayloadName.{PayloadName}
use Rattle.ips_digest.specs.Name.{IsName}
use Rattle.ips_action.specs.Action.{Fields}
use Rattle.ips_action.specs.Draft.{MeansDraft, IsFirstDraftFault, with_payload}
use Rattle.ips_manifest.specs.declared.draft.Draft.{Draft}
use Rattle.ips_manifest.specs.declared.fault.LineFault.{LineFault}
use Rattle.ips_manifest.specs.declared.fault.ManifestFault.{ManifestFault}
use Rattle.ips_manifest.specs.Logical.{lines_of}
use Rattle.ips_manifest.specs.Text.{LinesMeanBy, IsActionFaultBy, IsFirstInBy}
use Rattle.ips_manifest.specs.Manifest.{line_at, StandsOnLine}

-- an action, and the word that stands for its content
abbrev pub Drafted : Type 0
Drafted = Fields × Option (List ℕ)

-- the line means the action with 40 zeros for its content, and the word stands there
abbrev pub MeansDrafted : List ℕ → Drafted → Type 0
MeansDrafted text d = MeansDraft text d.0 d.1

-- an action, the word that stands for its content, and the number of their line, as a line of a draft
abbrev pub draft_at : ℕ → Drafted → Draft
draft_at number d = record { line = line_at number d.0; word = d.1 }

-- the text is that of a draft of these lines
abbrev pub IsDraftOf : List ℕ → List Draft → Type 0
IsDraftOf bytes drafts = LinesMeanBy MeansDrafted draft_at (lines_of bytes) drafts

-- the text is no line of a draft, and this is its first fault
abbrev pub IsDraftedFault : List ℕ → LineFault → Type 0
IsDraftedFault text f = IsActionFaultBy MeansDrafted IsFirstDraftFault text f

-- the text is no draft, and this is its first fault
abbrev pub IsDraftFaultOf : List ℕ → ManifestFault → Type 0
IsDraftFaultOf bytes f = IsFirstInBy MeansDrafted draft_at IsFirstDraftFault (lines_of bytes) f

-- the action of the draft can stand on a physical line, with 40 zeros and with any content
pub record CanBeFilled (d : Draft) : Type 0 where
  pub stands : StandsOnLine d.line
  pub filled : (payload : PayloadName) → IsName payload → IsSome d.line.action.payload → StandsOnLine (line_at d.line.number (with_payload payload d.line.action))
