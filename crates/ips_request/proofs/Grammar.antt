-- Manifests can be read: a text is the manifest that its grammar finds, where it finds one.
use Rattle.std.proofs.Common.{inl, inr, Option, Some, None, MatchOption}
use Rattle.ips_manifest.specs.Logical.{lines_of}
use Rattle.ips_manifest.specs.Manifest.{IsManifestOf}
use Rattle.ips_filter.specs.Settings.{Set}
use Rattle.ips_depend.specs.Asking.{LinesAsk}
use Rattle.ips_grammar.proofs.Decided.{Decided}
use Rattle.ips_grammar.proofs.Texts.{lines_mean}
use Rattle.ips_grammar.proofs.Asked.{lines_ask}
use Rattle.ips_request.specs.Case.{ManifestReading, IsReading}

-- what is found, where there is something to be found
abbrev answer : {X : Type 0} (P : X → Type 0) → Decided ((x : X) × P x) → Option X
answer P (inl found) = Some found.0
answer P (inr none) = None

answers : {X : Type 0} (P : X → Type 0) (d : Decided ((x : X) × P x)) → MatchOption (answer P d) ((x : X) → P x → ⊥) P
answers P (inl found) = found.1
answers P (inr none) = λ x p. none (x, p)

pub some_reading : (settings : Set) → (r : ManifestReading) × IsReading settings r
some_reading settings = (
  record { lines = λ bytes. answer (IsManifestOf bytes) (lines_mean (lines_of bytes)); dependencies = λ lines. answer (LinesAsk settings lines) (lines_ask settings lines) },
  record { lines = λ bytes. answers (IsManifestOf bytes) (lines_mean (lines_of bytes)); dependencies = λ lines. answers (LinesAsk settings lines) (lines_ask settings lines) },
)
