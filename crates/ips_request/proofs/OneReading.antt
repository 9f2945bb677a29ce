-- Manifests are read in one way.
use Rattle.std.proofs.Common.{◌≡◌, Bool, true, false, List, [], ◌∷◌, ◌++◌, Option, Some, None, refl, sym, ap, ◌∙◌}
use Rattle.std.specs.Prelude.{MatchOption}
use Rattle.ips_action.specs.Action.{Fields}
use Rattle.ips_action.proofs.Told.{one_meaning}
use Rattle.ips_manifest.specs.declared.line.Line.{Line}
use Rattle.ips_manifest.specs.Logical.{Logical, lines_of, is_skipped}
use Rattle.ips_manifest.specs.Manifest.{IsManifestOf, LinesMean, TextMeans}
use Rattle.ips_filter.specs.Settings.{Set}
use Rattle.ips_depend.specs.Asking.{LinesAsk}
use Rattle.ips_depend.proofs.Lines.{lines_once}
use Rattle.ips_request.specs.Case.{ManifestReading, IsReading}

-- a logical line gives one list of lines
text_once : (skipped : Bool) (line : Logical) (a b : List Line) → TextMeans skipped line a → TextMeans skipped line b → a ≡ b
text_once true line a b h g = h ∙ sym g
text_once false line a b h g =
    let alone : Fields → List Line = λ x. record { number = line.number; action = x } ∷ [] in
    h.2 ∙ ap alone (one_meaning line.text h.0 g.0 h.1 g.1) ∙ sym g.2

-- and so do all of a text
manifest_once : (logical : List Logical) (a b : List Line) → LinesMean logical a → LinesMean logical b → a ≡ b
manifest_once [] a b h g = h ∙ sym g
manifest_once (line ∷ others) a b h g =
    let first = text_once (is_skipped line.text) line h.0 g.0 h.2.1 g.2.1 in
    let rest = manifest_once others h.1 g.1 h.3 g.3 in
    h.4 ∙ (λ i. first i ++ rest i) ∙ sym g.4

-- what is told just where it holds is one
told_once : {T : Type 0} (P : T → Type 0) (a b : Option T) → ((x y : T) → P x → P y → x ≡ y) → MatchOption a ((x : T) → P x → ⊥) P → MatchOption b ((x : T) → P x → ⊥) P → a ≡ b
told_once P None None one h g = refl
told_once P None (Some y) one h g = absurd (h y g)
told_once P (Some x) None one h g = absurd (g x h)
told_once P (Some x) (Some y) one h g = ap (λ z. Some z) (one x y h g)

-- there is one way to read manifests by their grammar, and their dependencies as the settings take them
pub one_reading : (settings : Set) (a b : ManifestReading) → IsReading settings a → IsReading settings b → a ≡ b
one_reading settings a b h g = λ i. record {
  lines = λ bytes. told_once (IsManifestOf bytes) (a.lines bytes) (b.lines bytes) (manifest_once (lines_of bytes)) (h.lines bytes) (g.lines bytes) i;
  dependencies = λ lines. told_once (LinesAsk settings lines) (a.dependencies lines) (b.dependencies lines) (lines_once settings lines) (h.dependencies lines) (g.dependencies lines) i;
}
