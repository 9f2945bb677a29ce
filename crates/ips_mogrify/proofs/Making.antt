-- The text that is made of two others.
use Rattle.std.proofs.Common.{◌≡◌, ℕ, List, subst, sym}
use Rattle.std.specs.List.{AllByRecursion}
use Rattle.ips_manifest.specs.declared.line.Line.{Line}
use Rattle.ips_manifest.specs.Logical.{lines_of}
use Rattle.ips_manifest.specs.Manifest.{IsManifestOf, StandsOnLine, manifest_text, renumbered}
use Rattle.ips_rule.specs.declared.line.RuleLine.{RuleLine}
use Rattle.ips_rule.specs.File.{AreRulesOf}
use Rattle.ips_transform.specs.Transformed.{ActionParts}
use Rattle.ips_transform.specs.Output.{rules_of, left_of, Become, AreSoundParts}
use Rattle.ips_transform.proofs.Kept.{all_sound}
use Rattle.ips_transform.proofs.Yielded.{all_stand}
use Rattle.ips_mogrify.specs.Whole.{AreBothRead, Makes}
use Rattle.ips_mogrify.proofs.Fitting.{rules_fit, actions_fit}

-- a manifest's canonical text reads as it
abbrev pub Back : Type 0
Back = (lines : List Line) → AllByRecursion StandsOnLine lines → IsManifestOf (manifest_text lines) (renumbered 1 lines)

pub makes : Back → (text bytes made : List ℕ) (rules : List RuleLine) (lines results : List Line) (left : List ActionParts) → AreBothRead text bytes rules lines → left ≡ left_of rules lines → Become left results → made ≡ manifest_text results → Makes text bytes made
makes back text bytes made rules lines results left read same become is = (
  results,
  (rules, lines, read, subst (λ (l : List ActionParts). Become l results) same become),
  is,
  subst (λ (t : List ℕ). IsManifestOf t (renumbered 1 results)) (sym is) (back results (all_stand left results become)),
)

-- what the rules leave has keys in their form
pub left_sound : (text bytes : List ℕ) (rules : List RuleLine) (lines : List Line) (left : List ActionParts) → AreRulesOf text rules → AllByRecursion StandsOnLine lines → left ≡ left_of rules lines → AllByRecursion AreSoundParts left
left_sound text bytes rules lines left are stand same =
    subst (AllByRecursion AreSoundParts) (sym same) (all_sound (rules_of rules) lines (rules_fit (lines_of text) rules are) (actions_fit lines stand))
