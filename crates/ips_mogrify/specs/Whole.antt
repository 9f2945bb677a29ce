-- Two texts: rules that are read, and the manifest that they make of another.
use Rattle.std.specs.Prelude.{◌≡◌, ℕ, ◌⊎◌, List, [], ◌∷◌}
use Rattle.std.specs.List.{AllByRecursion}
use Rattle.ips_manifest.specs.declared.line.Line.{Line}
use Rattle.ips_manifest.specs.declared.fault.ManifestFault.{ManifestFault}
use Rattle.ips_manifest.specs.Logical.{lines_of}
use Rattle.ips_manifest.specs.Manifest.{IsManifestOf, IsFaultOf, manifest_text, renumbered}
use Rattle.ips_rule.specs.declared.line.RuleLine.{RuleLine}
use Rattle.ips_rule.specs.File.{AreRulesOf}
use Rattle.ips_rule.specs.File as file
use Rattle.ips_transform.specs.Transformed.{HasPatterns}
use Rattle.ips_transform.specs.Output.{rules_of, left_of, Become, IsFirstBadResult}

-- the rule of a line has a pattern that is none
abbrev pub IsBadRule : RuleLine → Type 0
IsBadRule line = HasPatterns line.rule → ⊥

-- the number is that of the first rule that has a pattern that is none
abbrev pub IsFirstBadPattern : List RuleLine → ℕ → Type 0
IsFirstBadPattern [] number = ⊥
IsFirstBadPattern (line ∷ others) number = ((number ≡ line.number) × IsBadRule line) ⊎ (HasPatterns line.rule × IsFirstBadPattern others number)

-- the texts are those of rules with patterns, and of a manifest
pub record AreBothRead (rules_text manifest_bytes : List ℕ) (rules : List RuleLine) (lines : List Line) : Type 0 where
  pub are_rules : AreRulesOf rules_text rules
  pub patterns : AllByRecursion HasPatterns (rules_of rules)
  pub is_manifest : IsManifestOf manifest_bytes lines

-- the manifest of these lines is what the rules of the first text make of the manifest of the second
abbrev pub IsTransformed : List ℕ → List ℕ → List Line → Type 0
IsTransformed rules_text manifest_bytes results =
    (rules : List RuleLine) × (lines : List Line) × AreBothRead rules_text manifest_bytes rules lines × Become (left_of rules lines) results

-- the text is the canonical one of that manifest, and reads as it
abbrev pub Makes : List ℕ → List ℕ → List ℕ → Type 0
Makes rules_text manifest_bytes text =
    (results : List Line) × IsTransformed rules_text manifest_bytes results × (text ≡ manifest_text results) × IsManifestOf text (renumbered 1 results)

-- the first text is no text of rules, and this is its first line that is none
abbrev pub HasBadRule : List ℕ → ℕ → Type 0
HasBadRule rules_text number = file.IsFirstBad (lines_of rules_text) number

-- the first text is one of rules, and this is the line of the first that has a pattern that is none
abbrev pub HasBadPattern : List ℕ → ℕ → Type 0
HasBadPattern rules_text number = (rules : List RuleLine) × AreRulesOf rules_text rules × IsFirstBadPattern rules number

-- the first text is one of rules with patterns, and the second is no manifest, of which this is the first fault
abbrev pub HasBadManifest : List ℕ → List ℕ → ManifestFault → Type 0
HasBadManifest rules_text manifest_bytes fault =
    (rules : List RuleLine) × AreRulesOf rules_text rules × AllByRecursion HasPatterns (rules_of rules) × IsFaultOf manifest_bytes fault

-- both texts are read, and this is the line of the first action that the rules make into none
abbrev pub HasBadResult : List ℕ → List ℕ → ℕ → Type 0
HasBadResult rules_text manifest_bytes number =
    (rules : List RuleLine) × (lines : List Line) × AreBothRead rules_text manifest_bytes rules lines × IsFirstBadResult (left_of rules lines) number
