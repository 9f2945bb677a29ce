-- Why two texts are refused: of rules, and of a manifest.
use Rattle.std.specs.Prelude.{ℕ, List}
use Rattle.ips_manifest.specs.Manifest.{IsFaultOf}
use Rattle.ips_mogrify.specs.declared.judging.Refusal.{Refusal}
use Rattle.ips_mogrify.specs.declared.judging.Refusal.TheVariants.{BadRule, BadPattern, BadManifest, BadResult}
use Rattle.ips_transform.specs.Transformed.{ActionParts}
use Rattle.ips_transform.specs.Output.{IsFirstBadResult}
use Rattle.ips_mogrify.specs.Whole.{HasBadRule, HasBadPattern, HasBadManifest, HasBadResult}

-- the cause of a refusal that two texts have
abbrev pub IsRefused : List ℕ → List ℕ → Refusal → Type 0
IsRefused rules_text manifest_bytes (BadRule line) = HasBadRule rules_text line
IsRefused rules_text manifest_bytes (BadPattern line) = HasBadPattern rules_text line
IsRefused rules_text manifest_bytes (BadManifest fault) = HasBadManifest rules_text manifest_bytes fault
IsRefused rules_text manifest_bytes (BadResult line) = HasBadResult rules_text manifest_bytes line

-- the cause of a refusal that a text of rules has
abbrev pub IsBadText : List ℕ → Refusal → Type 0
IsBadText text (BadRule line) = HasBadRule text line
IsBadText text (BadPattern line) = HasBadPattern text line
IsBadText text (BadManifest fault) = ⊥
IsBadText text (BadResult line) = ⊥

-- the cause of a refusal that a manifest has
abbrev pub IsBadManifest : List ℕ → Refusal → Type 0
IsBadManifest bytes (BadRule line) = ⊥
IsBadManifest bytes (BadPattern line) = ⊥
IsBadManifest bytes (BadManifest fault) = IsFaultOf bytes fault
IsBadManifest bytes (BadResult line) = ⊥

-- the cause of a refusal that transformed parts have
abbrev pub AreBadParts : List ActionParts → Refusal → Type 0
AreBadParts parts (BadRule line) = ⊥
AreBadParts parts (BadPattern line) = ⊥
AreBadParts parts (BadManifest fault) = ⊥
AreBadParts parts (BadResult line) = IsFirstBadResult parts line
