-- The one installed package that a pattern names.
use Rattle.std.specs.Prelude.{◌≡◌, ℕ, ◌<◌, List, [], ◌∷◌, map, length, Some}
use Rattle.ips_fmri.specs.Pattern.{pattern_text}
use Rattle.ips_fmri.specs.declared.pattern.Pattern.{Pattern}
use Rattle.ips_manifest.specs.declared.package.Package.{Package}
use Rattle.ips_request.specs.Named.{named_among}
use Rattle.ips_shown.specs.declared.naming.NamingFault.{NamingFault}
use Rattle.ips_shown.specs.declared.naming.NamingFault.TheVariants as fault

-- The stems of packages.
abbrev pub stems_of : List Package → List (List ℕ)
stems_of packages = map (λ (p : Package). p.stem) packages

-- The pattern matches nothing, or several stems of which it doesn't name one alone.
abbrev pub IsUnnamed : Pattern → List (List ℕ) → NamingFault → Type 0
IsUnnamed p matched (fault.NoMatch pattern) = (matched ≡ []) × (pattern ≡ pattern_text p)
IsUnnamed p matched (fault.Ambiguous pattern stems) = (1 < length matched) × ((stem : List ℕ) → named_among p matched ≡ Some (stem ∷ []) → ⊥) × (pattern ≡ pattern_text p) × (stems.items ≡ matched)
