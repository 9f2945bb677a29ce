-- How many packages a request changes.
use Rattle.std.specs.Prelude.{ℕ, Bool, true, false, cond, List, [], ◌∷◌, filter, length, Option, Some, None, is_none}
use Rattle.std.specs.declared.cmp.Ordering.{Ordering}
use Rattle.std.specs.declared.cmp.Ordering.TheVariants.{Less, Equal, Greater}
use Rattle.ips_text.specs.Ancestry.{same_path}
use Rattle.ips_fmri.specs.Version.{Parts}
use Rattle.ips_fmri.specs.Order.{version_cmp}
use Rattle.ips_manifest.specs.declared.package.Package.{Package}

-- The version of the package of this stem, where there is one.
abbrev pub version_at : List Package → List ℕ → Option Parts
version_at [] stem = None
version_at (p ∷ packages) stem = cond (same_path p.stem stem) (Some p.version) (version_at packages stem)

-- Two versions of this order aren't the same.
abbrev pub differs : Ordering → Bool
differs Less = true
differs Equal = false
differs Greater = true

-- None of the packages has the stem of this one.
abbrev pub is_absent : List Package → Package → Bool
is_absent packages p = is_none (version_at packages p.stem)

-- This version stands, and is another.
abbrev pub is_other : Option Parts → Parts → Bool
is_other (Some v) w = differs (version_cmp v w)
is_other None w = false

-- One of the old packages has the stem of this one, and another version.
abbrev pub is_updated : List Package → Package → Bool
is_updated old p = is_other (version_at old p.stem) p.version

-- How many of the other packages have stems that none of these has.
abbrev pub absent_among : List Package → List Package → ℕ
absent_among packages others = length (filter (is_absent packages) others)

-- How many of the new packages were installed at another version.
abbrev pub updated_from : List Package → List Package → ℕ
updated_from old new = length (filter (is_updated old) new)
