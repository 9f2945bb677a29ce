-- The next logical line of what is still to be read.
use Rattle.std.specs.Prelude.{◌≡◌, ℕ, ◌+◌, ◌<◌, ◌≤◌, List, ◌∷◌, length, Some, None}
use Rattle.ips_manifest.specs.declared.fault.LineFault.TheVariants.{NotText}
use Rattle.ips_manifest.specs.declared.fault.ManifestFault.{ManifestFault}
use Rattle.ips_manifest.specs.Logical.{Logical, physical_lines, logical_lines}

-- what begins at this number has a logical line of UTF-8 first, and behind it what begins at the second number
pub record IsNext (number : ℕ) (bytes text : List ℕ) (later : ℕ) (behind : List ℕ) : Type 0 where
  pub lines : logical_lines number (physical_lines bytes) ≡ record { number = number; text = text; unreadable = None } ∷ logical_lines later (physical_lines behind)
  pub shorter : length behind < length bytes
  pub room : later + length behind ≤ number + length bytes

-- what begins at this number has a logical line first that isn't UTF-8, at the physical line of the fault
pub record IsUnreadable (number : ℕ) (bytes : List ℕ) (f : ManifestFault) : Type 0 where
  pub line : Logical
  pub others : List Logical
  pub lines : logical_lines number (physical_lines bytes) ≡ line ∷ others
  pub fault : f.fault ≡ NotText
  pub at : line.unreadable ≡ Some f.line
