-- What the values of attributes must be.
use Rattle.std.specs.Prelude.{◌≡◌, ℕ, ◌<◌, ◌≤◌, ◌^◌, Bool, true, false, ◌==◌, ◌||◌, ◌⊎◌, List, [], ◌∷◌, length, codes}
use Rattle.std.specs.List.{list_any}
use Rattle.std.specs.Fmt.{decimal}
use Rattle.ips_text.specs.Path.{IsPath, parts, is_dots}
use Rattle.ips_text.specs.Mode.{IsOctal}
use Rattle.ips_text.specs.Quote.{fits_name}
use Rattle.ips_fmri.specs.Version.{AreNumbers, numerals}
use Rattle.ips_digest.specs.Name.{AreNameDigits}
use Rattle.ips_action.specs.declared.check.Check.{Check}
use Rattle.ips_action.specs.declared.check.Check.TheVariants.{Anything, Path, Mode, Payload, Preserve, Overlay, LinkTarget, HardlinkTarget, Numbers, Priority, Account, Id, Field, FileName, Flag, FacetTag}
use Rattle.ips_action.specs.Target.{LeadsTo}

-- the value is one of these words
abbrev pub IsOneOf : List (List ℕ) → List ℕ → Type 0
IsOneOf [] value = ⊥
IsOneOf (word ∷ words) value = (value ≡ word) ⊎ IsOneOf words value

-- the last of the parts of a path
abbrev pub last_of : List (List ℕ) → List ℕ
last_of [] = []
last_of (part ∷ []) = part
last_of (part ∷ next ∷ parts) = last_of (next ∷ parts)

-- a path that an action may name: within the limits, which leave room for names beside it
pub record IsActionPath (path : List ℕ) : Type 0 where
  pub proper : IsPath path
  pub short : length path ≤ 960
  pub last : length (last_of (parts path)) ≤ 240

-- the target of a symbolic link: 1 to 4,095 bytes without NUL
pub record IsLinkTarget (target : List ℕ) : Type 0 where
  pub some : 0 < length target
  pub short : length target ≤ 4095
  pub text : list_any (λ b. b == 0) target ≡ false

-- the target of a hardlink at this path: it leads to a path inside the image
abbrev pub LeadsInside : List ℕ → List ℕ → Type 0
LeadsInside path target = (found : List ℕ) × LeadsTo path target found

-- a number of a version, in decimal digits
abbrev pub IsNumber : List ℕ → Type 0
IsNumber value = (n : ℕ) × (n < 2 ^ 64) × (value ≡ decimal n)

-- numbers joined by dots, as in a version's release
abbrev pub IsNumerals : List ℕ → Type 0
IsNumerals value = (numbers : List ℕ) × AreNumbers numbers × (value ≡ numerals numbers)

-- a number below 2 ^ 32 in decimal digits
abbrev pub IsId : List ℕ → Type 0
IsId value = (n : ℕ) × (n < 2 ^ 32) × (value ≡ decimal n)

-- the first byte is `#`, `+` or `-`
abbrev pub begins_with_mark : List ℕ → Bool
begins_with_mark [] = false
begins_with_mark (b ∷ bytes) = (b == 35) || (b == 43) || (b == 45)

-- a field of an account file: it has no `:`
abbrev pub IsField : List ℕ → Type 0
IsField value = list_any (λ b. b == 58) value ≡ false

-- the name of a user or of a group of users
pub record IsAccount (name : List ℕ) : Type 0 where
  pub some : 0 < length name
  pub field : IsField name
  pub single : list_any (λ b. b == 44) name ≡ false
  pub unmarked : begins_with_mark name ≡ false

-- a name whose quoted form a file can have
pub record IsFileName (name : List ℕ) : Type 0 where
  pub some : 0 < length name
  pub short : fits_name name ≡ true
  pub proper : is_dots name ≡ false

-- the words for how a changed file is kept
abbrev pub preserve_words : List (List ℕ)
preserve_words = codes "true" ∷ codes "renameold" ∷ codes "renamenew" ∷ codes "legacy" ∷ codes "abandon" ∷ codes "install-only" ∷ []

-- the value is what the check asks for, in an action at this path
abbrev pub Meets : Check → List ℕ → List ℕ → Type 0
Meets Anything path value = Unit {0}
Meets Path path value = IsActionPath value
Meets Mode path value = IsOctal value
Meets Payload path value = AreNameDigits value
Meets Preserve path value = IsOneOf preserve_words value
Meets Overlay path value = IsOneOf (codes "allow" ∷ codes "true" ∷ []) value
Meets LinkTarget path value = IsLinkTarget value
Meets HardlinkTarget path value = LeadsInside path value
Meets Numbers path value = IsNumerals value
Meets Priority path value = IsOneOf (codes "vendor" ∷ codes "site" ∷ []) value
Meets Account path value = IsAccount value
Meets Id path value = IsId value
Meets Field path value = IsField value
Meets FileName path value = IsFileName value
Meets Flag path value = IsOneOf (codes "true" ∷ codes "false" ∷ []) value
Meets FacetTag path value = IsOneOf (codes "true" ∷ codes "all" ∷ []) value
