-- Publishers, stems and what they are made of. With wild, the wildcards `*` and `?` may stand wherever a letter may.
use Rattle.std.specs.Prelude.{◌≡◌, ℕ, Bool, true, false, ◌&&◌, ◌||◌, ◌==◌, List, [], ◌∷◌}
use Rattle.std.specs.List.{list_all}
use Rattle.std.specs.Char.{is_ascii_alphanumeric}
use Rattle.ips_text.specs.Reading.{OneOrMore}
use Rattle.ips_text.specs.Path.{parts}
use Rattle.ips_text.specs.Quote.{fits_name}

-- the byte is `*` or `?`
abbrev pub is_wildcard : ℕ → Bool
is_wildcard b = (b == 42) || (b == 63)

-- a component may begin with the byte: an ASCII letter or digit
abbrev pub may_begin : Bool → ℕ → Bool
may_begin wild b = is_ascii_alphanumeric b || (wild && is_wildcard b)

-- a component may go on with the byte: also with `_`, `-`, `.` and `+`
abbrev pub may_go_on : Bool → ℕ → Bool
may_go_on wild b = may_begin wild b || (b == 95) || (b == 45) || (b == 46) || (b == 43)

-- the bytes are a component
abbrev pub IsComponent : Bool → List ℕ → Type 0
IsComponent wild [] = ⊥
IsComponent wild (b ∷ bytes) = (may_begin wild b ≡ true) × (list_all (may_go_on wild) bytes ≡ true)

-- the bytes are components joined by `/`, however long
abbrev pub HasStemForm : Bool → List ℕ → Type 0
HasStemForm wild stem = OneOrMore (IsComponent wild) (parts stem)

-- the bytes are a stem: of that form, and short enough that the quoted text can name a file
pub record IsStem (wild : Bool) (stem : List ℕ) : Type 0 where
  pub form : HasStemForm wild stem
  pub short : fits_name stem ≡ true

-- the bytes are a publisher: one component without wildcards, short enough that the quoted text can name a file
pub record IsPublisher (publisher : List ℕ) : Type 0 where
  pub form : IsComponent false publisher
  pub short : fits_name publisher ≡ true
