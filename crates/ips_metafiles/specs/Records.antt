-- The records that tell of owners, drivers, legacy packages and licenses.
use Rattle.std.specs.Prelude.{◌≡◌, ◌↔◌, Contains, ℕ, ◌<◌, true, false, List, [], ◌∷◌, ◌++◌, length, map, slice_get, Option, Some, None, codes}
use Rattle.std.specs.List.{flat_map, join_with_byte}
use Rattle.std.specs.List.Sorted.{IsStrictlySortedBy}
use Rattle.std.specs.Ordering.{nat_cmp}
use Rattle.std.specs.Cmp.Lexicographic.{slice_cmp}
use Rattle.std.specs.Fmt.{decimal}
use Rattle.ips_text.specs.Quote.{quoted, shown, fits_name}
use Rattle.ips_text.specs.Path.{is_dots}
use Rattle.ips_action.specs.declared.kind.ActionKind.TheVariants.{Driver}
use Rattle.ips_action.specs.Attrs.{values_of}
use Rattle.ips_action.specs.Action.{Fields, line_text}
use Rattle.ips_metafiles.specs.declared.owner.OwnerRow.{OwnerRow}
use Rattle.ips_metafiles.specs.declared.legacy.InfoKey.{InfoKey}

-- a text of lines: each ends with a newline
abbrev pub lines_text : List (List ℕ) → List ℕ
lines_text lines = flat_map (λ line. line ++ 10 ∷ []) lines

-- ---- owners

-- the owner of a path: both numbers, both names, and the path as it is shown, divided by blanks
abbrev pub owner_line : OwnerRow → List ℕ
owner_line r = join_with_byte 32 (decimal r.uid ∷ decimal r.gid ∷ r.owner ∷ r.group ∷ shown r.path.bytes ∷ [])

-- the record of owners: a line for each row, in order
abbrev pub owners_text : List OwnerRow → List ℕ
owners_text rows = lines_text (map owner_line rows)

-- ---- drivers

-- The line is the canonical line of one of the actions that is a driver.
pub record IsDriverLine (actions : List Fields) (line : List ℕ) : Type 0 where
  pub action : Fields
  pub stands : Contains actions action
  pub driver : action.kind ≡ Driver
  pub line_is : line ≡ line_text action

-- The bytes are the record of drivers: the canonical lines of the driver actions, by bytes, each once.
pub record IsDrivers (actions : List Fields) (bytes : List ℕ) : Type 0 where
  pub lines : List (List ℕ)
  pub ascend : IsStrictlySortedBy (slice_cmp nat_cmp) lines
  pub each : (line : List ℕ) → Contains lines line ↔ IsDriverLine actions line
  pub written : bytes ≡ lines_text lines

-- ---- legacy packages

-- what a line of a legacy package's record tells: the front of the line, and the key of the attribute
abbrev pub key_seen : InfoKey → List ℕ × List ℕ
key_seen k = (k.front.now, k.key.now)

-- the lines of a legacy package's record, in order
abbrev pub info_keys : List (List ℕ × List ℕ)
info_keys = (codes "PKG=", codes "pkg") ∷ (codes "NAME=", codes "name") ∷ (codes "VERSION=", codes "version") ∷ (codes "ARCH=", codes "arch")
    ∷ (codes "CATEGORY=", codes "category") ∷ (codes "DESC=", codes "desc") ∷ (codes "HOTLINE=", codes "hotline") ∷ (codes "VENDOR=", codes "vendor") ∷ []

-- the line of an attribute's value; none where it has none
abbrev pub info_line : List ℕ → Option (List ℕ) → List ℕ
info_line front None = []
info_line front (Some value) = front ++ value ++ 10 ∷ []

-- the lines of these keys, each with the first value of its attribute
abbrev pub info_lines : Fields → List (List ℕ × List ℕ) → List ℕ
info_lines a keys = flat_map (λ (k : List ℕ × List ℕ). info_line k.0 (slice_get (values_of k.1 a.attrs) 0)) keys

-- the record of a legacy package
abbrev pub info_text : Fields → List ℕ
info_text a = info_lines a info_keys

-- ---- licenses

-- The quoted form can name a file: it has 1 to 255 bytes, and isn't `.` or `..`.
pub record IsQuotedName (name : List ℕ) : Type 0 where
  pub some : 0 < length (quoted name)
  pub short : fits_name name ≡ true
  pub no_dots : is_dots (quoted name) ≡ false

-- where the license of a stem is recorded
abbrev pub license_path : List ℕ → List ℕ → List ℕ
license_path stem name = codes "var/pkg/license/" ++ quoted stem ++ 47 ∷ quoted name
