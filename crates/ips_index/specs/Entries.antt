-- Rows as they are kept: in one text, with the places of their parts, and the index told by the field.
use Rattle.std.specs.Prelude.{◌≡◌, ◌≢◌, ◌≤◌, Contains, ℕ, List, [], codes, take, drop, slice_range}
use Rattle.std.specs.Option.{unwrap_or, option_map_or}
use Rattle.std.specs.declared.vec.Vec.{Vec}
use Rattle.std.specs.declared.alloc.Global.{Global}
use Rattle.std.specs.declared.string.String.{String}
use Rattle.std.specs.BTreeMap.{BTreeMap, get_by_text}
use Rattle.std.specs.BTreeSet.{BTreeSet}
use Rattle.std.specs.List.{AllByRecursion}
use Rattle.std.specs.Str.{chars, IsUtf8, IsCharBoundary}
use Rattle.ips_fmri.specs.Matching.{HasNone}
use Rattle.ips_action.specs.declared.kind.ActionKind.{ActionKind}
use Rattle.ips_action.specs.Action.{naming_key}
use Rattle.ips_index.specs.declared.entry.Field.{Field}
use Rattle.ips_index.specs.declared.entry.Field.TheVariants.{Start, Key, Value, Payload}
use Rattle.ips_index.specs.Rows.{IndexedValue}
use Rattle.ips_index.specs.Text.{IsRow, AreIndexRows}

-- the name of the index of a field
abbrev pub index_name : ActionKind → Field → List ℕ
index_name kind Start = []
index_name kind Key = unwrap_or (naming_key kind) []
index_name kind Value = codes "value"
index_name kind Payload = codes "payload"

-- the row of a value in the index of a field
abbrev pub row_of : ActionKind → Field → List ℕ → List ℕ → List ℕ → IndexedValue
row_of kind field token value stem = record { token = token; index = index_name kind field; kind = kind; value = value; stem = stem }

-- the row of what is kept: its text has the value and then the stem, and the token is the end of the value; both begin at these places
abbrev pub row_at : ActionKind → Field → ℕ → ℕ → List ℕ → IndexedValue
row_at kind field token stem text = row_of kind field (slice_range text token stem) (take stem text) (drop stem text)

-- The token and the stem of a row may begin at these places of its text: the stem not before the token, and both at a character.
pub record ArePlaces (token stem : ℕ) (text : List ℕ) : Type 0 where
  pub ordered : token ≤ stem
  pub token_cut : IsCharBoundary text token
  pub stem_cut : IsCharBoundary text stem

-- Each of the rows is one that an index may hold.
abbrev pub AreFit : List IndexedValue → Type 0
AreFit rows = AllByRecursion IsRow rows

-- Each row is found by a text, in an index.
abbrev pub AreNamed : List IndexedValue → Type 0
AreNamed rows = (row : IndexedValue) → Contains rows row → (row.index ≢ []) × IsUtf8 row.token

-- Neither `*` nor `?` stands in the text.
abbrev pub IsPlain : List ℕ → Type 0
IsPlain text = HasNone 42 (chars text) × HasNone 63 (chars text)

-- Rows by their stems.
abbrev pub Stems : Type 0
Stems = BTreeMap (String Global) (Vec IndexedValue Global)

-- the rows of a stem
abbrev pub listed_at : Stems → List ℕ → List IndexedValue
listed_at stems stem = option_map_or (λ rows. rows.items) (get_by_text stems stem) []

-- The rows are those of an index, each is listed at its stem, and each listed row is of its stem.
pub record IsKept (rows : BTreeSet IndexedValue) (stems : Stems) : Type 0 where
  pub listed : (row : IndexedValue) → Contains rows.keys row → Contains (listed_at stems row.stem) row
  pub own : (stem : List ℕ) (row : IndexedValue) → Contains (listed_at stems stem) row → row.stem ≡ stem
  pub lawful : AreIndexRows rows.keys

-- The rows are all of the stem, and each is one that an index may hold.
pub record AreOf (stem : List ℕ) (rows : List IndexedValue) : Type 0 where
  pub of_stem : (row : IndexedValue) → Contains rows row → row.stem ≡ stem
  pub each : (row : IndexedValue) → Contains rows row → IsRow row
