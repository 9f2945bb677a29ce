-- Which rows an index holds, and the text of an index.
use Rattle.std.specs.Prelude.{◌≡◌, ◌⊎◌, ℕ, true, false, List, [], ◌∷◌, map, Some, Contains, codes}
use Rattle.std.specs.List.{join_with_byte}
use Rattle.std.specs.List.Sorted.{IsStrictlySortedBy}
use Rattle.std.specs.Str.{IsUtf8}
use Rattle.std.specs.declared.cmp.Ordering.TheVariants.{Less}
use Rattle.ips_fmri.specs.Name.{IsStem}
use Rattle.ips_action.specs.declared.kind.ActionKind.{ActionKind}
use Rattle.ips_action.specs.declared.kind.ActionKind.TheVariants.{Set}
use Rattle.ips_text.specs.Quote.{quoted}
use Rattle.ips_action.specs.Kind.{kind_name}
use Rattle.ips_action.specs.Action.{naming_key}
use Rattle.ips_action.specs.Judging.{takes_payload}
use Rattle.ips_text.specs.Cut.{has_byte}
use Rattle.ips_records.specs.Lines.{ended}
use Rattle.ips_index.specs.Rows.{IndexedValue, row_cmp, row_line, tokens, index_text}

-- Actions of the kind have rows in the index: it is that of the attribute that names them, at a `set` it may be `value`, and at what has a payload `payload`.
abbrev pub HasIndex : ActionKind → List ℕ → Type 0
HasIndex kind index = (naming_key kind ≡ Some index) ⊎ ((kind ≡ Set) × (index ≡ codes "value")) ⊎ ((takes_payload kind ≡ true) × (index ≡ codes "payload"))

-- A row that an index may hold: a text in an index of its kind, found by itself or, where it is a path, by its last part, of a stem.
pub record IsRow (row : IndexedValue) : Type 0 where
  pub index : HasIndex row.kind row.index
  pub value : IsUtf8 row.value
  pub token : IsUtf8 row.token
  pub found : Contains (tokens row.index row.value) row.token
  pub stem : IsStem false row.stem

-- The rows are those of an index: each is one that it may hold, and they ascend.
pub record AreIndexRows (rows : List IndexedValue) : Type 0 where
  pub each : (row : IndexedValue) → Contains rows row → IsRow row
  pub ascend : IsStrictlySortedBy row_cmp rows

-- The text is that of an index of these rows.
abbrev pub IsIndexText : List IndexedValue → List ℕ → Type 0
IsIndexText rows text = AreIndexRows rows × (text ≡ index_text rows)

-- The lines of an index: one that tells its form, and one for each row.
abbrev pub index_lines : List IndexedValue → List (List ℕ)
index_lines rows = codes "index 1" ∷ map row_line rows

-- The lines, each with its newline, are those of an index.
abbrev pub IsIndexFile : List (List ℕ) → Type 0
IsIndexFile lines = (rows : List IndexedValue) × AreIndexRows rows × (lines ≡ map ended (index_lines rows))

-- The first row stands before the second.
abbrev pub StandsBefore : IndexedValue → IndexedValue → Type 0
StandsBefore one other = row_cmp one other ≡ Less

-- ---- a line

-- The line has these five words, a blank between each and the next.
pub record AreWords (line token index kind value stem : List ℕ) : Type 0 where
  pub is : line ≡ join_with_byte 32 (token ∷ index ∷ kind ∷ value ∷ stem ∷ [])
  pub in_token : has_byte 32 token ≡ false
  pub in_index : has_byte 32 index ≡ false
  pub in_kind : has_byte 32 kind ≡ false
  pub in_value : has_byte 32 value ≡ false

-- The words are those of the row.
pub record Spell (first second third fourth fifth : List ℕ) (row : IndexedValue) : Type 0 where
  pub token : first ≡ quoted row.token
  pub index : second ≡ row.index
  pub kind : third ≡ kind_name row.kind
  pub value : fourth ≡ quoted row.value
  pub stem : fifth ≡ row.stem
