-- Actions, and the canonical line of each.
use Rattle.std.specs.Prelude.{◌≡◌, ℕ, true, if◌then◌else◌, List, [], ◌∷◌, map, Option, Some, None, codes}
use Rattle.std.specs.List.{AllByRecursion, flat_map}
use Rattle.std.specs.Option.{option_map}
use Rattle.ips_line.specs.declared.words.Pair.{Pair}
use Rattle.ips_line.specs.Line.{in_key, IsRunOfBytes}
use Rattle.ips_line.specs.Canonical.{words_text, pair_text}
use Rattle.ips_digest.specs.declared.name.PayloadName.{PayloadName}
use Rattle.ips_digest.specs.Name.{IsName, spelling}
use Rattle.ips_action.specs.declared.kind.ActionKind.{ActionKind}
use Rattle.ips_action.specs.Attrs.{Attr}
use Rattle.ips_action.specs.declared.action.Preserve.{Preserve}
use Rattle.ips_action.specs.declared.action.Preserve.TheVariants as preserve
use Rattle.ips_action.specs.Kind.{kind_name}
use Rattle.ips_action.specs.Table.{AttributeRow, table}
use Rattle.ips_action.specs.Attrs.{AreAttrs}
use Rattle.ips_action.specs.Judging.{KeepsRow, rows_of, takes_payload, is_payload}

-- what an action consists of
pub record Fields : Type 0 where
  pub kind : ActionKind
  pub payload : Option PayloadName
  pub attrs : List Attr

-- the digits of a payload's name, where there is one
abbrev pub payload_word : Option PayloadName → Option (List ℕ)
payload_word payload = option_map spelling payload

-- the name is that of a payload, where there is one
abbrev pub IfName : Option PayloadName → Type 0
IfName None = Unit {0}
IfName (Some name) = IsName name

-- the kind has a payload, where there is one
abbrev pub IfTaken : {A : Type 0} → ActionKind → Option A → Type 0
IfTaken kind None = Unit {0}
IfTaken kind (Some payload) = takes_payload kind ≡ true

-- the action is one of the table: its attributes stand by their keys, and all rows are kept
pub record IsAction (a : Fields) : Type 0 where
  pub ordered : AreAttrs a.attrs
  pub keys : AllByRecursion (λ (attr : Attr). IsRunOfBytes in_key attr.key) a.attrs
  pub named : IfName a.payload
  pub taken : IfTaken a.kind a.payload
  pub rows : AllByRecursion (KeepsRow (payload_word a.payload) a.attrs) (rows_of a.kind a.attrs)

-- the key of the attribute that names an action by these rows: that of the first row, where it is about no payload
abbrev pub first_key : List AttributeRow → Option (List ℕ)
first_key [] = None
first_key (row ∷ rows) = if is_payload row.check then None else Some row.name

-- the key of the attribute that names an action of this kind
abbrev pub naming_key : ActionKind → Option (List ℕ)
naming_key kind = first_key (table kind)

-- the values of `preserve` in a file that is kept so
abbrev pub preserve_values : Preserve → List (List ℕ)
preserve_values preserve.None = []
preserve_values preserve.True = codes "true" ∷ []
preserve_values preserve.RenameOld = codes "renameold" ∷ []
preserve_values preserve.RenameNew = codes "renamenew" ∷ []
preserve_values preserve.Legacy = codes "legacy" ∷ []
preserve_values preserve.Abandon = codes "abandon" ∷ []
preserve_values preserve.InstallOnly = codes "install-only" ∷ []

-- a `key=value` for each value of an attribute
abbrev pub pairs_of_one : Attr → List Pair
pairs_of_one attr = map (λ value. record { key = attr.key; value = value }) attr.values

-- a `key=value` for each value of each attribute
abbrev pub pairs_of : List Attr → List Pair
pairs_of attrs = flat_map pairs_of_one attrs

-- the bytes of the `key=value` of an attribute in a canonical line
abbrev pub attr_text : Attr → List ℕ
attr_text attr = flat_map pair_text (pairs_of_one attr)

-- the canonical line of an action: its name, its payload, and its attributes by the bytes of their keys
abbrev pub line_text : Fields → List ℕ
line_text a = words_text (kind_name a.kind) (payload_word a.payload) (pairs_of a.attrs)
