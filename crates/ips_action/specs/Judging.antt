-- What the table finds in an action, row by row.
use Rattle.std.specs.Prelude.{◌≡◌, ℕ, ◌<◌, ◌≤◌, Bool, true, false, ◌==◌, if◌then◌else◌, ◌⊎◌, List, [], ◌∷◌, ◌++◌, length, Option, codes}
use Rattle.std.specs.List.{AllByRecursion, list_any, starts_with}
use Rattle.std.specs.Option.{option_to_list}
use Rattle.ips_action.specs.declared.kind.ActionKind.{ActionKind}
use Rattle.ips_action.specs.declared.check.Check.{Check}
use Rattle.ips_action.specs.declared.check.Check.TheVariants.{Anything, Path, Mode, Payload, Preserve, Overlay, LinkTarget, HardlinkTarget, Numbers, Priority, Account, Id, Field, FileName, Flag, FacetTag}
use Rattle.ips_action.specs.declared.table.Times.{Times}
use Rattle.ips_action.specs.declared.table.Times.TheVariants.{Once, OnceOrMore, AtMostOnce, AnyTimes}
use Rattle.ips_action.specs.declared.fault.ActionFault.{ActionFault}
use Rattle.ips_action.specs.declared.fault.ActionFault.TheVariants.{UnknownAction, BadWord, OpenQuote, MissingKey, BadValue}
use Rattle.ips_action.specs.Attrs.{Attr}
use Rattle.ips_action.specs.Table.{AttributeRow, table, any_times}
use Rattle.ips_action.specs.Check.{Meets}
use Rattle.ips_action.specs.Attrs.{values_of}

-- how often an attribute has to stand at least
abbrev pub least : Times → ℕ
least Once = 1
least OnceOrMore = 1
least AtMostOnce = 0
least AnyTimes = 0

-- an attribute may stand no more than once
abbrev pub is_single : Times → Bool
is_single Once = true
is_single OnceOrMore = false
is_single AtMostOnce = true
is_single AnyTimes = false

-- the values are as the row asks: often enough, not too often, and each what it must be in an action at this path
pub record MeetsRow (path : List ℕ) (values : List (List ℕ)) (row : AttributeRow) : Type 0 where
  pub enough : least row.times ≤ length values
  pub single : is_single row.times ≡ true → length values ≤ 1
  pub each : AllByRecursion (Meets row.check path) values

-- the attribute has to stand, and doesn't
abbrev pub IsMissing : List (List ℕ) → AttributeRow → Type 0
IsMissing values row = length values < least row.times

-- the attribute stands where it has to, but too often, or with a value that isn't what it must be
abbrev pub IsBad : List ℕ → List (List ℕ) → AttributeRow → Type 0
IsBad path values row = (least row.times ≤ length values) × (MeetsRow path values row → ⊥)

-- the fault that a row finds in the values
abbrev pub Finds : List ℕ → List (List ℕ) → AttributeRow → ActionFault → Type 0
Finds path values row (UnknownAction place) = ⊥
Finds path values row (BadWord place) = ⊥
Finds path values row (OpenQuote place) = ⊥
Finds path values row (MissingKey name) = (name ≡ row.name) × IsMissing values row
Finds path values row (BadValue name) = (name ≡ row.name) × IsBad path values row

-- the row is about the payload of the action and no attribute
abbrev pub is_payload : Check → Bool
is_payload Anything = false
is_payload Path = false
is_payload Mode = false
is_payload Payload = true
is_payload Preserve = false
is_payload Overlay = false
is_payload LinkTarget = false
is_payload HardlinkTarget = false
is_payload Numbers = false
is_payload Priority = false
is_payload Account = false
is_payload Id = false
is_payload Field = false
is_payload FileName = false
is_payload Flag = false
is_payload FacetTag = false

-- what stands for a row: the payload word, where there is one, or the values of the attribute
abbrev pub standing : Option (List ℕ) → List Attr → AttributeRow → List (List ℕ)
standing payload attrs row = if is_payload row.check then option_to_list payload else values_of row.name attrs

-- the first of the values
abbrev pub first_of : List (List ℕ) → List ℕ
first_of [] = []
first_of (value ∷ values) = value

-- the path of an action: the first value of its `path`
abbrev pub path_of : List Attr → List ℕ
path_of attrs = first_of (values_of (codes "path") attrs)

-- what stands for the row is as it asks
abbrev pub KeepsRow : Option (List ℕ) → List Attr → AttributeRow → Type 0
KeepsRow payload attrs row = MeetsRow (path_of attrs) (standing payload attrs row) row

-- the fault is the first that the rows find, one after the other
abbrev pub FindsFirst : Option (List ℕ) → List Attr → List AttributeRow → ActionFault → Type 0
FindsFirst payload attrs [] fault = ⊥
FindsFirst payload attrs (row ∷ rows) fault = Finds (path_of attrs) (standing payload attrs row) row fault ⊎ (KeepsRow payload attrs row × FindsFirst payload attrs rows fault)

-- the key is that of a facet's tag: it begins with `facet.`
abbrev pub is_facet : List ℕ → Bool
is_facet key = starts_with ◌==◌ key (codes "facet.")

-- the rows of the facets' tags, by the bytes of their keys; they may stand in every action
abbrev pub facet_rows : List Attr → List AttributeRow
facet_rows [] = []
facet_rows (attr ∷ attrs) = if is_facet attr.key then any_times attr.key FacetTag ∷ facet_rows attrs else facet_rows attrs

-- all rows by which an action of the kind is judged: first those of the table
abbrev pub rows_of : ActionKind → List Attr → List AttributeRow
rows_of kind attrs = table kind ++ facet_rows attrs

-- the kind of action has a payload
abbrev pub takes_payload : ActionKind → Bool
takes_payload kind = list_any (λ (row : AttributeRow). is_payload row.check) (table kind)
