-- What a line means, and where it goes wrong.
use Rattle.std.specs.Prelude.{◌≡◌, ℕ, Bool, true, false, ◌&&◌, ◌==◌, ◌⊎◌, if◌then◌else◌, List, [], ◌∷◌, map, Option, Some}
use Rattle.std.specs.List.{list_any}
use Rattle.std.specs.Option.{option_map}
use Rattle.ips_line.specs.declared.words.Pair.{Pair}
use Rattle.ips_line.specs.declared.fault.WordFault.{WordFault}
use Rattle.ips_line.specs.declared.fault.WordFault.TheVariants as words
use Rattle.ips_line.specs.Line.{Placed, Said, Says, IsFault}
use Rattle.ips_action.specs.declared.kind.ActionKind.{ActionKind}
use Rattle.ips_action.specs.declared.check.Check.{Check}
use Rattle.ips_action.specs.declared.check.Check.TheVariants.{Anything, Path, Mode, Payload, Preserve, Overlay, LinkTarget, HardlinkTarget, Numbers, Priority, Account, Id, Field, FileName, Flag, FacetTag}
use Rattle.ips_action.specs.declared.fault.ActionFault.{ActionFault}
use Rattle.ips_action.specs.declared.fault.ActionFault.TheVariants.{UnknownAction, BadWord, OpenQuote, MissingKey, BadValue}
use Rattle.ips_action.specs.Attrs.{Attr}
use Rattle.ips_action.specs.Kind.{kind_name}
use Rattle.ips_action.specs.Table.{AttributeRow, table}
use Rattle.ips_action.specs.Attrs.{is_same, AreAttrs, Gathers}
use Rattle.ips_action.specs.Judging.{FindsFirst, rows_of, takes_payload}
use Rattle.ips_action.specs.Action.{Fields, IsAction, IfTaken, payload_word}

-- the check is that of a path
abbrev pub is_path : Check → Bool
is_path Anything = false
is_path Path = true
is_path Mode = false
is_path Payload = false
is_path Preserve = false
is_path Overlay = false
is_path LinkTarget = false
is_path HardlinkTarget = false
is_path Numbers = false
is_path Priority = false
is_path Account = false
is_path Id = false
is_path Field = false
is_path FileName = false
is_path Flag = false
is_path FacetTag = false

-- the key is that of a path in an action of this kind
abbrev pub is_path_key : ActionKind → List ℕ → Bool
is_path_key kind key = list_any (λ (row : AttributeRow). is_path row.check && is_same row.name key) (table kind)

-- a path without the `/` before it
abbrev pub without_slashes : List ℕ → List ℕ
without_slashes [] = []
without_slashes (b ∷ bytes) = if b == 47 then without_slashes bytes else b ∷ bytes

-- a `key=value` as an action of this kind holds it: a path without the `/` before it, any other value as it stands
abbrev pub held : ActionKind → Pair → Pair
held kind p = record { key = p.key; value = if is_path_key kind p.key then without_slashes p.value else p.value }

-- the bytes of a payload word, where there is one
abbrev pub word_of : Option Placed → Option (List ℕ)
word_of payload = option_map (λ (w : Placed). w.text) payload

-- the words of a line are this action
pub record IsSaid (said : Said) (a : Fields) : Type 0 where
  pub kind : said.name.text ≡ kind_name a.kind
  pub payload : word_of said.payload ≡ payload_word a.payload
  pub attrs : Gathers (map (held a.kind) said.pairs) a.attrs
  pub action : IsAction a

-- the line is a way to write the action
abbrev pub Means : List ℕ → Fields → Type 0
Means text a = (said : Said) × Says said text × IsSaid said a

-- the words name an action and have a payload word only where the action has a payload, and this is the first fault that its rows find
pub record IsJudged (said : Said) (fault : ActionFault) : Type 0 where
  pub kind : ActionKind
  pub attrs : List Attr
  pub name : said.name.text ≡ kind_name kind
  pub taken : IfTaken kind said.payload
  pub ordered : AreAttrs attrs
  pub gathers : Gathers (map (held kind) said.pairs) attrs
  pub first : FindsFirst (word_of said.payload) attrs (rows_of kind attrs) fault

-- an action of this kind, payload word and `key=value`
pub record IsReadAs (kind : ActionKind) (payload : Option (List ℕ)) (pairs : List Pair) (a : Fields) : Type 0 where
  pub of_kind : a.kind ≡ kind
  pub of_payload : payload ≡ payload_word a.payload
  pub of_attrs : Gathers (map (held kind) pairs) a.attrs
  pub action : IsAction a

-- the first fault that the rows find in an action of this kind, payload word and `key=value`
pub record IsRefusedAs (kind : ActionKind) (payload : Option (List ℕ)) (pairs : List Pair) (fault : ActionFault) : Type 0 where
  pub attrs : List Attr
  pub ordered : AreAttrs attrs
  pub gathers : Gathers (map (held kind) pairs) attrs
  pub first : FindsFirst payload attrs (rows_of kind attrs) fault

-- the words have a payload word at this place, and name an action that has no payload
pub record IsNotTaken (said : Said) (place : ℕ) : Type 0 where
  pub kind : ActionKind
  pub word : Placed
  pub name : said.name.text ≡ kind_name kind
  pub payload : said.payload ≡ Some word
  pub untaken : takes_payload kind ≡ false
  pub at : place ≡ word.place

-- the first fault of the words of a line: an unknown action, a payload word that the action doesn't have, or what its rows find
abbrev pub FaultOf : Said → ActionFault → Type 0
FaultOf said (UnknownAction place) = (place ≡ said.name.place) × ((kind : ActionKind) → said.name.text ≡ kind_name kind → ⊥)
FaultOf said (BadWord place) = IsNotTaken said place
FaultOf said (OpenQuote place) = ⊥
FaultOf said (MissingKey name) = IsJudged said (MissingKey name)
FaultOf said (BadValue name) = IsJudged said (BadValue name)

-- the text has words, and this is their first fault
abbrev pub HasFault : List ℕ → ActionFault → Type 0
HasFault text fault = (said : Said) × Says said text × FaultOf said fault

-- a fault of words, as one of an action
abbrev pub word_fault : WordFault → ActionFault
word_fault (words.BadWord place) = BadWord place
word_fault (words.OpenQuote place) = OpenQuote place

-- the first fault of a line: of its words where they aren't words of a line, and else of what they say
abbrev pub IsFirstFault : List ℕ → ActionFault → Type 0
IsFirstFault text (UnknownAction place) = HasFault text (UnknownAction place)
IsFirstFault text (BadWord place) = IsFault text (words.BadWord place) ⊎ HasFault text (BadWord place)
IsFirstFault text (OpenQuote place) = IsFault text (words.OpenQuote place)
IsFirstFault text (MissingKey name) = HasFault text (MissingKey name)
IsFirstFault text (BadValue name) = HasFault text (BadValue name)
