-- Over what actions may clash: their keys.
use Rattle.std.specs.Prelude.{ℕ, Bool, true, false, List, [], ◌∷◌, ◌++◌, Option, Some, None, option_map, unwrap_or, slice_get, codes}
use Rattle.ips_action.specs.declared.kind.ActionKind.{ActionKind}
use Rattle.ips_action.specs.declared.kind.ActionKind.TheVariants as kind
use Rattle.ips_action.specs.Attrs.{values_of}
use Rattle.ips_action.specs.Action.{Fields}
use Rattle.ips_conflict.specs.declared.placed.Placed.{Placed}
use Rattle.ips_conflict.specs.declared.placed.Sort.{Sort}
use Rattle.ips_conflict.specs.declared.placed.Sort.TheVariants.{Path, User, Group, Driver, Legacy, License}

-- The first value of an attribute, where it stands.
abbrev pub first_value : List ℕ → Fields → Option (List ℕ)
first_value key a = slice_get (values_of key a.attrs) 0

-- The same, of an attribute that the table of actions asks for.
abbrev pub value_of : List ℕ → Fields → List ℕ
value_of key a = unwrap_or (first_value key a) []

-- A key: of what sort it is, and its text.
pub record Key : Type 0 where
  pub sort : Sort
  pub text : List ℕ

-- The place of a sort: keys of one text go by it.
abbrev pub sort_rank : Sort → ℕ
sort_rank Path = 0
sort_rank User = 1
sort_rank Group = 2
sort_rank Driver = 3
sort_rank Legacy = 4
sort_rank License = 5

-- The sort of the keys of a kind of actions, where it has keys.
abbrev pub sort_of : ActionKind → Option Sort
sort_of kind.Set = None
sort_of kind.Depend = None
sort_of kind.Dir = Some Path
sort_of kind.File = Some Path
sort_of kind.Link = Some Path
sort_of kind.Hardlink = Some Path
sort_of kind.User = Some User
sort_of kind.Group = Some Group
sort_of kind.Driver = Some Driver
sort_of kind.License = Some License
sort_of kind.Legacy = Some Legacy
sort_of kind.Signature = None

-- The text of a key of this sort: a path, the name of what is added, or the package and the name of its license.
abbrev pub text_of : Sort → Placed → List ℕ
text_of Path p = value_of (codes "path") p.action
text_of User p = value_of (codes "username") p.action
text_of Group p = value_of (codes "groupname") p.action
text_of Driver p = value_of (codes "name") p.action
text_of Legacy p = value_of (codes "pkg") p.action
text_of License p = p.stem ++ 32 ∷ value_of (codes "license") p.action

-- The key of an action, where it has one.
abbrev pub key_of : Placed → Option Key
key_of p = option_map (λ sort. record { sort = sort; text = text_of sort p }) (sort_of p.action.kind)

-- The kind is that of a directory.
abbrev pub is_dir : ActionKind → Bool
is_dir kind.Set = false
is_dir kind.Depend = false
is_dir kind.Dir = true
is_dir kind.File = false
is_dir kind.Link = false
is_dir kind.Hardlink = false
is_dir kind.User = false
is_dir kind.Group = false
is_dir kind.Driver = false
is_dir kind.License = false
is_dir kind.Legacy = false
is_dir kind.Signature = false

-- The kind is that of a link, symbolic or hard.
abbrev pub is_link : ActionKind → Bool
is_link kind.Set = false
is_link kind.Depend = false
is_link kind.Dir = false
is_link kind.File = false
is_link kind.Link = true
is_link kind.Hardlink = true
is_link kind.User = false
is_link kind.Group = false
is_link kind.Driver = false
is_link kind.License = false
is_link kind.Legacy = false
is_link kind.Signature = false

-- The kind is that of a legacy package's entry.
abbrev pub is_legacy : ActionKind → Bool
is_legacy kind.Set = false
is_legacy kind.Depend = false
is_legacy kind.Dir = false
is_legacy kind.File = false
is_legacy kind.Link = false
is_legacy kind.Hardlink = false
is_legacy kind.User = false
is_legacy kind.Group = false
is_legacy kind.Driver = false
is_legacy kind.License = false
is_legacy kind.Legacy = true
is_legacy kind.Signature = false
