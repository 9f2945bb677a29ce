-- When two actions of one key and kind say the same.
use Rattle.std.specs.Prelude.{ℕ, Bool, false, not, ◌&&◌, ◌||◌, ◌==◌, nat_lt, List, Option, Some, None, filter, codes}
use Rattle.std.specs.List.{starts_with}
use Rattle.std.specs.Option.{option_eq}
use Rattle.std.specs.Str.Parse.{digits_value}
use Rattle.std.specs.Cmp.Lexicographic.{pointwise}
use Rattle.ips_text.specs.Path.{parts}
use Rattle.ips_action.specs.declared.kind.ActionKind.{ActionKind}
use Rattle.ips_action.specs.declared.kind.ActionKind.TheVariants.{Set, Depend, Dir, File, Link, Hardlink, User, Group, Driver, License, Legacy, Signature}
use Rattle.ips_action.specs.Attrs.{Attr}
use Rattle.ips_action.specs.Attrs.{is_same}
use Rattle.ips_action.specs.Judging.{is_facet}
use Rattle.ips_action.specs.Target.{walk, start}
use Rattle.ips_action.specs.Action.{Fields, payload_word}
use Rattle.ips_conflict.specs.Key.{first_value, value_of}

-- The place of a kind among those that have keys. (No other has one: it stands behind them.)
abbrev pub kind_place : ActionKind → ℕ
kind_place Dir = 0
kind_place File = 1
kind_place Link = 2
kind_place Hardlink = 3
kind_place User = 4
kind_place Group = 5
kind_place Driver = 6
kind_place Legacy = 7
kind_place License = 8
kind_place Set = 9
kind_place Depend = 9
kind_place Signature = 9

-- The actions are of one kind.
abbrev pub same_kind : Fields → Fields → Bool
same_kind a b = kind_place a.kind == kind_place b.kind

-- The action has a mode: it is a directory or a file.
abbrev pub has_mode : Fields → Bool
has_mode a = nat_lt (kind_place a.kind) 2

-- The mode of a directory or a file, as a number.
abbrev pub mode_of : Fields → ℕ
mode_of a = digits_value 8 (value_of (codes "mode") a)

-- Mode, owner and group are the same.
abbrev pub same_access : Fields → Fields → Bool
same_access a b = (mode_of a == mode_of b) && is_same (value_of (codes "owner") a) (value_of (codes "owner") b) && is_same (value_of (codes "group") a) (value_of (codes "group") b)

-- Where a hardlink leads: from the root or from its own directory, with `.` and `..` followed.
abbrev pub led_to : Fields → Option (List ℕ)
led_to a = walk (parts (value_of (codes "target") a)) (start (value_of (codes "path") a) (value_of (codes "target") a))

-- The key is that of a variant's or a facet's tag.
abbrev pub is_tag : List ℕ → Bool
is_tag key = starts_with ◌==◌ key (codes "variant.") || is_facet key

-- The attributes without tags.
abbrev pub untagged : List Attr → List Attr
untagged attrs = filter (λ attr. not (is_tag attr.key)) attrs

-- The attributes have one key and the same values.
abbrev pub same_attr : Attr → Attr → Bool
same_attr a b = is_same a.key b.key && pointwise is_same a.values b.values

-- The canonical lines are the same but for tags: no two actions of one kind without payload have one line.
abbrev pub same_line : Fields → Fields → Bool
same_line a b = pointwise same_attr (untagged a.attrs) (untagged b.attrs)

-- The actions, both of this kind, say the same. Files never do: two of them go by what they say of overlays.
abbrev pub alike_as : ActionKind → Fields → Fields → Bool
alike_as Set a b = false
alike_as Depend a b = false
alike_as Dir a b = same_access a b
alike_as File a b = false
alike_as Link a b = is_same (value_of (codes "target") a) (value_of (codes "target") b)
alike_as Hardlink a b = option_eq is_same (led_to a) (led_to b)
alike_as User a b = same_line a b
alike_as Group a b = same_line a b
alike_as Driver a b = same_line a b
alike_as License a b = option_eq is_same (payload_word a.payload) (payload_word b.payload)
alike_as Legacy a b = same_line a b
alike_as Signature a b = false

-- The actions are of one kind and say the same.
abbrev pub alike : Fields → Fields → Bool
alike a b = same_kind a b && alike_as a.kind a b

-- The value of an attribute is this one.
abbrev pub has : List ℕ → List ℕ → Fields → Bool
has key value a = option_eq is_same (first_value key a) (Some value)

-- The attribute stands.
abbrev pub stands : List ℕ → Fields → Bool
stands key a = not (option_eq is_same (first_value key a) None)

-- The file takes the place of others.
abbrev pub takes_place : Fields → Bool
takes_place a = has (codes "overlay") (codes "true") a

-- The file gives its place to another: it allows an overlay and is kept where it was changed.
abbrev pub gives_place : Fields → Bool
gives_place a = has (codes "overlay") (codes "allow") a && stands (codes "preserve") a

-- The actions are two files.
abbrev pub are_files : Fields → Fields → Bool
are_files a b = (kind_place a.kind == kind_place File) && (kind_place b.kind == kind_place File)

-- One of the files takes the place that the other gives.
abbrev pub takes_over : Fields → Fields → Bool
takes_over a b = (takes_place a && gives_place b) || (takes_place b && gives_place a)

-- The actions are two files, of which one takes the other's place, with its mode, owner and group.
abbrev pub overlaid : Fields → Fields → Bool
overlaid a b = are_files a b && takes_over a b && same_access a b
