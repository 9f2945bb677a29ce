-- The table of the commands: each with its word, its options and its operands (pkg(1), narrowed, and commands of this program alone).
use Rattle.std.specs.Prelude.{ℕ, ◌^◌, ◌-◌, Bool, true, false, List, [], ◌∷◌, codes}
use Rattle.ips_syntax.specs.declared.table.Verb.{Verb}
use Rattle.ips_syntax.specs.declared.table.Verb.TheVariants.{ImageCreate, Install, Update, Uninstall, Fix, Verify, List as ListInstalled, Contents, History, Search, RebuildIndex, ChangeFacet, ChangeVariant, SetMediator, UnsetMediator, Avoid, Unavoid, Freeze, Unfreeze, SetPublisher, UnsetPublisher, UpdateFormat, Gen}
use Rattle.ips_syntax.specs.declared.table.Role.{Role}
use Rattle.ips_syntax.specs.declared.table.Role.TheVariants as role
use Rattle.ips_syntax.specs.declared.table.Form.{Form}
use Rattle.ips_syntax.specs.declared.table.Form.TheVariants as form
use Rattle.ips_syntax.specs.declared.table.Operands.{Operands}

-- The word of a command.
abbrev pub verb_name : Verb → List ℕ
verb_name ImageCreate = codes "image-create"
verb_name Install = codes "install"
verb_name Update = codes "update"
verb_name Uninstall = codes "uninstall"
verb_name Fix = codes "fix"
verb_name Verify = codes "verify"
verb_name ListInstalled = codes "list"
verb_name Contents = codes "contents"
verb_name History = codes "history"
verb_name Search = codes "search"
verb_name RebuildIndex = codes "rebuild-index"
verb_name ChangeFacet = codes "change-facet"
verb_name ChangeVariant = codes "change-variant"
verb_name SetMediator = codes "set-mediator"
verb_name UnsetMediator = codes "unset-mediator"
verb_name Avoid = codes "avoid"
verb_name Unavoid = codes "unavoid"
verb_name Freeze = codes "freeze"
verb_name Unfreeze = codes "unfreeze"
verb_name SetPublisher = codes "set-publisher"
verb_name UnsetPublisher = codes "unset-publisher"
verb_name UpdateFormat = codes "update-format"
verb_name Gen = codes "gen"

-- The commands, in the order of the help.
abbrev pub all_verbs : List Verb
all_verbs = ImageCreate ∷ Install ∷ Update ∷ Uninstall ∷ Fix ∷ Verify ∷ ListInstalled ∷ Contents ∷ History ∷ Search ∷ RebuildIndex ∷ ChangeFacet ∷ ChangeVariant ∷ SetMediator ∷ UnsetMediator
    ∷ Avoid ∷ Unavoid ∷ Freeze ∷ Unfreeze ∷ SetPublisher ∷ UnsetPublisher ∷ UpdateFormat ∷ Gen ∷ []

-- The options of a command; they stand before its operands, in any order.
abbrev pub options_of : Verb → List Role
options_of ImageCreate = role.Publisher ∷ role.Variant ∷ role.Facet ∷ role.Actuator ∷ []
options_of Install = role.Accept ∷ role.Reject ∷ role.SearchLimit ∷ []
options_of Update = role.Accept ∷ role.Reject ∷ role.SearchLimit ∷ []
options_of Uninstall = role.SearchLimit ∷ []
options_of Contents = role.Manifest ∷ []
options_of ChangeFacet = role.Accept ∷ []
options_of ChangeVariant = role.Accept ∷ []
options_of SetMediator = role.Version ∷ role.Implementation ∷ []
options_of SetPublisher = role.SearchFirst ∷ role.Sticky ∷ role.NonSticky ∷ []
options_of verb = []

-- The options of a command of which at least one has to stand.
abbrev pub required_of : Verb → List Role
required_of ImageCreate = role.Publisher ∷ []
required_of SetMediator = role.Version ∷ role.Implementation ∷ []
required_of verb = []

-- One operand of this form.
abbrev pub one : Form → Operands
one f = record { form = f; least = 1; most = 1 }

-- At least so many operands of this form.
abbrev pub many : ℕ → Form → Operands
many least f = record { form = f; least = least; most = 2 ^ 64 - 1 }

-- No operand.
abbrev pub none : Operands
none = record { form = form.Nothing; least = 0; most = 0 }

-- The operands of a command: their form, and how many there are.
abbrev pub operands_of : Verb → Operands
operands_of Install = many 1 form.Pattern
operands_of Update = many 0 form.Pattern
operands_of Uninstall = many 1 form.Pattern
operands_of Contents = one form.Pattern
operands_of Search = one form.Any
operands_of ChangeFacet = many 1 form.Setting
operands_of ChangeVariant = one form.Variant
operands_of SetMediator = one form.Filled
operands_of UnsetMediator = one form.Filled
operands_of Avoid = many 1 form.Stem
operands_of Unavoid = many 1 form.Stem
operands_of Freeze = many 1 form.Freeze
operands_of Unfreeze = many 1 form.Stem
operands_of SetPublisher = one form.Publisher
operands_of UnsetPublisher = one form.Publisher
operands_of Gen = one form.Count
operands_of verb = none

-- The word of an option.
abbrev pub role_name : Role → List ℕ
role_name role.Operand = []
role_name role.Accept = codes "--accept"
role_name role.Actuator = codes "--actuator"
role_name role.Facet = codes "--facet"
role_name role.Implementation = codes "-I"
role_name role.Manifest = codes "-m"
role_name role.NonSticky = codes "--non-sticky"
role_name role.Publisher = codes "-p"
role_name role.Reject = codes "--reject"
role_name role.SearchFirst = codes "--search-first"
role_name role.SearchLimit = codes "--search-limit"
role_name role.Sticky = codes "--sticky"
role_name role.Variant = codes "--variant"
role_name role.Version = codes "-V"

-- The form of the value that stands behind an option, or no value.
abbrev pub value_form : Role → Form
value_form role.Actuator = form.Filled
value_form role.Facet = form.Switch
value_form role.Implementation = form.Implementation
value_form role.Publisher = form.Publisher
value_form role.Reject = form.Pattern
value_form role.SearchLimit = form.Limit
value_form role.Variant = form.Variant
value_form role.Version = form.Version
value_form r = form.Nothing

-- The option may stand more than once.
abbrev pub repeats : Role → Bool
repeats role.Facet = true
repeats role.Reject = true
repeats role.Variant = true
repeats r = false

-- What an option sets: `--sticky` and `--non-sticky` set one thing, and any two others two.
abbrev pub sets : Role → ℕ
sets role.Operand = 0
sets role.Accept = 1
sets role.Actuator = 2
sets role.Facet = 3
sets role.Implementation = 4
sets role.Manifest = 5
sets role.NonSticky = 6
sets role.Publisher = 7
sets role.Reject = 8
sets role.SearchFirst = 9
sets role.SearchLimit = 10
sets role.Sticky = 6
sets role.Variant = 11
sets role.Version = 12
