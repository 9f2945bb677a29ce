-- What a link of a mediator offers.
use Rattle.std.specs.Prelude.{ℕ, ◌==◌, if◌then◌else◌, List, [], map, Option, Some, None, option_map, slice_get, codes}
use Rattle.std.specs.List.{slice_split}
use Rattle.std.specs.Str.{bytes_eq}
use Rattle.std.specs.Str.Parse.{digits_value}
use Rattle.ips_fmri.specs.Version.{Parts}
use Rattle.ips_action.specs.declared.kind.ActionKind.{ActionKind}
use Rattle.ips_action.specs.declared.kind.ActionKind.TheVariants.{Set, Depend, Dir, File, Link, Hardlink, User, Group, Driver, License, Legacy, Signature}
use Rattle.ips_action.specs.Attrs.{values_of}
use Rattle.ips_action.specs.Action.{Fields}
use Rattle.ips_mediate.specs.declared.offer.Priority.{Priority}
use Rattle.ips_mediate.specs.declared.offer.Priority.TheVariants.{Unset, Vendor, Site}

-- What a link has, symbolic or hard; any other action has none of it.
abbrev pub of_link : ActionKind → Option (List ℕ) → Option (List ℕ)
of_link Set value = None
of_link Depend value = None
of_link Dir value = None
of_link File value = None
of_link Link value = value
of_link Hardlink value = value
of_link User value = None
of_link Group value = None
of_link Driver value = None
of_link License value = None
of_link Legacy value = None
of_link Signature value = None

-- The value of an attribute of a link, where it stands.
abbrev pub link_value : List ℕ → Fields → Option (List ℕ)
link_value key a = of_link a.kind (slice_get (values_of key a.attrs) 0)

-- The parts of a text between its dots.
abbrev pub dotted : List ℕ → List (List ℕ)
dotted text = slice_split (λ b. b == 46) text

-- The numbers that stand between the dots of a text.
abbrev pub numbers_of : List ℕ → List ℕ
numbers_of text = map (digits_value 10) (dotted text)

-- The version whose release these numbers are, and that has nothing else.
abbrev pub release_version : List ℕ → Parts
release_version numbers = record { release = numbers; build = []; branch = []; stamp = None }

-- The version that a text of numbers joined by dots names.
abbrev pub version_named : List ℕ → Parts
version_named text = release_version (numbers_of text)

-- A mediation: the version and the implementation that are chosen, where the choice has them.
pub record Mediation : Type 0 where
  pub version : Option Parts
  pub implementation : Option (List ℕ)

-- The version that a link offers, where it offers one.
abbrev pub version_of : Fields → Option Parts
version_of a = option_map version_named (link_value (codes "mediator-version") a)

-- The implementation that a link offers, where it offers one.
abbrev pub implementation_of : Fields → Option (List ℕ)
implementation_of a = link_value (codes "mediator-implementation") a

-- The mediation that a link belongs to.
abbrev pub mediation_of : Fields → Mediation
mediation_of a = record { version = version_of a; implementation = implementation_of a }

-- The priority that a word names.
abbrev pub priority_named : List ℕ → Priority
priority_named word = if bytes_eq word (codes "site") then Site else (if bytes_eq word (codes "vendor") then Vendor else Unset)

-- The priority where there may be no word for it.
abbrev pub priority_told : Option (List ℕ) → Priority
priority_told None = Unset
priority_told (Some word) = priority_named word

-- The rank of a priority: the site's is above the vendor's, and any is above none.
abbrev pub rank : Priority → ℕ
rank Unset = 0
rank Vendor = 1
rank Site = 2

-- The rank of a link's priority.
abbrev pub rank_of : Fields → ℕ
rank_of a = rank (priority_told (link_value (codes "mediator-priority") a))
