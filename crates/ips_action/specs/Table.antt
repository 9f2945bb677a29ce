-- The table of actions: which attributes each kind has, how often they may stand, and what their values must be.
use Rattle.std.specs.Prelude.{ℕ, List, [], ◌∷◌, codes}
use Rattle.ips_action.specs.declared.kind.ActionKind.{ActionKind}
use Rattle.ips_action.specs.declared.kind.ActionKind.TheVariants.{Set, Depend, Dir, File, Link, Hardlink, User, Group, Driver, License, Legacy, Signature}
use Rattle.ips_action.specs.declared.check.Check.{Check}
use Rattle.ips_action.specs.declared.check.Check.TheVariants.{Anything, Path, Mode, Payload, Preserve, Overlay, LinkTarget, HardlinkTarget, Numbers, Priority, Account, Id, Field, FileName, Flag}
use Rattle.ips_action.specs.declared.table.Times.{Times}
use Rattle.ips_action.specs.declared.table.Times.TheVariants.{Once, OnceOrMore, AtMostOnce, AnyTimes}
use Rattle.ips_action.specs.declared.table.Row as declared

-- a row: the key of an attribute, how often it may stand, and what each of its values must be
pub record AttributeRow : Type 0 where
  pub name : List ℕ
  pub times : Times
  pub check : Check

-- a row of the code, with the bytes of its name
abbrev pub row_seen : declared.Row → AttributeRow
row_seen r = record { name = r.name.now; times = r.times; check = r.check }

-- an attribute that stands exactly once
abbrev pub once : List ℕ → Check → AttributeRow
once name check = record { name = name; times = Once; check = check }

-- an attribute that stands once or more
abbrev pub once_or_more : List ℕ → Check → AttributeRow
once_or_more name check = record { name = name; times = OnceOrMore; check = check }

-- an attribute that stands once or not at all
abbrev pub at_most_once : List ℕ → Check → AttributeRow
at_most_once name check = record { name = name; times = AtMostOnce; check = check }

-- an attribute that stands as often as one likes
abbrev pub any_times : List ℕ → Check → AttributeRow
any_times name check = record { name = name; times = AnyTimes; check = check }

-- what links of both sorts may have: the mediator whose choice lays them
abbrev pub mediated : List AttributeRow
mediated =
    at_most_once (codes "mediator") Anything
    ∷ at_most_once (codes "mediator-version") Numbers
    ∷ at_most_once (codes "mediator-implementation") Anything
    ∷ at_most_once (codes "mediator-priority") Priority
    ∷ []

-- the rows of each kind of action, in the order in which they are judged
abbrev pub table : ActionKind → List AttributeRow
table Set =
    once (codes "name") Anything
    ∷ any_times (codes "value") Anything
    ∷ []
table Depend =
    once_or_more (codes "fmri") Anything
    ∷ once (codes "type") Anything
    ∷ at_most_once (codes "predicate") Anything
    ∷ []
table Dir =
    once (codes "path") Path
    ∷ once (codes "mode") Mode
    ∷ once (codes "owner") Anything
    ∷ once (codes "group") Anything
    ∷ []
table File =
    once (codes "path") Path
    ∷ once (codes "mode") Mode
    ∷ once (codes "owner") Anything
    ∷ once (codes "group") Anything
    ∷ once (codes "payload") Payload
    ∷ at_most_once (codes "preserve") Preserve
    ∷ at_most_once (codes "overlay") Overlay
    ∷ []
table Link =
    once (codes "path") Path
    ∷ once (codes "target") LinkTarget
    ∷ mediated
table Hardlink =
    once (codes "path") Path
    ∷ once (codes "target") HardlinkTarget
    ∷ mediated
table User =
    once (codes "username") Account
    ∷ once (codes "group") Account
    ∷ at_most_once (codes "uid") Id
    ∷ any_times (codes "group-list") Account
    ∷ at_most_once (codes "gcos-field") Field
    ∷ at_most_once (codes "home-dir") Field
    ∷ at_most_once (codes "login-shell") Field
    ∷ at_most_once (codes "password") Field
    ∷ []
table Group =
    once (codes "groupname") Account
    ∷ at_most_once (codes "gid") Id
    ∷ []
table Driver =
    once (codes "name") Anything
    ∷ []
table License =
    once (codes "license") FileName
    ∷ once (codes "payload") Payload
    ∷ at_most_once (codes "must-accept") Flag
    ∷ at_most_once (codes "must-display") Flag
    ∷ []
table Legacy =
    once (codes "pkg") FileName
    ∷ []
table Signature =
    at_most_once (codes "payload") Payload
    ∷ []
