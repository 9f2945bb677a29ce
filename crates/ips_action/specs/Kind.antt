-- The kinds of actions, by their names.
use Rattle.std.specs.Prelude.{ℕ, List, codes}
use Rattle.ips_action.specs.declared.kind.ActionKind.{ActionKind}
use Rattle.ips_action.specs.declared.kind.ActionKind.TheVariants.{Set, Depend, Dir, File, Link, Hardlink, User, Group, Driver, License, Legacy, Signature}

-- the name of a kind of action, with which its lines begin
abbrev pub kind_name : ActionKind → List ℕ
kind_name Set = codes "set"
kind_name Depend = codes "depend"
kind_name Dir = codes "dir"
kind_name File = codes "file"
kind_name Link = codes "link"
kind_name Hardlink = codes "hardlink"
kind_name User = codes "user"
kind_name Group = codes "group"
kind_name Driver = codes "driver"
kind_name License = codes "license"
kind_name Legacy = codes "legacy"
kind_name Signature = codes "signature"
