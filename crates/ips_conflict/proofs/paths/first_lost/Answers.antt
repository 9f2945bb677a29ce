use Rattle.std.proofs.Common.{◌≡◌, ℕ, List, Option, Some, None, subst}
use Rattle.std.specs.List.{Contains}
use Rattle.ips_conflict.specs.declared.placed.Placed.{Placed}
use Rattle.ips_conflict.specs.declared.placed.Sort.TheVariants.{Path}
use Rattle.ips_conflict.specs.declared.earliest.Test.TheVariants.{Lost}
use Rattle.ips_conflict.specs.Clash.{path_key}
use Rattle.ips_conflict.specs.Index.{IsGroup}
use Rattle.ips_conflict.specs.Search.{IsEarliest, MeetsTest}
use Rattle.ips_conflict.proofs.Grouped.{Keyed, keyed_earliest, members_within}
use Rattle.ips_conflict.proofs.OfPaths.{none_lost, found_lost}
use Rattle.ips_conflict.proofs.paths.first_lost.Goals as goal

-- what was found in the group, for the path
found : (placed : List Placed) (text members : List ℕ) → IsGroup placed text members → (o p : Option ℕ) → o ≡ p → IsEarliest placed (λ j. Contains members j × MeetsTest placed Path Lost j) o → IsEarliest placed (Keyed placed (path_key text) Lost) p
found placed text members group o p e h = keyed_earliest placed Path text members group Lost p (subst (IsEarliest placed (λ j. Contains members j × MeetsTest placed Path Lost j)) e h)

pub earliest-requires : goal.earliest-requires
earliest-requires c = record { index = c.requires.index; members = members_within c.args.placed.now Path c.args.text.now c.args.members.now c.requires.group; test = tt }

pub returns-in-Some : goal.returns-in-Some
returns-in-Some c =
    found_lost c.args.placed.now c.args.text.now c.in-Some.first (found c.args.placed.now c.args.text.now c.args.members.now c.requires.group c.in_ok-first.field-0 (Some c.in-Some.first) c.in-Some.is c.in_ok-first.ensures)

pub returns-in-None : goal.returns-in-None
returns-in-None c = none_lost c.args.placed.now c.args.text.now (found c.args.placed.now c.args.text.now c.args.members.now c.requires.group c.in_ok-first.field-0 None c.in-None.is c.in_ok-first.ensures)
