-- The owners of paths, as they are kept while the records are made.
use Rattle.std.specs.Prelude.{◌≡◌, ℕ, Bool, not, ◌&&◌, ◌==◌, cond, List, Option, Some, None}
use Rattle.std.specs.Map.{lookup}
use Rattle.std.specs.BTreeMap.{BTreeMap}
use Rattle.std.specs.declared.alloc.Global.{Global}
use Rattle.std.specs.declared.vec.Vec.{Vec}
use Rattle.ips_action.specs.Attrs.{is_same}
use Rattle.ips_books.specs.Accounts.{Accounts}
use Rattle.ips_conflict.specs.declared.placed.Placed.{Placed}
use Rattle.ips_action.specs.declared.kind.ActionKind.{ActionKind}
use Rattle.ips_conflict.specs.Alike.{kind_place, takes_place}
use Rattle.ips_delivered.specs.declared.delivered.unknown.Missing.{Missing}
use Rattle.ips_metafiles.specs.declared.owner.OwnerRow.{OwnerRow}
use Rattle.ips_due.specs.Due.{Content}
use Rattle.ips_delivered.specs.delivered.Delivering.{AreDelivered, AreOwnerRows, first_unknown, owning, owns}

-- A path and an unknown name, as they are told.
abbrev pub missing_told : Missing → List ℕ × List ℕ
missing_told m = (m.path.now, m.name.now)

-- Actions by their paths.
abbrev pub PathOwners : Type 0
PathOwners = BTreeMap (Vec ℕ Global) Placed

-- The action that is kept at a path.
abbrev pub owner_at : PathOwners → List ℕ → Option Placed
owner_at owners path = lookup (λ k. is_same path k.items) owners.entries

-- Of the action that is kept at a path, if any, and one behind it, the one that tells the owner.
abbrev pub owner_of_two : Option Placed → Placed → Placed
owner_of_two None p = p
owner_of_two (Some first) p = cond (takes_place p.action && not (takes_place first.action)) p first

-- What is kept at a path once one more action was met.
abbrev pub owner_with : List ℕ → Option Placed → Placed → Option Placed
owner_with path kept p = cond (owns path p) (Some (owner_of_two kept p)) kept

-- At each path the action is kept that tells its owner.
abbrev pub AreOwners : List Placed → PathOwners → Type 0
AreOwners admitted owners = (path : List ℕ) → owner_at owners path ≡ owning admitted path

-- The kind is that of a driver.
abbrev pub is_driver : ActionKind → Bool
is_driver kind = kind_place kind == 6

-- All owners are known, and these are the records of what the actions deliver.
abbrev pub ActionsDeliver : Accounts → List Placed → List (List ℕ × Content) → Type 0
ActionsDeliver books admitted records = (first_unknown books admitted ≡ None) × (rows : List OwnerRow) × AreOwnerRows books admitted rows × AreDelivered admitted rows records
