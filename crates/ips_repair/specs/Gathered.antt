-- What is known of an image before the steps of its repair are drawn.
use Rattle.std.specs.Prelude.{◌≡◌, ℕ, Bool, true, false, IsFalse, List, [], ◌++◌, length, map, Option, Some, None}
use Rattle.std.specs.List.{AllByRecursion}
use Rattle.ips_outside.specs.Image.{Image}
use Rattle.ips_state.specs.Records.{history_path}
use Rattle.ips_state.specs.declared.state.State.{State}
use Rattle.ips_meaning.specs.declared.entry.Entry.{Entry}
use Rattle.ips_after.specs.Lists.{listed}
use Rattle.ips_after.specs.Repaired.{IsRepair, Repair, is_displaced, relinked_as}
use Rattle.ips_after.specs.Request.{Request}
use Rattle.ips_after.specs.Salvage.{Aside, IsRoot, has_long_side, is_unmovable, salvaged, side_at}
use Rattle.ips_change.specs.wanted.Named.{is_payload_of}
use Rattle.ips_change.specs.wanted.Wanted.{want_of}
use Rattle.ips_change.specs.declared.change.Change.{Change}
use Rattle.ips_change.specs.Told.{change_told}
use Rattle.ips_due.specs.Asked.{AreMeant}
use Rattle.ips_due.specs.Due.{Own, holds_content}
use Rattle.ips_emit.specs.Emitted.{HasTarget}
use Rattle.ips_found.specs.Found.{AreThings, thing_paths}
use Rattle.ips_found.specs.declared.found.Thing.{Thing}
use Rattle.ips_movable.specs.First.{IsFirstPath, loses_foreign}
use Rattle.ips_aside.specs.declared.ways.Ways.{Ways}
use Rattle.ips_aside.specs.Lost.{folder_paths, names_of}
use Rattle.ips_aside.specs.Ways.{IsMarkedAbove, IsStandingAbove, bytes_if_any}

-- The packages of the state mean these entries, and each of them has a change, in which a symbolic link that is made has a target.
pub record AreChangesFor (new : State) (want : List (List ℕ × Entry)) (changes : List Change) : Type 0 where
  pub meant : AreMeant new.settings new.mediators.items new.installed.items want
  pub long : length changes ≡ length want
  pub targets : AllByRecursion HasTarget changes

-- This becomes of the wanted paths in a repair, in their order, apart from what records say.
abbrev pub IsTold : Repair → Image → List Change → Type 0
IsTold f t changes = map (change_told f.bytes) changes ≡ map (λ p. relinked_as f t p (f.want.at p)) f.want.keys

-- The same in each repair by these entries.
abbrev pub AreMended : Image → List (List ℕ × Entry) → List Change → Type 0
AreMended t want changes = (f : Repair) → IsRepair f → f.want ≡ want_of want → f.holds ≡ is_payload_of → IsTold f t changes

-- Just what each such repair salvages are the things, with what stands at their paths.
pub record AreSaved (t : Image) (want : List (List ℕ × Entry)) (things : List Thing) : Type 0 where
  pub displaced : (f : Repair) → IsRepair f → f.want ≡ want_of want → f.holds ≡ is_payload_of → (q : List ℕ) → listed (thing_paths things) q ≡ is_displaced f t q
  pub found : AreThings t things

-- What was gathered is what such a repair makes of the image at the moment of this text, with what it salvages, the folder for that, and the directories on the way.
pub record IsGathered (text : List ℕ) (t : Image) (want : List (List ℕ × Entry)) (changes : List Change) (things : List Thing) (root : List ℕ) (ways : Ways) : Type 0 where
  pub mended : AreMended t want changes
  pub saved : AreSaved t want things
  pub at_root : IsRoot t text root
  pub above : IsMarkedAbove ways.above (folder_paths root (thing_paths things) ++ names_of [])
  pub standing : IsStandingAbove t root (bytes_if_any ways.standing)

-- Nothing hinders a request that salvages these things into the folder, loses no names that are no paths and puts nothing beside a path.
abbrev pub NothingHinders : Image → List ℕ → List Thing → Type 0
NothingHinders t root things = (r : Request) (a : Aside) → a.root ≡ root → ((q : List ℕ) → listed (thing_paths things) q ≡ salvaged r t q)
    → IsFirstPath (loses_foreign r t a.emptied) None → IsFirstPath (λ p. has_long_side r t a p (side_at r t p)) None → (p : List ℕ) → IsFalse (is_unmovable r t a p)

-- The record of the history stands with this text.
abbrev pub stands_as : List ℕ → Image → Bool
stands_as text t = holds_content is_payload_of (Own text) (t.look history_path)

-- the text that is put, unless it stands
abbrev pub put_unless : Bool → List ℕ → Option (List ℕ)
put_unless true text = None
put_unless false text = Some text
