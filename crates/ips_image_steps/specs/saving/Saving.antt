-- What is saved, path by path, and its steps.
use Rattle.std.specs.Prelude.{◌≡◌, ℕ, false, cond, ◌||◌, IsTrue, IsFalse, List, [], ◌∷◌, ◌++◌, map, Option, Some, None}
use Rattle.std.specs.List.{AllByRecursion, flat_map}
use Rattle.std.specs.Map.{lookup}
use Rattle.std.specs.Option.{option_map}
use Rattle.std.specs.BTreeMap.{BTreeMap}
use Rattle.std.specs.declared.vec.Vec.{Vec}
use Rattle.std.specs.declared.alloc.Global.{Global}
use Rattle.ips_text.specs.Ancestry.{same_path}
use Rattle.ips_action.specs.Attrs.{is_same}
use Rattle.ips_outside.specs.Image.{Dir, Entry, File, Image, Link, Other, is_file}
use Rattle.ips_digest.specs.Name.{spelling}
use Rattle.ips_steps.specs.Private.{is_private}
use Rattle.ips_after.specs.Change.{Kept}
use Rattle.ips_after.specs.Extra.{extra_or}
use Rattle.ips_after.specs.Request.{Request}
use Rattle.ips_after.specs.Salvage.{Aside, IsAsides, new_suffix, salvaged, side_at}
use Rattle.ips_change.specs.Told.{naming}
use Rattle.ips_found.specs.Found.{Found, FoundDir, FoundFile, FoundLink, FoundOther, found_told}
use Rattle.ips_found.specs.declared.found.Thing.{Thing}
use Rattle.ips_movable.specs.Movable.{can_be_made}
use Rattle.ips_aside.specs.declared.sides.side.Put.{Put}
use Rattle.ips_aside.specs.declared.sides.side.Put.TheVariants.{Legacy, New, Old}
use Rattle.ips_aside.specs.declared.sides.side.Side.{Side}
use Rattle.ips_aside.specs.declared.sides.side.SideName.{SideName}
use Rattle.ips_aside.specs.declared.sides.side.SideName.TheVariants as name
use Rattle.ips_aside.specs.sides.Sides.{has_side, side_put}
use Rattle.ips_aside.specs.declared.lost.LostName.{LostName}
use Rattle.ips_aside.specs.declared.ways.Ways.{Ways}
use Rattle.ips_aside.specs.Lost.{in_folder}
use Rattle.ips_aside.specs.Ways.{is_standing, bytes_if_any}
use Rattle.ips_emit.specs.declared.emitting.Emitted.{Emitted}
use Rattle.ips_emit.specs.Emitted.{FromFile, FromPayload, IsEmitted, OwnBytes, Provenance, Turn, bytes_at}
use Rattle.ips_image_steps.specs.draft.Drafting.{turns_saving}
use Rattle.ips_image_steps.specs.declared.saving.saved.Saved.{Saved as Told}
use Rattle.ips_image_steps.specs.declared.saving.saved.Saved.TheVariants as told

-- What is saved at a path: a thing, by its path and what was found there, a file that is put beside a path, or a directory on the way.
pub data Saved : Type 0 where
  SavedThing : List ℕ → Found → Saved
  SavedBeside : List ℕ → Put → Saved
  SavedWay : Saved

-- what is saved, as a call tells it
abbrev pub saved_told : Told → Saved
saved_told (told.Thing x) = SavedThing x.now.path.bytes (found_told x.now.found)
saved_told (told.Beside p put) = SavedBeside p.now.bytes put
saved_told told.Way = SavedWay

-- what a map has under a path
abbrev pub saved_at : BTreeMap (Vec ℕ Global) Told → List ℕ → Option Saved
saved_at saved q = option_map saved_told (lookup (λ k. is_same q k.items) saved.entries)

-- A path with what is to be saved there.
abbrev pub Placing : Type 0
Placing = List ℕ × Saved

-- what the last of these has for a path, or else this
abbrev pub last_at : List Placing → List ℕ → Option Saved → Option Saved
last_at [] q before = before
last_at (x ∷ placings) q before = last_at placings q (cond (same_path x.0 q) (Some x.1) before)

-- a directory at the path, where it is missing
abbrev pub way_at : Option (List ℕ) → List ℕ → List Placing
way_at standing p = cond (is_standing standing p) [] ((p, SavedWay) ∷ [])

-- the same of a path that is marked
abbrev pub way_placed : Option (List ℕ) → Vec ℕ Global → List Placing
way_placed standing k = way_at standing k.items

-- what is put beside the path at its name there, where that can be used
abbrev pub named_placed : Side → SideName → List Placing
named_placed s (name.Free path) = (path.bytes, SavedBeside s.path.now.bytes s.put) ∷ []
named_placed s name.Lost = []
named_placed s name.TooLong = []

-- the same of a file that is put beside a path
abbrev pub side_placed : Side → List Placing
side_placed s = named_placed s s.name

-- a file at its name in the salvage folder
abbrev pub name_placed : LostName → List Placing
name_placed x = (x.name.items, SavedBeside x.path.now.bytes x.put) ∷ []

-- a thing at its path in the salvage folder
abbrev pub thing_placed : List ℕ → Thing → List Placing
thing_placed root x = (in_folder root x.path.bytes, SavedThing x.path.bytes (found_told x.found)) ∷ []

-- all that is saved: the directories on the way, the files beside paths, those in the salvage folder, and the things
abbrev pub all_placed : List ℕ → List Thing → List Side → List LostName → Ways → List Placing
all_placed root things sides names ways =
    flat_map (way_placed (bytes_if_any ways.standing)) ways.above.keys ++ ((flat_map side_placed sides ++ flat_map name_placed names) ++ flat_map (thing_placed root) things)

-- what was found at a path, as it is in the salvage folder
abbrev pub found_entry : Image → List ℕ → Found → Entry
found_entry t p (FoundDir m f) = Dir m false
found_entry t p (FoundFile m) = File m (bytes_at t p)
found_entry t p (FoundLink g) = Link g
found_entry t p FoundOther = Other

-- the file that is put beside a path
abbrev pub put_entry : (List ℕ → List ℕ) → Image → List ℕ → Put → Entry
put_entry bytes t p put = (side_put bytes (bytes_at t p) put).entry

-- The entry that is made, by the bytes of each payload and by what stands in the image.
abbrev pub entry_saved : (List ℕ → List ℕ) → Image → Saved → Entry
entry_saved bytes t (SavedThing p found) = found_entry t p found
entry_saved bytes t (SavedBeside p put) = put_entry bytes t p put
entry_saved bytes t SavedWay = Dir 493 false

-- where the content of what was found at a path comes from, if it has one: the file that stands there
abbrev pub provenances_found : List ℕ → Found → List Provenance
provenances_found p (FoundDir m f) = []
provenances_found p (FoundFile m) = FromFile p ∷ []
provenances_found p (FoundLink g) = []
provenances_found p FoundOther = []

-- where the content of a file that is put beside a path comes from: the file that stands there, or a payload
abbrev pub provenances_put : List ℕ → Put → List Provenance
provenances_put p (Old mode) = FromFile p ∷ []
provenances_put p (Legacy mode) = FromFile p ∷ []
provenances_put p (New payload mode) = FromPayload (spelling payload.now) ∷ []

-- Where the content of what is saved comes from, if it has one.
abbrev pub provenances_saved : Saved → List Provenance
provenances_saved (SavedThing p found) = provenances_found p found
provenances_saved (SavedBeside p put) = provenances_put p put
provenances_saved SavedWay = []

-- the same where something is saved or nothing
abbrev pub provenances_if : Option Saved → List Provenance
provenances_if (Some what) = provenances_saved what
provenances_if None = []

-- these paths with what is saved at each
abbrev pub turns_at : (List ℕ → List ℕ) → Image → BTreeMap (Vec ℕ Global) Told → List (List ℕ) → List Turn
turns_at bytes t saved paths = map (λ p. (p, extra_or (option_map (entry_saved bytes t) (saved_at saved p)) Kept)) paths

-- where the contents of what is saved at these paths come from
abbrev pub provenances_at : BTreeMap (Vec ℕ Global) Told → List (List ℕ) → List Provenance
provenances_at saved paths = flat_map (λ p. provenances_if (saved_at saved p)) paths

-- the paths of a map
abbrev pub saved_paths : BTreeMap (Vec ℕ Global) Told → List (List ℕ)
saved_paths saved = map (λ e. e.0.items) saved.entries

-- a step can make what is saved
abbrev pub CanBeMade : Saved → Type 0
CanBeMade (SavedThing p found) = IsTrue (can_be_made found)
CanBeMade (SavedBeside p put) = Unit {0}
CanBeMade SavedWay = Unit {0}

-- a payload that is put beside a path
pub record IsPayloadBeside (r : Request) (t : Image) (payload : List ℕ) : Type 0 where
  pub path : List ℕ
  pub mode : ℕ
  pub is : side_at r t path ≡ Some (record { suffix = new_suffix; entry = File mode (r.bytes payload) })

-- A content that is saved is that of a file which is salvaged or beside which it is put, or a payload that is put beside a path.
abbrev pub IsSavedFrom : Request → Image → Provenance → Type 0
IsSavedFrom r t (FromPayload payload) = IsPayloadBeside r t payload
IsSavedFrom r t (OwnBytes b) = ⊥
IsSavedFrom r t (FromFile p) = IsTrue (is_file (t.look p)) × IsTrue (salvaged r t p || has_side r t p)

-- A content that is taken from the image is that of a file which is seen there.
abbrev pub IsFileSeen : Image → Provenance → Type 0
IsFileSeen t (FromPayload payload) = Unit {0}
IsFileSeen t (OwnBytes b) = Unit {0}
IsFileSeen t (FromFile p) = IsTrue (is_file (t.look p)) × IsFalse (is_private p)

-- Behind these paths with what becomes of each come those at which something is saved, by their bytes, each with what is saved there, whose
-- contents come from there.
pub record AddsSaved (r : Request) (t : Image) (a : Aside) (turns : List Turn) (provenances : List Provenance) (new : Emitted) : Type 0 where
  pub asides : List (List ℕ)
  pub are : IsAsides (naming r) t a asides
  pub more : List Provenance
  pub steps : IsEmitted r.bytes t (turns ++ turns_saving r t a asides) (provenances ++ more) new
  pub sources : AllByRecursion (IsSavedFrom (naming r) t) more
