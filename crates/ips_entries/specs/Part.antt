-- The records of a state, each by its part of it.
use Rattle.std.specs.Prelude.{ℕ, ◌+◌, ◌<◌, ◌==◌, Bool, true, false, List, [], ◌∷◌, ◌++◌, map, length, slice_get, Option, Some, None, is_some, IsTrue}
use Rattle.ips_manifest.specs.Manifest.{manifest_text}
use Rattle.ips_index.specs.Rows.{IndexedValue, index_text}
use Rattle.ips_records.specs.Lines.{lines_text}
use Rattle.ips_state.specs.State.{Installed, Recorded, head_of}
use Rattle.ips_state.specs.Text.{head_lines, versioned_stem, name_lines, mediator_line, package_text}
use Rattle.ips_state.specs.Records.{avoid_path, freeze_path, history_path, image_path, index_path, installed_path, mediators_path, package_place}
use Rattle.ips_entries.specs.declared.part.Part.{Part}
use Rattle.ips_entries.specs.declared.part.Part.TheVariants as part
use Rattle.ips_entries.specs.declared.part.Place.{Place}

-- The state has such a part: an index, or a package of that number.
abbrev pub HasPart : Recorded → Part → Type 0
HasPart r part.Index = IsTrue (is_some r.index)
HasPart r (part.Package n) = n < length r.installed
HasPart r other = Unit {0}

-- The text of an index, where there is one.
abbrev pub text_of_index : Option (List IndexedValue) → List ℕ
text_of_index None = []
text_of_index (Some rows) = index_text rows

-- The text of a package in the format that the flag tells: its manifest in the first, and its record in the second.
abbrev pub text_of_package : Bool → Option Installed → List ℕ
text_of_package first None = []
text_of_package true (Some p) = manifest_text p.lines
text_of_package false (Some p) = package_text p.version p.lines

-- What the record of a part holds.
abbrev pub record_text : Recorded → Part → List ℕ
record_text r part.Image = lines_text (head_lines (head_of r))
record_text r part.Installed = lines_text (name_lines (map versioned_stem r.installed))
record_text r part.Avoid = lines_text r.avoid
record_text r part.Freeze = lines_text (name_lines r.freeze)
record_text r part.Mediators = lines_text (map mediator_line r.mediators)
record_text r part.History = lines_text r.history
record_text r part.Index = text_of_index r.index
record_text r (part.Package n) = text_of_package (r.format == 1) (slice_get r.installed n)

-- The record of a part that stands at a place.
abbrev pub entry_at : Recorded → Place → List ℕ × List ℕ
entry_at r place = (place.path.bytes, record_text r place.part)

-- ---- where the records of a state stand

-- A path, and the part whose record stands there.
abbrev pub Owned : Type 0
Owned = List ℕ × Part

-- What a place shows.
abbrev pub owned : Place → Owned
owned place = (place.path.bytes, place.part)

-- The parts that each state has.
abbrev pub common_parts : List Owned
common_parts = (image_path, part.Image) ∷ (avoid_path, part.Avoid) ∷ (freeze_path, part.Freeze) ∷ (mediators_path, part.Mediators) ∷ (history_path, part.History) ∷ []

-- The part of an index, where there is one.
abbrev pub index_parts : Option (List IndexedValue) → List Owned
index_parts None = []
index_parts (Some rows) = (index_path, part.Index) ∷ []

-- The part of a package with this number, in the format that the flag tells.
abbrev pub owned_package : Bool → ℕ → Installed → Owned
owned_package first n p = (package_place first p.stem, part.Package n)

-- The parts of packages, of which the first has this number, in the format that the flag tells.
abbrev pub numbered : Bool → ℕ → List Installed → List Owned
numbered first n [] = []
numbered first n (p ∷ packages) = owned_package first n p ∷ numbered first (n + 1) packages

-- The parts of all packages, in the format that the flag tells: in the first they are also listed.
abbrev pub package_parts : Bool → List Installed → List Owned
package_parts true packages = (installed_path, part.Installed) ∷ numbered true 0 packages
package_parts false packages = numbered false 0 packages

-- The parts of a state, in no order.
abbrev pub parts_of : Recorded → List Owned
parts_of r = (common_parts ++ index_parts r.index) ++ package_parts (r.format == 1) r.installed
