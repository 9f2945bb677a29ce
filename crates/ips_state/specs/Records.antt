-- The files that a state is recorded in.
use Rattle.std.specs.Prelude.{◌≡◌, ℕ, ◌-◌, Bool, true, false, not, ◌==◌, List, [], ◌∷◌, ◌++◌, map, filter, length, drop, Option, Some, None, codes}
use Rattle.std.specs.List.{list_any}
use Rattle.std.specs.List.Sorted.{IsPermutation}
use Rattle.std.specs.Str.{bytes_eq}
use Rattle.ips_text.specs.Quote.{quoted}
use Rattle.ips_manifest.specs.Manifest.{manifest_text}
use Rattle.ips_index.specs.Rows.{IndexedValue, index_text}
use Rattle.ips_state.specs.declared.state.Record.{Record}
use Rattle.ips_state.specs.State.{Installed, Recorded, head_of, Ascend}
use Rattle.ips_records.specs.Lines.{lines_text}
use Rattle.ips_state.specs.Text.{head_lines, versioned_stem, name_lines, mediator_line, package_text}

-- ---- where they stand

-- What the image is by itself.
abbrev pub image_path : List ℕ
image_path = codes "var/pkg/image"

-- The list of installed packages, in format 1.
abbrev pub installed_path : List ℕ
installed_path = codes "var/pkg/installed"

-- The stems that are avoided.
abbrev pub avoid_path : List ℕ
avoid_path = codes "var/pkg/avoid"

-- The stems that are kept at a version.
abbrev pub freeze_path : List ℕ
freeze_path = codes "var/pkg/freeze"

-- What is set of mediators.
abbrev pub mediators_path : List ℕ
mediators_path = codes "var/pkg/mediators"

-- The requests that were carried out.
abbrev pub history_path : List ℕ
history_path = codes "var/pkg/history"

-- The index, where the image has one.
abbrev pub index_path : List ℕ
index_path = codes "var/pkg/index"

-- The folder of the manifests, in format 1.
abbrev pub manifests_path : List ℕ
manifests_path = codes "var/pkg/manifests"

-- The folder of the packages, in format 2.
abbrev pub packages_path : List ℕ
packages_path = codes "var/pkg/packages"

-- The manifest of an installed stem, in format 1.
abbrev pub manifest_path : List ℕ → List ℕ
manifest_path stem = manifests_path ++ 47 ∷ quoted stem

-- The record of an installed stem, in format 2.
abbrev pub package_path : List ℕ → List ℕ
package_path stem = packages_path ++ 47 ∷ quoted stem

-- ---- what they hold

-- A record: the path of its file, and the file's bytes.
abbrev pub RecordFile : Type 0
RecordFile = List ℕ × List ℕ

-- A record in memory.
abbrev pub entry_of : Record → RecordFile
entry_of r = (r.path.bytes, r.bytes.items)

-- The record of the index, where there is one.
abbrev pub index_records : Option (List IndexedValue) → List RecordFile
index_records None = []
index_records (Some rows) = (index_path, index_text rows) ∷ []

-- The records that both formats have.
abbrev pub common_records : Recorded → List RecordFile
common_records r = (image_path, lines_text (head_lines (head_of r))) ∷ (avoid_path, lines_text r.avoid) ∷ (freeze_path, lines_text (name_lines r.freeze))
    ∷ (mediators_path, lines_text (map mediator_line r.mediators)) ∷ (history_path, lines_text r.history) ∷ index_records r.index

-- The installed packages in format 1: a list of them, and a manifest each.
abbrev pub listed_records : List Installed → List RecordFile
listed_records packages = (installed_path, lines_text (name_lines (map versioned_stem packages))) ∷ map (λ p. (manifest_path p.stem, manifest_text p.lines)) packages

-- The installed packages in format 2: a record each.
abbrev pub package_records : List Installed → List RecordFile
package_records packages = map (λ p. (package_path p.stem, package_text p.version p.lines)) packages

-- The installed packages in the format that the flag tells: the first, or the second.
abbrev pub records_by : Bool → List Installed → List RecordFile
records_by true packages = listed_records packages
records_by false packages = package_records packages

-- The records of a state, in no order.
abbrev pub records_of : Recorded → List RecordFile
records_of r = common_records r ++ records_by (r.format == 1) r.installed

-- These are the records of the state, by the bytes of their paths.
pub record AreRecords (r : Recorded) (entries : List RecordFile) : Type 0 where
  pub due : IsPermutation (records_of r) entries
  pub order : Ascend (map (λ e. e.0) entries)

-- ---- what a change of the state takes away

-- The stems that the new list lacks.
abbrev pub gone_stems : List Installed → List Installed → List (List ℕ)
gone_stems old new = filter (λ stem. not (list_any (λ p. bytes_eq stem p.stem) new)) (map (λ p. p.stem) old)

-- Where the record of a package stands, in the format that the flag tells.
abbrev pub package_place : Bool → List ℕ → List ℕ
package_place true stem = manifest_path stem
package_place false stem = package_path stem

-- What is taken away with all below it: the record of each package that is gone, or the list and the folder of format 1, where format 2
-- comes in its place. The first flag tells that the old format is 1, the second that the new one is.
abbrev pub taken_by : Bool → Bool → List Installed → List Installed → List (List ℕ)
taken_by true true old new = map manifest_path (gone_stems old new)
taken_by true false old new = installed_path ∷ manifests_path ∷ []
taken_by false true old new = []
taken_by false false old new = map package_path (gone_stems old new)

-- The paths that a change from the old state to the new one takes away with all below them, in no order.
abbrev pub taken_away : Recorded → Recorded → List (List ℕ)
taken_away old new = taken_by (old.format == 1) (new.format == 1) old.installed new.installed

-- ---- the history

-- The lines that the history keeps: the last 1,000.
abbrev pub kept : List (List ℕ) → List (List ℕ)
kept lines = drop (length lines - 1000) lines

-- The history behind one more request.
abbrev pub with_line : List (List ℕ) → List ℕ → List (List ℕ)
with_line history line = kept (history ++ line ∷ [])
