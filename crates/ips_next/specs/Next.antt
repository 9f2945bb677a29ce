-- The state that a command leads to, and why it leads to none.
use Rattle.std.specs.Prelude.{◌≡◌, ◌⊎◌, ℕ, Bool, true, false, List, ◌∷◌, ◌++◌, map, Option, Some, None, is_some}
use Rattle.ips_outside.specs.Image.{Image}
use Rattle.ips_manifest.specs.declared.line.Line.{Line}
use Rattle.ips_index.specs.Rows.{IndexedValue}
use Rattle.ips_index.specs.Scan.{IsScan, Scanned}
use Rattle.ips_index.specs.Text.{AreIndexRows}
use Rattle.ips_moment.specs.Moment.{IsMomentText}
use Rattle.ips_state.specs.State.{Installed, Recorded}
use Rattle.ips_state.specs.Text.{versioned_stem}
use Rattle.ips_state.specs.Records.{with_line}
use Rattle.ips_words.specs.declared.command.Command.{Command}
use Rattle.ips_words.specs.declared.what.What.{What}
use Rattle.ips_words.specs.declared.what.What.TheVariants.{UpdateFormat, RebuildIndex, Search}
use Rattle.ips_asked.specs.Asked.{IsAskedBy}
use Rattle.ips_asked.specs.Requested.{kind_asked}
use Rattle.ips_next.specs.Decided.{IsDecided, IsUndecided, looks}
use Rattle.ips_next.specs.declared.fault.NextFault.{NextFault}
use Rattle.ips_next.specs.declared.fault.NextFault.TheVariants.{OldFormat, NoRepository, BadCatalog, NoMatch, Ambiguous, ManifestMissing, BadManifest, BadDepend, TooLarge, NoSolution, SearchSpent, NothingToDo, SourceFault}

-- What a command is given: the records of the image, what is to be done, its words as the history keeps them, the moment, and what
-- the source holds.
pub record Given : Type 0 where
  pub old : Recorded
  pub what : What
  pub words : List ℕ
  pub moment : ℕ
  pub held : Image

-- what a command is given
abbrev pub given : Recorded → Command → ℕ → Image → Given
given old c moment held = record { old = old; what = c.what; words = c.history; moment = moment; held = held }

-- ---- what is asked

-- The records are of the first format, and the command doesn't move them to the second.
pub record IsOldFormat (w : What) (format : ℕ) : Type 0 where
  pub first : format ≡ 1
  pub stays : w ≡ UpdateFormat → ⊥

-- The command is carried out on records of the second format, or moves them to it; and these are the records that it asks for.
pub record Asks (g : Given) (asked : Recorded) : Type 0 where
  pub format : (g.old.format ≡ 2) ⊎ (g.what ≡ UpdateFormat)
  pub is_asked : IsAskedBy g.what g.old asked

-- the command is a search, which has no line in the history
abbrev pub searches : What → Bool
searches (Search pattern) = true
searches w = false

-- ---- the new state

-- an index is due: the image has one, or the command makes it
abbrev pub is_index_due : What → Bool → Bool
is_index_due RebuildIndex has = true
is_index_due w has = has

-- what an index scans of a package
abbrev pub scanned_of : Installed → Scanned
scanned_of p = record { stem = p.stem; actions = map (λ (l : Line). l.action) p.lines }

-- The rows are those of an index of the packages.
pub record IsIndexOf (packages : List Installed) (rows : List IndexedValue) : Type 0 where
  pub scan : IsScan (map scanned_of packages) rows
  pub each : AreIndexRows rows

-- There is an index of the packages where one is due, and else none.
abbrev pub IsIndexed : Bool → List Installed → Option (List IndexedValue) → Type 0
IsIndexed true packages None = ⊥
IsIndexed true packages (Some rows) = IsIndexOf packages rows
IsIndexed false packages index = index ≡ None

-- The state that is meant, before its history: the chosen packages with their avoided stems and their index, and else what is asked.
pub record IsSettled (g : Given) (asked s : Recorded) : Type 0 where
  pub asks : Asks g asked
  pub decided : IsDecided g.what g.old asked g.held s.installed s.avoid
  pub index : IsIndexed (is_index_due g.what (is_some g.old.index)) s.installed s.index
  pub rest : s ≡ record asked { installed = s.installed; avoid = s.avoid; index = s.index }

-- Nothing that a command may change differs: selection, settings, avoided stems, freezes, mediators, origins, format, index.
pub record IsUnchanged (old new : Recorded) : Type 0 where
  pub selection : map versioned_stem new.installed ≡ map versioned_stem old.installed
  pub settings : new.settings ≡ old.settings
  pub avoid : new.avoid ≡ old.avoid
  pub freeze : new.freeze ≡ old.freeze
  pub mediators : new.mediators ≡ old.mediators
  pub origins : new.origins ≡ old.origins
  pub format : new.format ≡ old.format
  pub index : new.index ≡ old.index

-- The line of a command in the history: its moment, a blank, and its words.
abbrev pub IsLineOf : ℕ → List ℕ → List ℕ → Type 0
IsLineOf moment words line = (text : List ℕ) × IsMomentText moment text × (line ≡ text ++ 32 ∷ words)

-- The state that the command leads to: what is meant differs from the old state, and its history is the old one with the command's
-- line behind it, of which the last 1,000 are kept.
pub record IsNext (g : Given) (new : Recorded) : Type 0 where
  pub asked : Recorded
  pub settled : Recorded
  pub is_settled : IsSettled g asked settled
  pub changed : IsUnchanged g.old settled → ⊥
  pub line : List ℕ
  pub is_line : IsLineOf g.moment g.words line
  pub is : new ≡ record settled { history = with_line settled.history line }

-- ---- no new state

-- What the command means is the old state.
pub record ChangesNothing (g : Given) : Type 0 where
  pub asked : Recorded
  pub settled : Recorded
  pub is_settled : IsSettled g asked settled
  pub unchanged : IsUnchanged g.old settled

-- No packages are chosen for what the command asks, for this cause.
pub record IsRefused (g : Given) (why : NextFault) : Type 0 where
  pub asked : Recorded
  pub asks : Asks g asked
  pub undecided : IsUndecided g.what g.old asked g.held why

-- Each fault comes under its cause, in this order: the format, then what hinders the choice, then that nothing is to be done. A call
-- that failed may come at any time of a command that looks for versions.
abbrev pub ComesNext : Given → NextFault → Type 0
ComesNext g OldFormat = IsOldFormat g.what g.old.format
ComesNext g NoRepository = IsRefused g NoRepository
ComesNext g (BadCatalog fault) = IsRefused g (BadCatalog fault)
ComesNext g (NoMatch pattern) = IsRefused g (NoMatch pattern)
ComesNext g (Ambiguous pattern stems) = IsRefused g (Ambiguous pattern stems)
ComesNext g (ManifestMissing fmri) = IsRefused g (ManifestMissing fmri)
ComesNext g (BadManifest fmri fault) = IsRefused g (BadManifest fmri fault)
ComesNext g (BadDepend fmri line) = IsRefused g (BadDepend fmri line)
ComesNext g (TooLarge which count) = IsRefused g (TooLarge which count)
ComesNext g (NoSolution stems refutation) = IsRefused g (NoSolution stems refutation)
ComesNext g (SearchSpent limit) = IsRefused g (SearchSpent limit)
ComesNext g NothingToDo = ChangesNothing g
ComesNext g SourceFault = looks (kind_asked g.what) ≡ true
