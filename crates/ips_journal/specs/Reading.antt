-- How far a reader of a journal has come, and what its answers mean.
use Rattle.std.specs.Prelude.{◌≡◌, ◌⊎◌, ℕ, ◌+◌, ◌^◌, ◌<◌, ◌≤◌, Bool, true, false, IsTrue, List, [], ◌∷◌, ◌++◌, length, drop, Option, Some, None, Result, Ok, Err}
use Rattle.ips_text.specs.Ancestry.{parent}
use Rattle.ips_outside.specs.Image.{Image}
use Rattle.ips_outside.specs.Outside.{readable}
use Rattle.ips_steps.specs.Steps.{Step, Gone, Fresh, Mode, Put, Symlink, Hard, path_of, stage_path}
use Rattle.ips_steps.specs.Private.{journal_name}
use Rattle.ips_steps.specs.Journal.{IsJournal}
use Rattle.ips_journal.specs.Text.{headed, journal_text}
use Rattle.ips_journal.specs.Line.{ComeFirst}
use Rattle.ips_journal.specs.Bad.{GoesOn, IsBadLine}
use Rattle.ips_journal.specs.declared.fault.StepFault.{StepFault}
use Rattle.ips_journal.specs.declared.fault.StepFault.TheVariants.{BadJournal, FolderFault}

-- The state of a reader: bytes, steps and contents behind it; the bytes before it that it holds already; the number and the
-- step of the line that it read last, or the faulty one's number. It is open until it meets the end or a fault.
pub record ReaderState : Type 0 where
  pub place : ℕ
  pub steps : ℕ
  pub puts : ℕ
  pub ahead : List ℕ
  pub line : ℕ
  pub is_open : Bool
  pub step : Option Step

-- how many of the steps put a content
abbrev pub puts_in : List Step → ℕ
puts_in [] = 0
puts_in (Gone p ∷ rest) = puts_in rest
puts_in (Fresh m p ∷ rest) = puts_in rest
puts_in (Mode m p ∷ rest) = puts_in rest
puts_in (Put n m p ∷ rest) = 1 + puts_in rest
puts_in (Symlink p target ∷ rest) = puts_in rest
puts_in (Hard p to ∷ rest) = puts_in rest

-- the text of which a reader has read these steps, by what lies before it: the first line is read with the first step
abbrev pub text_from : List Step → List ℕ → List ℕ
text_from [] rest = rest
text_from (s ∷ front) rest = headed (s ∷ front) rest

-- The reader has read these steps, which a journal can list; `before` makes the text of what lies before the reader.
pub record Stands (before : List ℕ → List ℕ) (text : List ℕ) (front : List Step) (r : ReaderState) : Type 0 where
  pub listed : IsJournal front
  pub steps : r.steps ≡ length front
  pub puts : r.puts ≡ puts_in front
  pub line : 0 < r.steps → r.line ≡ r.steps + 1
  pub place : r.place ≤ length text
  pub begins : text ≡ before (drop r.place text)
  pub ahead : ComeFirst r.ahead (drop r.place text)
  -- the sizes of files are below 2^64
  pub small : 0 < r.steps → length text < 2 ^ 64

-- The reader has read just these steps of this text, and neither its end nor a fault.
abbrev pub IsAt : List ℕ → List Step → ReaderState → Type 0
IsAt text front r = IsTrue r.is_open × Stands (text_from front) text front r

-- the text of the journal that an image holds: the bytes of the file at its place, none where no file stands
abbrev pub journal_of : Image → List ℕ
journal_of t = readable (t.look journal_name)

-- a fault of the text tells the first line that isn't of the grammar
abbrev pub IsJournalFault : List ℕ → StepFault → Type 0
IsJournalFault text (BadJournal line) = IsBadLine text line
IsJournalFault text FolderFault = Unit {0}

-- What `next` answers behind the steps of the front: true, with one more step; false, where the text is the journal of the
-- front; or a fault, with the first line that isn't of the grammar.
abbrev pub NextAnswers : List ℕ → List Step → ReaderState → Result Bool StepFault → Type 0
NextAnswers text front new (Ok true) = (s : Step) × IsAt text (front ++ s ∷ []) new × (new.step ≡ Some s)
NextAnswers text front new (Ok false) = IsJournal front × (text ≡ journal_text front)
NextAnswers text front new (Err fault) = IsJournalFault text fault

-- a fault of the text tells this line
abbrev pub TellsLine : ℕ → StepFault → Type 0
TellsLine number (BadJournal line) = line ≡ number
TellsLine number FolderFault = Unit {0}

-- the number of the line that comes next behind these steps: the first, where they are none; or that behind theirs; or, where
-- the text is their whole journal and goes on, that behind its last line
abbrev pub IsNextLine : List ℕ → List Step → ℕ → Type 0
IsNextLine text front line = ((front ≡ []) × (line ≡ 1)) ⊎ ((line ≡ length front + 2) ⊎ (GoesOn text (length front + 1) × (line ≡ length front + 3)))

-- a fault of the text tells the line that comes next
abbrev pub TellsNext : List ℕ → List Step → StepFault → Type 0
TellsNext text front (BadJournal line) = IsNextLine text front line
TellsNext text front FolderFault = Unit {0}

-- the step's path has this parent, if it has one
abbrev pub parent_in : Option Step → Option (List ℕ)
parent_in (Some s) = parent (path_of s)
parent_in None = None

-- the path of a content's file, where the step puts a content
abbrev pub stage_for : Step → Option (List ℕ)
stage_for (Gone p) = None
stage_for (Fresh m p) = None
stage_for (Mode m p) = None
stage_for (Put n m p) = Some (stage_path n)
stage_for (Symlink p target) = None
stage_for (Hard p to) = None

-- the same of the step that was read last
abbrev pub stage_in : Option Step → Option (List ℕ)
stage_in (Some s) = stage_for s
stage_in None = None
