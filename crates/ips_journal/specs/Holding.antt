-- What a reader keeps, and what it means.
use Rattle.std.specs.Prelude.{◌≡◌, ℕ, ◌+◌, ◌-◌, ◌^◌, ◌<◌, ◌≤◌, min, true, IsTrue, List, [], ◌∷◌, ◌++◌, length, drop, Option, Some, None, Result, Ok, Err}
use Rattle.ips_steps.specs.Steps.{Step, Gone, Fresh, Mode, Put, Symlink, Hard}
use Rattle.ips_steps.specs.Journal.{IsJournal, IsProper, step_allowed, numbered}
use Rattle.ips_steps.specs.View.{step_of}
use Rattle.ips_steps.specs.declared.step.Step as program
use Rattle.ips_steps.specs.declared.step.Step.TheVariants as step
use Rattle.ips_steps.specs.declared.step.Sort.{Sort}
use Rattle.ips_steps.specs.declared.step.Sort.TheVariants as sort
use Rattle.ips_journal.specs.Text.{head_line, line, headed, journal_text, step_line}
use Rattle.ips_journal.specs.Line.{ComeFirst}
use Rattle.ips_journal.specs.Reading.{ReaderState, Stands, IsJournalFault, TellsNext, puts_in, text_from, parent_in, stage_in}
use Rattle.ips_journal.specs.declared.parts.Parts.{Parts}
use Rattle.ips_journal.specs.declared.held.Left.{Left}
use Rattle.ips_journal.specs.declared.held.Left.TheVariants.{OfPath, OfLink, OfHard}
use Rattle.ips_journal.specs.declared.held.Held.{Held}
use Rattle.ips_journal.specs.declared.held.Held.TheVariants.{Spare, Lent, Moving}
use Rattle.ips_journal.specs.declared.cursor.Cursor.{Cursor}
use Rattle.ips_journal.specs.declared.beside.Beside.{Beside}
use Rattle.ips_journal.specs.declared.fault.StepFault.{StepFault}
use Rattle.ips_journal.specs.declared.fault.StepFault.TheVariants.{BadJournal, FolderFault}

-- each part has room for whatever a line can say
abbrev pub HaveRoom : Parts → Type 0
HaveRoom parts = (1023 ≤ parts.path.room) × (1023 ≤ parts.to.room) × (4095 ≤ parts.target.room)

-- the step of this sort that the parts make
abbrev pub step_by : Sort → Parts → Step
step_by sort.Gone parts = Gone parts.path.bytes
step_by sort.Fresh parts = Fresh parts.mode parts.path.bytes
step_by sort.Mode parts = Mode parts.mode parts.path.bytes
step_by sort.Put parts = Put parts.stage parts.mode parts.path.bytes
step_by sort.Link parts = Symlink parts.path.bytes parts.target.bytes
step_by sort.Hard parts = Hard parts.path.bytes parts.to.bytes

-- the number of its content is below 2^64
abbrev pub IsNumberSmall : Step → Type 0
IsNumberSmall (Gone p) = Unit {0}
IsNumberSmall (Fresh m p) = Unit {0}
IsNumberSmall (Mode m p) = Unit {0}
IsNumberSmall (Put n m p) = n < 2 ^ 64
IsNumberSmall (Symlink p target) = Unit {0}
IsNumberSmall (Hard p to) = Unit {0}

-- the step has left this, and all of it has room
abbrev pub Fits : program.Step → Left → Type 0
Fits (step.Gone path) (OfPath to target) = (1023 ≤ path.room) × (1023 ≤ to.room) × (4095 ≤ target.room)
Fits (step.Fresh path mode) (OfPath to target) = (1023 ≤ path.room) × (1023 ≤ to.room) × (4095 ≤ target.room)
Fits (step.Mode path mode) (OfPath to target) = (1023 ≤ path.room) × (1023 ≤ to.room) × (4095 ≤ target.room)
Fits (step.Put path mode stage) (OfPath to target) = (1023 ≤ path.room) × (1023 ≤ to.room) × (4095 ≤ target.room)
Fits (step.Link path target) (OfLink to) = (1023 ≤ path.room) × (1023 ≤ to.room) × (4095 ≤ target.room)
Fits (step.Hard path to) (OfHard target) = (1023 ≤ path.room) × (1023 ≤ to.room) × (4095 ≤ target.room)
Fits _ _ = ⊥

-- the step has proper parts, and may name its paths
abbrev pub IsSafe : Step → Type 0
IsSafe s = IsProper s × IsTrue (step_allowed s)

-- a step that is lent is a safe one
abbrev pub IsReady : Held → Type 0
IsReady (Spare parts) = HaveRoom parts
IsReady (Lent step left) = Fits step left × IsSafe (step_of step)
IsReady Moving = ⊥

-- the step that is lent
abbrev pub step_in : Held → Option Step
step_in (Spare parts) = None
step_in (Lent step left) = Some (step_of step)
step_in Moving = None

-- these are the bytes, where there are any
abbrev pub IsNamed : Option (List ℕ) → List ℕ → Type 0
IsNamed (Some name) bytes = bytes ≡ name
IsNamed None bytes = Unit {0}

-- both paths beside the step have room
abbrev pub HasPlace : Beside → Type 0
HasPlace beside = (1023 ≤ beside.above.room) × (1023 ≤ beside.file.room)

-- The reader is ready, and the paths beside the step that it lends are that step's.
pub record IsReader (held : Held) (beside : Beside) : Type 0 where
  pub ready : IsReady held
  pub room : HasPlace beside
  pub above : IsNamed (parent_in (step_in held)) beside.above.bytes
  pub file : IsNamed (stage_in (step_in held)) beside.file.bytes

-- the step that was found, made of the parts
abbrev pub found_step : Result (Option Sort) StepFault → Parts → Option Step
found_step (Ok (Some sort)) parts = Some (step_by sort parts)
found_step (Ok None) parts = None
found_step (Err fault) parts = None

-- where a cursor stands, with the step that is lent
abbrev pub seen : Cursor → Option Step → ReaderState
seen c s = record { place = c.place; steps = c.steps; puts = c.puts; ahead = c.ahead; line = c.line; is_open = c.is_open; step = s }

-- the cursor stands at the front
pub record IsFresh (c : Cursor) : Type 0 where
  pub place : c.place ≡ 0
  pub steps : c.steps ≡ 0
  pub puts : c.puts ≡ 0
  pub ahead : c.ahead ≡ []
  pub line : c.line ≡ 0
  pub is_open : c.is_open ≡ true

-- The first line lies behind this place of the text, whose length is the size of a file, and these bytes come first there.
pub record IsHeaded (text : List ℕ) (place : ℕ) (bytes : List ℕ) : Type 0 where
  pub parts : text ≡ line head_line (drop place text)
  pub within : place ≤ length text
  pub small : length text < 2 ^ 64
  pub ahead : ComeFirst bytes (drop place text)

-- The first line and those of the steps of the front lie behind the cursor, in a text whose length is the size of a file.
abbrev pub IsBehindHead : List ℕ → List Step → Cursor → Type 0
IsBehindHead text front c = Stands (headed front) text front (seen c None) × (length text < 2 ^ 64)

-- the same count of steps and contents
pub record SameCounts (old new : Cursor) : Type 0 where
  pub steps : new.steps ≡ old.steps
  pub puts : new.puts ≡ old.puts
  pub is_open : new.is_open ≡ old.is_open

-- the sum, or the greatest number of the type where it passes that
abbrev pub clipped : ℕ → ℕ → ℕ
clipped a b = min (a + b) (2 ^ 64 - 1)

-- The cursor has moved behind a line of so many bytes, which tells this step.
pub record IsMoved (s : Step) (count : ℕ) (old new : Cursor) : Type 0 where
  pub place : new.place ≡ clipped old.place (count + 1)
  pub steps : new.steps ≡ clipped old.steps 1
  pub puts : new.puts ≡ clipped old.puts (puts_in (s ∷ []))
  pub ahead : new.ahead ≡ drop (count + 1) old.ahead
  pub line : new.line ≡ old.line
  pub is_open : new.is_open ≡ true

-- The cursor stands where it stood, before the same bytes.
pub record IsStill (old new : Cursor) : Type 0 where
  pub place : new.place ≡ old.place
  pub steps : new.steps ≡ old.steps
  pub puts : new.puts ≡ old.puts
  pub line : new.line ≡ old.line
  pub is_open : new.is_open ≡ old.is_open
  pub ahead : new.ahead ≡ old.ahead

-- a fault of the text tells this line, and the text goes on at the place
abbrev pub TellsMore : ℕ → ℕ → List ℕ → StepFault → Type 0
TellsMore number place text (BadJournal line) = (line ≡ number) × (place < length text)
TellsMore number place text FolderFault = Unit {0}

-- The bytes are the line of this step, which may stand where this number of contents was put.
pub record IsStepLine (bytes : List ℕ) (put : ℕ) (s : Step) : Type 0 where
  pub safe : IsSafe s
  pub number : IsTrue (numbered put (s ∷ []))
  pub spelled : bytes ≡ step_line s

-- a fault of the text tells its first bad line, which comes next behind these steps
abbrev pub IsNextFault : List ℕ → List Step → StepFault → Type 0
IsNextFault text front fault = IsJournalFault text fault × TellsNext text front fault

-- What reading on means where the steps of the front were read: a step of the parts, the end, or a bad line.
abbrev pub ReadMeans : List ℕ → List Step → Cursor → Parts → Result (Option Sort) StepFault → Type 0
ReadMeans text front new parts (Ok (Some sort)) = Stands (text_from (front ++ step_by sort parts ∷ [])) text (front ++ step_by sort parts ∷ []) (seen new None)
ReadMeans text front new parts (Ok None) = IsJournal front × (text ≡ journal_text front)
ReadMeans text front new parts (Err fault) = IsNextFault text front fault
