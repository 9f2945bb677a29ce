-- What can be recovered, and how a recovery ends.
use Rattle.std.specs.Prelude.{◌≡◌, ◌≢◌, ◌⊎◌, ℕ, ◌+◌, ◌-◌, ◌*◌, ◌/◌, ◌<◌, ◌≤◌, IsTrue, List, ◌++◌, length, take, drop, Result, Ok, Err, None}
use Rattle.ips_text.specs.declared.refusal.Or.{Or}
use Rattle.ips_text.specs.declared.refusal.Or.TheVariants.{Bad, OutOfMemory}
use Rattle.ips_outside.specs.Image.{Image, Agrees}
use Rattle.ips_outside.specs.State.{State, MayLeave, nowhere}
use Rattle.ips_outside.specs.Outside.{Outside}
use Rattle.ips_steps.specs.Steps.{Step, after, feasible}
use Rattle.ips_steps.specs.Private.{gate_name, mark_front, mark_name, begins}
use Rattle.ips_steps.specs.Journal.{IsJournal}
use Rattle.ips_steps.specs.Owed.{AreMarks, steps_left, IsOpen}
use Rattle.ips_kinds.specs.Tallies.{Carrier, all_counted}
use Rattle.ips_journal.specs.Text.{journal_text}
use Rattle.ips_journal.specs.Bad.{IsBadLine}
use Rattle.ips_journal.specs.Reading.{ReaderState, IsAt, journal_of}
use Rattle.ips_journal.specs.declared.fault.StepFault.{StepFault}
use Rattle.ips_journal.specs.declared.fault.StepFault.TheVariants as step_fault
use Rattle.ips_apply.specs.Applied.{IsImpossible}
use Rattle.ips_commit.specs.Due.{IsSafelyOpen}
use Rattle.ips_commit.specs.Pending.{HasNoOtherMark, mark_names}
use Rattle.ips_commit.specs.Phases.{IsSeenBut}
use Rattle.ips_commit.specs.declared.fault.CommitFault.{CommitFault}
use Rattle.ips_commit.specs.declared.fault.CommitFault.TheVariants.{Unchanged, Unfinished, BadJournal}

-- So many marks stand, the first of them without a gap; the next doesn't, or they leave none of so many steps.
pub record AreCounted (t : Image) (total count : ℕ) : Type 0 where
  pub stand : (i : ℕ) → i < count → t.look (mark_name (i + 1)) ≢ None
  pub last : (t.look (mark_name (count + 1)) ≡ None) ⊎ (total ≤ 1000 * count)

-- The journal lists these steps, of which so many thousands are told by marks to be laid.
pub record IsJournalled (t : Image) (steps : List Step) (count : ℕ) : Type 0 where
  pub lists : IsJournal steps
  pub text_is : journal_of t ≡ journal_text steps
  pub marked : AreCounted t (length steps) count

-- The gate is opened over a journal that lists these steps: at a moment of these calls it is safely open, and no mark tells any of them to be
-- laid.
pub record IsOpenedOver {F : Type 0} (o : Outside F) (steps : List Step) (old new : F) : Type 0 where
  pub opened : F
  pub is_open : IsSafelyOpen (o.state opened)
  pub journal : IsJournalled (o.state opened).held steps 0
  pub since : o.clock old ≤ o.clock opened
  pub until : o.clock opened ≤ o.clock new

-- The journal lists these steps, and those that the marks leave can be laid.
pub record CanRollForward (t : Image) (steps : List Step) (count : ℕ) : Type 0 where
  pub is : IsJournalled t steps count
  pub can : IsTrue (feasible (steps_left count steps) t)

-- Of the steps that so many marks leave so many can be laid, and then the next can't; its line has this number. They are laid,
-- but for what stands at the names of marks, each counted by the first kind that takes it, and the gate stands open. A mark more
-- stands for each thousand of them, and no other.
pub record IsStuckAt (t u : Image) (before now : List Carrier) (steps : List Step) (count : ℕ) (line : ℕ) : Type 0 where
  pub laid : ℕ
  pub can : IsTrue (feasible (take laid (steps_left count steps)) t)
  pub next : IsImpossible (journal_of t) (take (1000 * count) steps ++ take laid (steps_left count steps)) (after (take laid (steps_left count steps)) t) line
  pub held : Agrees (begins mark_front) nowhere (after (take laid (steps_left count steps)) t) u
  pub gate : u.look gate_name ≢ None
  pub marked : AreMarks u (count + laid / 1000)
  pub others : HasNoOtherMark u (mark_names (count + laid / 1000))
  pub tallies : now ≡ all_counted (take laid (steps_left count steps)) before

-- The journal lists steps, and those that the marks leave are stuck.
pub record IsStuck (t u : Image) (before now : List Carrier) (line : ℕ) : Type 0 where
  pub steps : List Step
  pub count : ℕ
  pub is : IsJournalled t steps count
  pub at : IsStuckAt t u before now steps count line

-- why the journal behind an open gate can't be laid: that line is the first that isn't of the grammar, or that of the first
-- step that isn't possible
abbrev pub IsBadJournal : Image → Image → List Carrier → List Carrier → ℕ → Type 0
IsBadJournal t u before now line = IsBadLine (journal_of t) line ⊎ IsStuck t u before now line

-- a fact of the line that a fault of a recovery names
abbrev pub IfBadJournal : {T : Type 0} → Result T (Or CommitFault) → (ℕ → Type 0) → Type 0
IfBadJournal (Ok x) P = Unit {0}
IfBadJournal (Err (Bad Unchanged)) P = Unit {0}
IfBadJournal (Err (Bad Unfinished)) P = Unit {0}
IfBadJournal (Err (Bad (BadJournal line))) P = P line
IfBadJournal (Err OutOfMemory) P = Unit {0}

-- Errors of a recovery. Unchanged: an open gate is as it was. Unfinished: the gate was open. Bad journal: the gate was open,
-- and that line is bad; where it isn't of the grammar nothing was changed.
abbrev pub SaysOfRecovery : State → State → List Carrier → List Carrier → CommitFault → Type 0
SaysOfRecovery old new before now Unchanged = old.held.look gate_name ≢ None → new ≡ old
SaysOfRecovery old new before now Unfinished = old.held.look gate_name ≢ None
SaysOfRecovery old new before now (BadJournal line) = (old.held.look gate_name ≢ None) × IsBadJournal old.held new.held before now line × (IsBadLine (journal_of old.held) line → new ≡ old)

-- how reading a whole journal ends: it lists as many steps; or that line is the first that isn't of the grammar
abbrev pub ReadsWhole : List ℕ → Result ℕ StepFault → Type 0
ReadsWhole text (Ok count) = (steps : List Step) × IsJournal steps × (text ≡ journal_text steps) × (length steps ≡ count)
ReadsWhole text (Err (step_fault.BadJournal line)) = IsBadLine text line
ReadsWhole text (Err step_fault.FolderFault) = Unit {0}

-- The journal lists steps, and the reader stands behind those that so many marks tell to be laid.
pub record IsPlaced (t : Image) (r : ReaderState) (count : ℕ) : Type 0 where
  pub steps : List Step
  pub is : IsJournalled t steps count
  pub at : IsAt (journal_of t) (take (1000 * count) steps) r

-- what a fault before the first change says: a call failed; or that line is the first that isn't of the grammar
abbrev pub SaysOfText : List ℕ → CommitFault → Type 0
SaysOfText text Unchanged = Unit {0}
SaysOfText text Unfinished = ⊥
SaysOfText text (BadJournal line) = IsBadLine text line

-- the same of what was left: a line is bad only behind an open gate
abbrev pub SaysOfFinding : Image → CommitFault → Type 0
SaysOfFinding t Unchanged = Unit {0}
SaysOfFinding t Unfinished = ⊥
SaysOfFinding t (BadJournal line) = (t.look gate_name ≢ None) × IsBadLine (journal_of t) line

-- the reader's fault, told by a recovery
abbrev pub unread_as : StepFault → CommitFault
unread_as (step_fault.BadJournal line) = BadJournal line
unread_as step_fault.FolderFault = Unchanged

-- what a fault from the first change on says of a list and so many marks: a call failed; or the list is stuck
abbrev pub SaysOfSteps : Image → Image → List Carrier → List Carrier → List Step → ℕ → CommitFault → Type 0
SaysOfSteps t u before now steps count Unchanged = ⊥
SaysOfSteps t u before now steps count Unfinished = Unit {0}
SaysOfSteps t u before now steps count (BadJournal line) = IsStuckAt t u before now steps count line

-- the same of whatever the journal lists and the marks that stand
abbrev pub SaysOfLaying : Image → Image → List Carrier → List Carrier → CommitFault → Type 0
SaysOfLaying t u before now Unchanged = ⊥
SaysOfLaying t u before now Unfinished = Unit {0}
SaysOfLaying t u before now (BadJournal line) = IsStuck t u before now line

-- So many of these steps are laid: what is held is what they make of the image, but at what the next one frees, but for the modes
-- that it sets, and but at the updater's own names.
abbrev pub IsLaidTo : List Step → ℕ → Image → Image → Type 0
IsLaidTo steps laid t u = IsSeenBut (take 1 (drop laid steps)) (after (take laid steps) t) u

-- So many of these steps were feasible and are laid, and each of them was counted by the first kind that takes it.
pub record AreLaidTo (steps : List Step) (laid : ℕ) (t u : Image) (before now : List Carrier) : Type 0 where
  pub few : laid ≤ length steps
  pub can : IsTrue (feasible (take laid steps) t)
  pub held : IsLaidTo steps laid t u
  pub tallies : now ≡ all_counted (take laid steps) before

-- So many steps were laid from so many marks on. Each image that a crash now may leave has nothing at the gate, or so many marks
-- that no more than a thousand of those steps are to be laid again.
abbrev pub CanResume : State → ℕ → ℕ → Type 0
CanResume s first laid = (c : Image) → MayLeave s c → (c.look gate_name ≡ None) ⊎ ((count : ℕ) × AreMarks c count × (laid ≤ 1000 * (count + 1 - first)))

-- Unfinished, where the journal lists these steps and so many marks stood: some of the steps that these leave are laid and
-- counted, and the gate stands open unless all are. Where the change is owed, no more than a thousand of them are to be laid
-- again.
pub record IsUnfinished (t : Image) (s : State) (steps : List Step) (count : ℕ) (before now : List Carrier) : Type 0 where
  pub laid : ℕ
  pub are : AreLaidTo (steps_left count steps) laid t s.held before now
  pub gate : laid < length (steps_left count steps) → s.held.look gate_name ≢ None
  pub resumes : (a : Image) → IsOpen journal_text steps count a t → CanResume s count laid
