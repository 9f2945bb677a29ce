-- What the phases of a commit do to a folder.
use Rattle.std.specs.Prelude.{◌≡◌, ◌≢◌, ◌⊎◌, ℕ, ◌+◌, ◌-◌, ◌*◌, ◌^◌, ◌<◌, ◌≤◌, min, Bool, true, false, cond, ◌||◌, IsTrue, IfOk, OnOk, List, [], ◌∷◌, ◌++◌, length, take, Some, None, Result, Ok, Err}
use Rattle.ips_outside.specs.Image.{Image, Agrees}
use Rattle.ips_outside.specs.State.{State, MayLeave, IsSettled, nowhere, settled}
use Rattle.ips_outside.specs.Outside.{Outside, Elapses}
use Rattle.ips_folder.specs.Calls.{Throughout}
use Rattle.ips_steps.specs.Steps.{Step, after, feasible, sets, freed}
use Rattle.ips_steps.specs.Journal.{IsJournal, allowed}
use Rattle.ips_steps.specs.Private.{gate_name, mark_front, begins, is_private}
use Rattle.ips_steps.specs.Owed.{AreMarks, IsOpen, FolderOwes}
use Rattle.ips_kinds.specs.Tallies.{Carrier, all_counted}
use Rattle.ips_journal.specs.Text.{journal_text}
use Rattle.ips_journal.specs.Bad.{IsBadLine}
use Rattle.ips_journal.specs.Reading.{ReaderState, IsAt, journal_of}
use Rattle.ips_journal.specs.declared.fault.StepFault.{StepFault}
use Rattle.ips_journal.specs.declared.fault.StepFault.TheVariants.{BadJournal, FolderFault}
use Rattle.ips_apply.specs.Applied.{IsImpossible}
use Rattle.ips_commit.specs.Due.{gate_file, IsSafelyOpen}
use Rattle.ips_commit.specs.Pending.{HasNoOtherMark, mark_names}

-- The gate opens: a run of calls of which the last is the sync that makes the gate's file safe. Before it the gate was never
-- safely open.
pub record Opens {F : Type 0} (o : Outside F) (old new : F) : Type 0 where
  pub before : F
  pub not_yet : Throughout o old before (λ s. IsSafelyOpen s → ⊥)
  pub written : (o.state before).held.look gate_name ≡ gate_file
  pub call : Elapses o before new
  pub sync : o.state new ≡ settled (o.state before)
  pub is_open : IsSafelyOpen (o.state new)

-- Steps can be laid and marked off: nothing is touched, something stands at the gate, and so many marks and nothing else at
-- their names.
pub record IsUnderWay (s : State) (count : ℕ) : Type 0 where
  pub safe : IsSettled s
  pub gate : s.held.look gate_name ≢ None
  pub marked : AreMarks s.held count
  pub others : HasNoOtherMark s.held (mark_names count)

-- These steps were feasible and are laid, but for what stands at the names of marks: there are so many.
pub record AreMarkedOff {F : Type 0} (o : Outside F) (steps : List Step) (count : ℕ) (old new : F) : Type 0 where
  pub can : IsTrue (feasible steps (o.state old).held)
  pub held : Agrees (begins mark_front) nowhere (after steps (o.state old).held) (o.state new).held
  pub way : IsUnderWay (o.state new) count

-- These steps were feasible and are laid, but for what stands at the names of marks, and the next can't be laid at its turn. So
-- many marks stand, and no other.
pub record IsHeldUp {F : Type 0} (o : Outside F) (text : List ℕ) (front steps : List Step) (marks line : ℕ) (old new : F) : Type 0 where
  pub can : IsTrue (feasible steps (o.state old).held)
  pub held : Agrees (begins mark_front) nowhere (after steps (o.state old).held) (o.state new).held
  pub next : IsImpossible text (front ++ steps) (after steps (o.state old).held) line
  pub marked : AreMarks (o.state new).held marks
  pub others : HasNoOtherMark (o.state new).held (mark_names marks)

-- The second image is the first, but at what these steps free, but for the modes that they set, and but at the updater's own names.
abbrev pub IsSeenBut : List Step → Image → Image → Type 0
IsSeenBut steps t u = Agrees (λ q. freed steps q || is_private q) (sets steps t) t u

-- These steps were feasible and are laid, and one more may have been begun; they are the next ones of whatever list the text is
-- the journal of. What is held is what the steps make, but at what that one frees and sets, and but at the updater's own names;
-- the gate still stands open.
pub record AreCutOff {F : Type 0} (o : Outside F) (text : List ℕ) (front steps : List Step) (old new : F) : Type 0 where
  pub begun : List Step
  pub one_more : (begun ≡ []) ⊎ ((s : Step) × (begun ≡ s ∷ []))
  pub names : IsTrue (allowed (steps ++ begun))
  pub next : (all : List Step) → IsJournal all → text ≡ journal_text all → front ++ (steps ++ begun) ≡ take (length (front ++ (steps ++ begun))) all
  pub can : IsTrue (feasible steps (o.state old).held)
  pub held : IsSeenBut begun (after steps (o.state old).held) (o.state new).held
  pub gate : (o.state new).held.look gate_name ≢ None

-- How laying ended where these steps behind the front were finished and so many marks stand: all that the text lists are laid
-- and safe; or these are, and the reader stands behind them; or a line isn't of the grammar, or a step is held up; or a call on
-- the folder failed, and they were cut off.
abbrev pub LaysTo : {F : Type 0} → Outside F → List ℕ → List Step → List Step → ℕ → F → F → ReaderState → Result Bool StepFault → Type 0
LaysTo o text front steps marks old new r (Ok true) = IsJournal (front ++ steps) × (text ≡ journal_text (front ++ steps)) × AreMarkedOff o steps marks old new
LaysTo o text front steps marks old new r (Ok false) = IsAt text (front ++ steps) r × AreMarkedOff o steps marks old new
LaysTo o text front steps marks old new r (Err (BadJournal line)) = IsBadLine text line ⊎ IsHeldUp o text front steps marks line old new
LaysTo o text front steps marks old new r (Err FolderFault) = AreCutOff o text front steps old new

-- What laying does from a reader's place and so many marks on: some steps are finished, each counted by the first kind that
-- takes it, and a mark is made behind each thousand of them. Where the folder tells its image
-- they are those of its journal behind the front that the reader has read, and it owes at every moment what it owed.
pub record Lays {F : Type 0} (o : Outside F) (first : ℕ) (old new : F) (start r : ReaderState) (before now : List Carrier) (how : Result Bool StepFault) : Type 0 where
  pub steps : List Step
  pub marks : ℕ
  pub tallies : now ≡ all_counted steps before
  pub more : first ≤ marks
  pub many : 1000 * marks ≤ length steps + 1000 * first
  pub few : length steps + 1000 * first ≤ 1000 * marks + 1000
  pub fewer : (line : ℕ) → how ≡ Err (BadJournal line) → length steps + 1000 * first < 1000 * marks + 1000
  pub full : how ≡ Ok false → length steps + 1000 * first ≡ 1000 * marks
  pub next : IsTrue (o.tells old) → IsUnderWay (o.state old) first → (front : List Step) → IsAt (journal_of (o.state old).held) front start → (all : List Step) → IsJournal all
      → journal_of (o.state old).held ≡ journal_text all → front ++ steps ≡ take (length (front ++ steps)) all
  pub ends : IsTrue (o.tells old) → IsUnderWay (o.state old) first → (front : List Step) → IsAt (journal_of (o.state old).held) front start
      → LaysTo o (journal_of (o.state old).held) front steps marks old new r how
  pub owed : IsTrue (o.tells old) → IsUnderWay (o.state old) first → (all : List Step) (b a : Image) (due : Bool) → IsOpen journal_text all first a (o.state old).held
      → IsAt (journal_of (o.state old).held) (take (1000 * first) all) start → Throughout o old new (FolderOwes journal_text b (Some a) due)
  pub stays_open : IsTrue (o.tells old) → IsUnderWay (o.state old) first → (all : List Step) (a : Image) → IsOpen journal_text all first a (o.state old).held
      → IsAt (journal_of (o.state old).held) (take (1000 * first) all) start → OnOk how (IsOpen journal_text all marks a (o.state new).held)
  -- however a crash cuts it off, the marks that it leaves tell of all these steps but a thousand
  pub left : IsTrue (o.tells old) → IsUnderWay (o.state old) first → (all : List Step) (a : Image) → IsOpen journal_text all first a (o.state old).held
      → IsAt (journal_of (o.state old).held) (take (1000 * first) all) start → (c : Image) → MayLeave (o.state new) c
      → (count : ℕ) × AreMarks c count × (length steps + 1000 * first ≤ 1000 * count + 1000)

-- what laying a part answers, without the count: whether the end of the text was read
abbrev pub ended_of : Result (ℕ × Bool) StepFault → Result Bool StepFault
ended_of (Ok x) = Ok x.1
ended_of (Err fault) = Err fault

-- One turn: at most a thousand steps are laid, as many as are told, and one mark more is made where the text's end wasn't read.
pub record LaysThousand {F : Type 0} (o : Outside F) (first : ℕ) (old new : F) (start r : ReaderState) (before now : List Carrier) (result : Result (ℕ × Bool) StepFault) : Type 0 where
  pub lays : Lays o first old new start r before now (ended_of result)
  pub count : IfOk result (λ x. x.0 ≡ length lays.steps)
  pub marks : IfOk result (λ x. lays.marks ≡ cond x.1 first (first + 1))

-- what laying to the end answers, without the counts
abbrev pub whole_of : Result (ℕ × ℕ) StepFault → Result Bool StepFault
whole_of (Ok x) = Ok true
whole_of (Err fault) = Err fault

-- All turns: so many marks are told, and so many steps, as far as a counter goes.
pub record LaysAll {F : Type 0} (o : Outside F) (first : ℕ) (old new : F) (start r : ReaderState) (before now : List Carrier) (result : Result (ℕ × ℕ) StepFault) : Type 0 where
  pub lays : Lays o first old new start r before now (whole_of result)
  pub marks : IfOk result (λ x. x.0 ≡ lays.marks)
  pub count : IfOk result (λ x. x.1 ≡ min (length lays.steps) (2 ^ 64 - 1))
