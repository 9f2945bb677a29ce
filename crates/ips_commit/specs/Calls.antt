-- What each call promises of a change: that it is staged, that it is committed, and that a stopped one is recovered.
use Rattle.std.specs.Prelude.{◌≡◌, ◌≢◌, ◌⊎◌, ℕ, ◌<◌, ◌≤◌, Bool, false, IsTrue, IfOk, IfErr, OnOk, List, length, Option, Some, None, is_some, Result, Err}
use Rattle.ips_text.specs.Reading.{IfBad}
use Rattle.ips_text.specs.declared.refusal.Or.{Or}
use Rattle.ips_text.specs.declared.refusal.Or.TheVariants.{Bad}
use Rattle.ips_outside.specs.Image.{Image}
use Rattle.ips_outside.specs.Outside.{Outside, HasCause, Rose}
use Rattle.ips_folder.specs.Calls.{ChangesOnly, Throughout}
use Rattle.ips_steps.specs.Steps.{Step, after}
use Rattle.ips_steps.specs.Private.{gate_name, visible}
use Rattle.ips_steps.specs.Journal.{IsJournal}
use Rattle.ips_steps.specs.Owed.{steps_left, IsOpen, FolderOwes}
use Rattle.ips_kinds.specs.Tallies.{Carrier, all_counted}
use Rattle.ips_journal.specs.Text.{journal_text}
use Rattle.ips_journal.specs.Reading.{journal_of}
use Rattle.ips_commit.specs.Answers.{IfStarved}
use Rattle.ips_commit.specs.Pending.{HasCommitted, WasOpened, is_swept}
use Rattle.ips_commit.specs.Due.{DueOnceOpen}
use Rattle.ips_commit.specs.Staging.{IsStaged}
use Rattle.ips_commit.specs.Recovering.{AreLaidTo, CanResume, CanRollForward, IfBadJournal, IsJournalled, IsOpenedOver, IsUnfinished, SaysOfRecovery}
use Rattle.ips_contents.specs.declared.fault.StageFault.{StageFault}
use Rattle.ips_contents.specs.declared.fault.StageFault.TheVariants as stage
use Rattle.ips_commit.specs.declared.fault.CommitFault.{CommitFault}
use Rattle.ips_commit.specs.declared.fault.CommitFault.TheVariants as fault

-- What was staged is committed: at every moment the image from before is owed, or the one that is meant, and the latter since
-- the gate is safely open; once that is done the latter is seen, and else recovery goes on from there.
pub record Commits {F : Type 0} (o : Outside F) (old new : F) (before now : List Carrier) (result : Result ℕ CommitFault) : Type 0 where
  pub owed : IsTrue (o.tells old) → (steps : List Step) (a : Image) → IsStaged steps a (o.state old)
      → Throughout o old new (FolderOwes journal_text (visible (o.state old).held) (Some a) false)
  pub due : IsTrue (o.tells old) → (steps : List Step) (a : Image) → IsStaged steps a (o.state old)
      → DueOnceOpen o (visible (o.state old).held) a old new
  -- done: the image that is meant is seen, nothing is left, nothing is touched, and each step was counted
  pub done : IsTrue (o.tells old) → (steps : List Step) (a : Image) → IsStaged steps a (o.state old)
      → IfOk result (λ count. (count ≡ length steps) × HasCommitted a (o.state new))
  pub counted : IsTrue (o.tells old) → (steps : List Step) (a : Image) → IsStaged steps a (o.state old)
      → OnOk result (now ≡ all_counted steps before)
  -- done: the gate was opened over the journal that lists these steps
  pub journal : IsTrue (o.tells old) → (steps : List Step) (a : Image) → IsStaged steps a (o.state old)
      → OnOk result (IsOpenedOver o steps old new)
  -- unfinished: a front of the list is laid and counted, and one step more at most was begun; where some of the steps are laid
  -- but not all, the gate stands open; whatever a crash leaves now, the gate is closed, or the marks leave at most a thousand of
  -- those steps to be laid again
  pub stopped : IsTrue (o.tells old) → (steps : List Step) (a : Image) → IsStaged steps a (o.state old)
      → IfErr result (λ why. (laid : ℕ)
      × AreLaidTo steps laid (o.state old).held (o.state new).held before now
      × (0 < laid → laid < length steps → (o.state new).held.look gate_name ≢ None)
      × CanResume (o.state new) 0 laid)
  -- behind a staging a failed call is the only cause of a fault; the first call is the gate's, so nothing fails before it
  pub faults : IsTrue (o.tells old) → (steps : List Step) (a : Image) → IsStaged steps a (o.state old)
      → IfErr result (λ why. why ≡ fault.Unfinished)
  pub begun : IfErr result (λ why. why ≡ fault.Unchanged → ⊥)
  pub cause : HasCause (o.faults old) (o.faults new) (result ≡ Err fault.Unfinished)
  pub same_kind : o.tells new ≡ o.tells old
  pub changes : o.changes old ≤ o.changes new
  pub changed : Rose (o.changes old) (o.changes new)

-- What a run that was stopped left is brought to an end: at every moment what was owed is owed, behind an open gate the steps
-- that the marks leave are laid, behind a closed one what is left is swept, and each refusal has its cause.
pub record Recovers {F : Type 0} (o : Outside F) (old new : F) (before now : List Carrier) (result : Result Bool (Or CommitFault)) : Type 0 where
  -- at every moment the folder owes what it owed; behind a closed gate only what is swept is changed, and the directory of a trial is open
  -- before it is taken away
  pub owed : IsTrue (o.tells old) → (b : Image) (a : Option Image) (due : Bool) → FolderOwes journal_text b a due (o.state old)
      → Throughout o old new (FolderOwes journal_text b a due)
  pub closed : IsTrue (o.tells old) → (o.state old).held.look gate_name ≡ None → ChangesOnly o is_swept is_swept old new
  pub opened : IsTrue (o.tells old) → (o.state old).held.look gate_name ≡ None → OnOk result (WasOpened o old new)
  -- done: whether something stood at the gate; then the image that the steps mean is seen, and else the same as before
  pub forward : IsTrue (o.tells old) → IfOk result (λ forward. forward ≡ is_some ((o.state old).held.look gate_name))
  pub done : IsTrue (o.tells old) → (o.state old).held.look gate_name ≢ None
      → OnOk result ((steps : List Step) × (count : ℕ) × CanRollForward (o.state old).held steps count
      × HasCommitted (visible (after (steps_left count steps) (o.state old).held)) (o.state new)
      × (now ≡ all_counted (steps_left count steps) before))
  pub cleared : IsTrue (o.tells old) → (o.state old).held.look gate_name ≡ None
      → OnOk result (HasCommitted (visible (o.state old).held) (o.state new))
  -- an open gate on which something is owed leads to just that
  pub meant : IsTrue (o.tells old) → (steps : List Step) (count : ℕ) (a : Image) → IsOpen journal_text steps count a (o.state old).held
      → OnOk result (HasCommitted a (o.state new)) × IfBadJournal result (λ line. ⊥)
  -- each refusal has its cause, and before the first change none changes anything; the whole journal is read first: where it is
  -- none, no call is made that may change something
  pub refused : IsTrue (o.tells old) → IfBad result (SaysOfRecovery (o.state old) (o.state new) before now)
  pub starved : IfStarved result ((o.state new ≡ o.state old) × (o.changes new ≡ o.changes old) × (now ≡ before))
  pub read_first : IsTrue (o.tells old) → ((steps : List Step) → IsJournal steps → journal_of (o.state old).held ≡ journal_text steps → ⊥)
      → (o.state old).held.look gate_name ≢ None → (o.state new ≡ o.state old) × (o.changes new ≡ o.changes old) × (now ≡ before)
  pub cause : HasCause (o.faults old) (o.faults new) ((result ≡ Err (Bad fault.Unchanged)) ⊎ (result ≡ Err (Bad fault.Unfinished)))
  pub same_kind : o.tells new ≡ o.tells old
  -- unfinished comes only where a call was made that may change something, and at an open gate unchanged only where none was
  pub changes : o.changes old ≤ o.changes new
  pub changed : result ≡ Err (Bad fault.Unfinished) → Rose (o.changes old) (o.changes new)
  pub untouched : IsTrue (o.tells old) → (o.state old).held.look gate_name ≢ None
      → result ≡ Err (Bad fault.Unchanged) → o.changes new ≡ o.changes old
  -- nothing is counted where nothing was begun or the gate was closed
  pub unlaid : result ≡ Err (Bad fault.Unchanged) → now ≡ before
  pub uncounted : IsTrue (o.tells old) → (o.state old).held.look gate_name ≡ None → now ≡ before
  -- unfinished: a front of the steps that the marks leave is laid and counted, and one more at most was begun; the gate stands
  -- open unless all are laid; whatever a crash leaves now, the gate is closed, or the marks leave at most a thousand of those
  -- steps to be laid again
  pub stopped : IsTrue (o.tells old) → (steps : List Step) (count : ℕ) → IsJournalled (o.state old).held steps count
      → IfBad result (λ why. why ≡ fault.Unfinished
      → IsUnfinished (o.state old).held (o.state new) steps count before now)
