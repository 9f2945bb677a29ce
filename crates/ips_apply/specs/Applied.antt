-- What is done to a folder while steps are carried out on it.
use Rattle.std.specs.Prelude.{◌≡◌, ◌⊎◌, ℕ, ◌+◌, ◌-◌, ◌^◌, ◌<◌, ◌≤◌, ◌||◌, min, Bool, true, false, not, IfOk, IsTrue, IsFalse, List, [], ◌∷◌, ◌++◌, length, drop, Result, Ok, Err}
use Rattle.ips_outside.specs.Image.{Image, Agrees}
use Rattle.ips_outside.specs.Outside.{Outside}
use Rattle.ips_folder.specs.Calls.{ChangesOnly}
use Rattle.ips_steps.specs.Steps.{Step, after, feasible, sets, frees, freed}
use Rattle.ips_steps.specs.Journal.{IsJournal}
use Rattle.ips_kinds.specs.Tallies.{Carrier, all_counted}
use Rattle.ips_journal.specs.Text.{journal_text}
use Rattle.ips_journal.specs.Bad.{IsBadLine}
use Rattle.ips_journal.specs.Reading.{ReaderState, IsAt, IsNextLine, journal_of}
use Rattle.ips_journal.specs.declared.fault.StepFault.{StepFault}
use Rattle.ips_journal.specs.declared.fault.StepFault.TheVariants.{BadJournal, FolderFault}

-- At every moment of the run, and now, nothing is changed and touched but what the step frees and the modes that it sets.
abbrev pub ChangedBy : {F : Type 0} → Outside F → Step → F → F → Type 0
ChangedBy o s old new = ChangesOnly o (frees s) (λ q. frees s q || sets (s ∷ []) (o.state old).held q) old new

-- The same for steps that are laid one after another.
abbrev pub ChangedByAll : {F : Type 0} → Outside F → List Step → F → F → Type 0
ChangedByAll o steps old new = ChangesOnly o (freed steps) (λ q. freed steps q || sets steps (o.state old).held q) old new

-- The second image is the first, but at what these steps free, and but for the modes that they set.
abbrev pub AgreesBut : List Step → Image → Image → Type 0
AgreesBut steps t u = Agrees (freed steps) (sets steps t) t u

-- a fact of the line that a fault of the journal names
abbrev pub OnBadJournal : {T : Type 0} → Result T StepFault → (ℕ → Type 0) → Type 0
OnBadJournal (Ok x) P = Unit {0}
OnBadJournal (Err (BadJournal line)) P = P line
OnBadJournal (Err FolderFault) P = Unit {0}

-- the text begins as a journal of these steps does: a reader can stand behind them
abbrev pub BeginsWith : List ℕ → List Step → Type 0
BeginsWith text steps = (r : ReaderState) × IsAt text steps r

-- These steps were feasible one after another and are laid, and nothing else was changed or touched.
pub record AreLaid {F : Type 0} (o : Outside F) (steps : List Step) (old new : F) : Type 0 where
  pub can : IsTrue (feasible steps (o.state old).held)
  pub held : (o.state new).held ≡ after steps (o.state old).held
  pub moments : ChangedByAll o steps old new

-- Behind these steps of the text stands one more, which can't be laid on the image; its line has this number.
pub record IsImpossible (text : List ℕ) (front : List Step) (t : Image) (line : ℕ) : Type 0 where
  pub step : Step
  pub stands : BeginsWith text (front ++ step ∷ [])
  pub cannot : IsFalse (feasible (step ∷ []) t)
  pub number : line ≡ length front + 2

-- Behind the front these steps were laid, and one more may have been begun: what is held is what the steps make of the old image,
-- but at what that one frees, and but for the modes that it sets. Nothing else was changed or touched.
pub record AreBegun {F : Type 0} (o : Outside F) (text : List ℕ) (front steps : List Step) (old new : F) : Type 0 where
  pub begun : List Step
  pub one_more : (begun ≡ steps) ⊎ ((s : Step) × (begun ≡ steps ++ s ∷ []))
  pub stands : BeginsWith text (front ++ begun)
  pub can : IsTrue (feasible steps (o.state old).held)
  pub held : AgreesBut (drop (length steps) begun) (after steps (o.state old).held) (o.state new).held
  pub moments : ChangedByAll o begun old new

-- The text begins with these steps, and the line comes next behind them.
pub record IsReadTo (text : List ℕ) (steps : List Step) (line : ℕ) : Type 0 where
  pub stands : BeginsWith text steps
  pub next : IsNextLine text steps line

-- How a run through the steps of the text behind the front was stopped, when these of them were finished: the line that comes
-- next is the first that isn't of the grammar, or the step behind isn't possible; or a call on the folder failed.
abbrev pub StopsBy : {F : Type 0} → Outside F → List ℕ → List Step → List Step → F → F → StepFault → Type 0
StopsBy o text front steps old new (BadJournal line) = AreLaid o steps old new × (IsBadLine text line ⊎ IsImpossible text (front ++ steps) (o.state new).held line) × IsReadTo text (front ++ steps) line
StopsBy o text front steps old new FolderFault = AreBegun o text front steps old new

-- How such a run ended: the text ends there, or it was stopped.
abbrev pub Ends : {F : Type 0} → Outside F → List ℕ → List Step → List Step → F → F → Result ℕ StepFault → Type 0
Ends o text front steps old new (Ok count) = IsJournal (front ++ steps) × (text ≡ journal_text (front ++ steps)) × (count ≡ length steps) × AreLaid o steps old new
Ends o text front steps old new (Err fault) = StopsBy o text front steps old new fault

-- whether the text ends behind these steps: it is the journal of just these; or the reader stands behind them
abbrev pub EndsOrNot : List ℕ → List Step → ReaderState → Bool → Type 0
EndsOrNot text steps r true = IsJournal steps × (text ≡ journal_text steps)
EndsOrNot text steps r false = IsAt text steps r

-- How a run through a part of the steps ended: these are laid, and the text ends there or not; or it was stopped.
abbrev pub EndsPart : {F : Type 0} → Outside F → List ℕ → List Step → List Step → F → F → ReaderState → Result (ℕ × Bool) StepFault → Type 0
EndsPart o text front steps old new r (Ok x) = EndsOrNot text (front ++ steps) r x.1 × AreLaid o steps old new
EndsPart o text front steps old new r (Err fault) = StopsBy o text front steps old new fault

-- What `apply` does from a reader's place on: some steps are finished, and each is counted by the first kind that takes it.
-- Where the folder tells its image, they are the next steps of its journal.
pub record Applied {F : Type 0} (o : Outside F) (old new : F) (r : ReaderState) (before now : List Carrier) (result : Result ℕ StepFault) : Type 0 where
  pub steps : List Step
  pub tallies : now ≡ all_counted steps before
  pub count : IfOk result (λ n. n ≡ min (length steps) (2 ^ 64 - 1))
  pub ends : IsTrue (o.tells old) → (front : List Step) → IsAt (journal_of (o.state old).held) front r → Ends o (journal_of (o.state old).held) front steps old new result

-- whether a run through a part of the steps wasn't stopped, and didn't come to the end
abbrev pub goes_on : Result (ℕ × Bool) StepFault → Bool
goes_on (Ok x) = not x.1
goes_on (Err fault) = false

-- What a run of at most so many steps does: as many where it goes on, and else fewer.
pub record AppliedPart {F : Type 0} (o : Outside F) (most : ℕ) (old new : F) (start r : ReaderState) (before now : List Carrier) (result : Result (ℕ × Bool) StepFault) : Type 0 where
  pub steps : List Step
  pub tallies : now ≡ all_counted steps before
  pub few : length steps ≤ most
  pub count : IfOk result (λ x. x.0 ≡ length steps)
  pub full : IfOk result (λ x. IsFalse x.1 → length steps ≡ most)
  pub fewer : IsFalse (goes_on result) → length steps < most
  pub ends : IsTrue (o.tells old) → (front : List Step) → IsAt (journal_of (o.state old).held) front start
      → EndsPart o (journal_of (o.state old).held) front steps old new r result
