-- How much a fix lays, and how little of it again.
use Rattle.std.specs.Prelude.{◌≡◌, ◌≢◌, ℕ, ◌-◌, ◌*◌, List, length, None}
use Rattle.ips_outside.specs.Image.{Image}
use Rattle.ips_outside.specs.Outside.{Outside}
use Rattle.ips_steps.specs.Steps.{Step}
use Rattle.ips_steps.specs.Private.{gate_name}
use Rattle.ips_steps.specs.Owed.{IsOpen}
use Rattle.ips_kinds.specs.Tallies.{Carrier}
use Rattle.ips_journal.specs.Text.{journal_text}
use Rattle.ips_commit.specs.Recovering.{CanResume, CanRollForward, IsJournalled}
use Rattle.ips_trial.specs.Counted.{HaveFinished}

-- The journal lists these steps, the marks (checkpoints) stand for the first so many thousands of them, and just the others were laid.
pub record LaysWhatIsLeft (t : Image) (before now : List Carrier) : Type 0 where
  pub steps : List Step
  pub marks : ℕ
  pub can : CanRollForward t steps marks
  pub risen : HaveFinished (length steps - 1000 * marks) before now

-- Since so many marks stood, so many steps were laid. Whatever a crash leaves now, nothing stands at the gate, or so many marks stand that no
-- more than a thousand of those steps are laid again.
pub record LaysFewAgain {F : Type 0} (o : Outside F) (marks : ℕ) (before now : List Carrier) (new : F) : Type 0 where
  pub laid : ℕ
  pub risen : HaveFinished laid before now
  pub resumes : CanResume (o.state new) marks laid

-- A run leaves a change unfinished: one that it began itself, behind a closed gate, or one that was owed as it found the gate open, whose journal lists these
-- steps and so many of whose marks stood.
pub record IsLeftToFix {F : Type 0} (o : Outside F) (before now : List Carrier) (old new : F) : Type 0 where
  pub begun : (o.state old).held.look gate_name ≡ None → LaysFewAgain o 0 before now new
  pub found : (o.state old).held.look gate_name ≢ None → (steps : List Step) (marks : ℕ) (after : Image) → IsJournalled (o.state old).held steps marks
      → IsOpen journal_text steps marks after (o.state old).held → LaysFewAgain o marks before now new
