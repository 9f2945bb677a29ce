-- How far a journal is written.
use Rattle.std.specs.Prelude.{◌≡◌, ℕ, ◌-◌, ◌^◌, min, IsTrue, List, ◌++◌, length, Some}
use Rattle.ips_outside.specs.Image.{Image, file_bytes}
use Rattle.ips_outside.specs.State.{State}
use Rattle.ips_folder.specs.Calls.{IsSole}
use Rattle.ips_steps.specs.Steps.{Step}
use Rattle.ips_steps.specs.Private.{journal_name}
use Rattle.ips_journal.specs.Text.{headed}
use Rattle.ips_journal.specs.declared.writer.JournalWriter.{JournalWriter}

-- The first line and those of these steps are written: the file at the journal's place, which has no other name, has a front
-- of them, and the writer has gathered the rest.
pub record IsWritten (w : JournalWriter) (t : Image) (steps : List Step) : Type 0 where
  pub file : List ℕ
  pub stands : file_bytes (t.look journal_name) ≡ Some file
  pub sole : IsSole t journal_name
  pub text : (rest : List ℕ) → (file ++ w.gathered.items) ++ rest ≡ headed steps rest
  pub counted : w.steps ≡ min (length steps) (2 ^ 64 - 1)

-- what was touched is touched still
abbrev pub KeepsTouched : State → State → Type 0
KeepsTouched old new = (q : List ℕ) → IsTrue (old.whole q) → IsTrue (new.whole q)
