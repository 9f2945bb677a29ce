-- How a program ended.
use Rattle.std.specs.Prelude.{◌≡◌, ℕ, pos, Some}
use Rattle.std.specs.Process.{exit_code}
use Rattle.std.specs.declared.process.status.ExitStatus.{ExitStatus}

-- It ended with this status, by no signal.
abbrev pub IsEnd : ExitStatus → ℕ → Type 0
IsEnd status number = exit_code status ≡ Some (pos number)
