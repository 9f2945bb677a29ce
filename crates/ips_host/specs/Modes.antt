-- Which mode was found.
use Rattle.std.specs.Prelude.{◌≡◌, ◌%◌, ℕ, Result, Ok, Err}
use Rattle.std.specs.Fs.{metadata_mode}
use Rattle.std.specs.declared.fs.attrs.Metadata.{Metadata}

-- What was found has just this mode, all twelve bits.
abbrev pub HasMode : Metadata → ℕ → Type 0
HasMode found mode = metadata_mode found % 4096 ≡ mode

-- Something was found, and has just this mode.
abbrev pub Shows : {E : Type 0} → Result Metadata E → ℕ → Type 0
Shows (Ok found) mode = HasMode found mode
Shows (Err e) mode = ⊥
