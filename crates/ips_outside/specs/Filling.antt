-- What a sink in memory means.
use Rattle.std.specs.Prelude.{ℕ, ◌-◌, Bool, true, ◌||◌, ◌&&◌, ◌==◌, not, List, length}
use Rattle.ips_outside.specs.Taking.{Taking}
use Rattle.ips_outside.specs.Tally.{Tally, next_fails}

-- The bytes that the sink took, how many bytes it has room for in all, and its calls.
pub record Filled : Type 0 where
  pub taken : List ℕ
  pub room : ℕ
  pub calls : Tally

-- how many more bytes there is room for
abbrev pub left : Filled → ℕ
left s = s.room - length s.taken

-- bytes are to be written, and the room is full
abbrev pub is_full : Filled → List ℕ → Bool
is_full s bytes = (left s == 0) && not (length bytes == 0)

-- the next write of these bytes fails
abbrev pub write_fails : Filled → List ℕ → Bool
write_fails s bytes = next_fails s.calls || is_full s bytes

-- a sink in memory tells what it took
abbrev pub mem_taking : Taking Filled
mem_taking = record {
  tells = λ s. true;
  taken = λ s. s.taken;
  faults = λ s. s.calls.failed;
}
