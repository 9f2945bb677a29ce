-- Which moment a run is told, by the clock.
use Rattle.std.specs.Prelude.{ℕ, ◌/◌, min}

-- The moment of a run, where the clock shows so many nanoseconds since the first of January 1970: their whole seconds, and the last second of the year 9998 behind that.
abbrev pub moment_at : ℕ → ℕ
moment_at nanos = min (nanos / 1_000_000_000) 253370764799
