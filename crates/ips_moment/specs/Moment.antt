-- Moments as timestamps.
use Rattle.std.specs.Prelude.{◌≡◌, ℕ, ◌+◌, ◌*◌, List, pos, unsigned_abs}
use Rattle.jiff_core.specs.declared.civil.datetime.DateTime.{DateTime}
use Rattle.jiff_core.specs.DateTime.{civil_nanos}
use Rattle.ips_fmri.specs.Version.{IsStamp, stamp_text}

-- The number of the fourteen digits YYYYMMDDHHMMSS of a date and a time of day.
abbrev pub stamp_number : DateTime → ℕ
stamp_number d = (unsigned_abs d.date.year * 10_000 + d.date.month * 100 + d.date.day) * 1_000_000 + (d.time.hour * 10_000 + d.time.minute * 100 + d.time.second)

-- The text is a timestamp: that of the date and the time of day which a clock in UTC shows so many seconds after the first of
-- January 1970.
pub record IsMomentText (moment : ℕ) (text : List ℕ) : Type 0 where
  pub clock : DateTime
  pub shown : civil_nanos clock ≡ pos (moment * 1_000_000_000)
  pub written : text ≡ stamp_text (stamp_number clock)
  pub stamp : IsStamp (stamp_number clock)
