-- What a rename of a directory's own `.` tells, which no system makes.
use Rattle.std.specs.Prelude.{◌≡◌, ◌⊎◌, pos, Option, Some, None}
use Rattle.ips_outside.specs.Outside.{IsSmall}
use Rattle.ips_host.specs.declared.fault.Refused.{Refused}
use Rattle.ips_host.specs.declared.fault.Refused.TheVariants.{System}
use Rattle.ips_host.specs.declared.stat.Seen.{Seen}

-- Both directories are there by one mount: Linux answers EBUSY, another system may answer EINVAL, and either would answer EXDEV first.
abbrev pub TellsOneMount : Refused → Type 0
TellsOneMount why = (why ≡ System (pos 16)) ⊎ (why ≡ System (pos 22))

-- Where something was seen its mode has at most twelve bits.
abbrev pub AreSmall : Option Seen → Type 0
AreSmall (Some seen) = IsSmall seen.look
AreSmall None = Unit {0}
