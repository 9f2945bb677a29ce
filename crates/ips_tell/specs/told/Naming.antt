-- That payloads have names.
use Rattle.std.specs.Prelude.{ℕ, ◌<◌, List, length, get_or}
use Rattle.ips_digest.specs.Name.{IsName}
use Rattle.ips_journal.specs.declared.staged.Staged.{Staged}
use Rattle.ips_journal.specs.declared.staged.Staged.TheVariants.{Payload, Bytes, Standing}

-- What is staged, where it is a payload, has a name of a digest's bytes.
abbrev pub IsNamed : Staged → Type 0
IsNamed (Payload name) = IsName name
IsNamed (Bytes given) = Unit {0}
IsNamed (Standing from) = Unit {0}

-- So has each of the list.
abbrev pub AreNamed : List Staged → Type 0
AreNamed staged = (n : ℕ) (d : Staged) → n < length staged → IsNamed (get_or staged n d)
