-- The calls on an object in memory, and which of them fail.
use Rattle.std.specs.Prelude.{ℕ, ◌+◌, Bool, cond, ◌==◌, List}
use Rattle.std.specs.List.{list_any}
use Rattle.ips_outside.specs.Outside.{risen}

-- The numbers of the calls that are to fail, how many calls were made, and how many of them failed.
pub record Tally : Type 0 where
  pub listed : List ℕ
  pub made : ℕ
  pub failed : ℕ

-- a tally before the first call
abbrev pub fresh : List ℕ → Tally
fresh listed = record { listed = listed; made = 0; failed = 0 }

-- The next call is to fail: its number is listed. Calls are numbered from 1 on.
abbrev pub next_fails : Tally → Bool
next_fails t = list_any (λ n. n == t.made + 1) t.listed

-- the tally after a call, which failed or didn't
abbrev pub after_call : Bool → Tally → Tally
after_call failed t = record { listed = t.listed; made = risen t.made; failed = cond failed (risen t.failed) t.failed }
