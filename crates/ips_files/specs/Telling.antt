-- Texts written to a sink.
use Rattle.std.specs.Prelude.{◌≡◌, ℕ, Bool, IsTrue, IsFalse, List, ◌++◌, take}
use Rattle.ips_outside.specs.Outside.{HasCause}
use Rattle.ips_outside.specs.Taking.{Taking}

-- A text that is written: whole where that is answered, and else a front of it; it isn't whole exactly where the count of faults rose.
pub record Tells {O : Type 0} (t : Taking O) (text : List ℕ) (old new : O) (told : Bool) : Type 0 where
  pub whole : IsTrue (t.tells old) → IsTrue told → t.taken new ≡ t.taken old ++ text
  pub front : IsTrue (t.tells old) → (count : ℕ) × (t.taken new ≡ t.taken old ++ take count text)
  pub cause : HasCause (t.faults old) (t.faults new) (IsFalse told)
  pub same_kind : t.tells new ≡ t.tells old
