-- When a call has failed, where memory may run out too.
use Rattle.std.specs.Prelude.{Result, Ok, Err}
use Rattle.ips_text.specs.declared.refusal.Or.{Or}
use Rattle.ips_text.specs.declared.refusal.Or.TheVariants.{Bad, OutOfMemory}

-- A call has failed; memory hasn't run out.
abbrev pub HasFailed : {T E : Type 0} → Result T (Or E) → Type 0
HasFailed (Ok x) = ⊥
HasFailed (Err (Bad fault)) = Unit {0}
HasFailed (Err OutOfMemory) = ⊥
