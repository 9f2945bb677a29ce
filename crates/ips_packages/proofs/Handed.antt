-- Answers that are handed on.
use Rattle.std.proofs.Common.{Result, Err}
use Rattle.ips_text.specs.declared.refusal.Or.{Or}
use Rattle.ips_text.specs.declared.refusal.Or.TheVariants.{Bad, OutOfMemory}
use Rattle.ips_text.specs.Reading.{IfBad}

-- a fault that says more, in an answer of another kind
pub bad_told : {E : Type 0} (X Y : Type 0) (e : Or E) (P Q : E → Type 0) → ((f : E) → P f → Q f) → (let r : Result X (Or E) = Err e in IfBad r P) → (let r : Result Y (Or E) = Err e in IfBad r Q)
bad_told X Y (Bad f) P Q to h = to f h
bad_told X Y OutOfMemory P Q to h = tt
