-- What an answer is worth behind another clause.
use Rattle.std.specs.Prelude.{Result, Ok, Err, IfOk, OnOk}
use Rattle.ips_text.specs.Reading.{IfBad}
use Rattle.ips_text.specs.declared.refusal.Or.{Or}
use Rattle.ips_text.specs.declared.refusal.Or.TheVariants.{Bad, OutOfMemory}

-- what follows from what an answer is worth
pub when_ok : {A E : Type 0} (r : Result A E) (P : A → Type 0) → IfOk r P → (Q : A → Type 0) → ((x : A) → P x → Q x) → IfOk r Q
when_ok (Ok x) P h Q f = f x h
when_ok (Err e) P h Q f = tt

pub when_bad : {A F : Type 0} (r : Result A (Or F)) (P : F → Type 0) → IfBad r P → (Q : F → Type 0) → ((x : F) → P x → Q x) → IfBad r Q
when_bad (Ok x) P h Q f = tt
when_bad (Err (Bad x)) P h Q f = f x h
when_bad (Err OutOfMemory) P h Q f = tt

-- what follows of an answer from two clauses
pub both_ok : {A E : Type 0} (r : Result A E) (P Q R : A → Type 0) → IfOk r P → IfOk r Q → ((x : A) → P x → Q x → R x) → IfOk r R
both_ok (Ok x) P Q R h k f = f x h k
both_ok (Err e) P Q R h k f = tt

-- what holds anyway
pub on_ok : {A E : Type 0} (r : Result A E) {P : Type 0} → P → OnOk r P
on_ok (Ok x) h = h
on_ok (Err e) h = tt
