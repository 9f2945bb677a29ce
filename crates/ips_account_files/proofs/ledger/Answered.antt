-- What holds of answers and of faults.
use Rattle.std.proofs.Common.{◌≡◌, Result, Ok, Err, IfOk}
use Rattle.ips_text.specs.declared.refusal.Or.{Or}
use Rattle.ips_text.specs.declared.refusal.Or.TheVariants.{Bad, OutOfMemory}

-- what holds of an answer by two clauses
pub if_both : {A E : Type 0} (x : Result A E) (P Q : A → Type 0) → IfOk x P → IfOk x Q → IfOk x (λ a. P a × Q a)
if_both (Ok a) P Q h k = (h, k)
if_both (Err e) P Q h k = tt

-- a fact about the fault, where there is one
abbrev pub IfFault : {E : Type 0} → Or E → (E → Type 0) → Type 0
IfFault (Bad why) P = P why
IfFault OutOfMemory P = Unit {0}

pub fault_as : {E : Type 0} (fault : Or E) (P Q : E → Type 0) → ((why : E) → P why → Q why) → IfFault fault P → IfFault fault Q
fault_as (Bad why) P Q f h = f why h
fault_as OutOfMemory P Q f h = tt

pub never_err : {A E : Type 0} (x : A) (e : E) → Ok x ≡ Err e → ⊥
never_err x e h = cc
