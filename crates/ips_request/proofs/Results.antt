-- What answers say.
use Rattle.std.proofs.Common.{◌≡◌, Result, Ok, Err, IfOk, subst}
use Rattle.ips_text.specs.Reading.{IfBad}
use Rattle.ips_text.specs.declared.refusal.Or.{Or}
use Rattle.ips_text.specs.declared.refusal.Or.TheVariants.{Bad, OutOfMemory}

pub ok_also : {X E : Type 0} (r : Result X E) (P Q : X → Type 0) → IfOk r P → ((x : X) → P x → Q x) → IfOk r Q
ok_also (Ok x) P Q h w = w x h
ok_also (Err e) P Q h w = tt

pub bad_also : {X F : Type 0} (r : Result X (Or F)) (P Q : F → Type 0) → IfBad r P → ((f : F) → P f → Q f) → IfBad r Q
bad_also (Ok x) P Q h w = tt
bad_also (Err (Bad f)) P Q h w = w f h
bad_also (Err OutOfMemory) P Q h w = tt

-- a fault of which nothing holds doesn't come
pub bad_not : {X F : Type 0} (r : Result X (Or F)) (P : F → Type 0) (f : F) → IfBad r P → r ≡ Err (Bad f) → P f
bad_not r P f h e = subst (λ r. IfBad r P) e h

-- what holds of a value holds of what follows
pub ok_then : {X E : Type 0} (P Q : X → Type 0) (r : Result X E) → IfOk r P → ((x : X) → P x → Q x) → IfOk r Q
ok_then P Q (Ok x) h w = w x h
ok_then P Q (Err e) h w = tt

pub ok_both : {X E : Type 0} (P Q R : X → Type 0) (r : Result X E) → IfOk r P → IfOk r Q → ((x : X) → P x → Q x → R x) → IfOk r R
ok_both P Q R (Ok x) h k w = w x h k
ok_both P Q R (Err e) h k w = tt

pub bad_then : {X F : Type 0} (P Q : F → Type 0) (r : Result X (Or F)) → IfBad r P → ((f : F) → P f → Q f) → IfBad r Q
bad_then P Q (Ok x) h w = tt
bad_then P Q (Err (Bad f)) h w = w f h
bad_then P Q (Err OutOfMemory) h w = tt

-- a fault that is none of these is not that one
pub bad_other : {X F : Type 0} (f : F) (e : Or F) → IfBad {X = X} {E = F} (Err e) (λ g. g ≡ f → ⊥) → (let r : Result X (Or F) = Err e in r) ≡ Err (Bad f) → ⊥
bad_other f (Bad g) h same = h cc
bad_other f OutOfMemory h same = cc
