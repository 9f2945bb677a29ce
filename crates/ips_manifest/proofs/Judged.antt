-- What the program read, or why it didn't.
use Rattle.std.proofs.Common.{◌≡◌, ℕ, ◌<◌, List, ◌∷◌, length, Option, Some, Result, Ok, Err, ap}
use Rattle.ips_text.specs.declared.refusal.Or.{Or}
use Rattle.ips_text.specs.declared.refusal.Or.TheVariants.{Bad, OutOfMemory}
use Rattle.ips_text.specs.Reading.{IfBad}
use Rattle.ips_text.proofs.Readers.{ok_is, ok_not_err}
use Rattle.ips_manifest.specs.declared.fault.LineFault.TheVariants.{NotText}
use Rattle.ips_manifest.specs.declared.fault.ManifestFault.{ManifestFault}
use Rattle.ips_manifest.specs.Logical.{physical_lines, unreadable_at}
use Rattle.ips_manifest.specs.Next.{IsUnreadable}
use Rattle.ips_manifest.proofs.Joins.{single_bad}

-- the same, where there is one
pub some_read : {A E D : Type 0} (a b : A) → (let r : Result A E = Ok a in r) ≡ Ok b → (let r : Result (Option A) D = Ok (Some a) in r) ≡ Ok (Some b)
some_read {A} {E} {D} a b e = ap (λ (x : A). Ok (Some x)) (ok_is {E = E} a b e)

pub none_read : {A E : Type 0} (a : A) (d : E) → (let r : Result A E = Ok a in r) ≡ Err d → ⊥
none_read a d e = ok_not_err a d e

-- a physical line that isn't UTF-8 is a logical line that isn't
pub single_fails : (X Y : Type 0) (e : Or ManifestFault) (number : ℕ) (bytes line behind : List ℕ) → physical_lines bytes ≡ line ∷ physical_lines behind → length behind < length bytes
    → IfBad {X = X} (Err e) (λ f. (f.line ≡ number) × (f.fault ≡ NotText) × (unreadable_at number line ≡ Some number)) → IfBad {X = Y} (Err e) (λ f. IsUnreadable number bytes f)
single_fails X Y (Bad f) number bytes line behind split shorter h = single_bad number bytes line behind f split shorter h.0 h.1 h.2
single_fails X Y OutOfMemory number bytes line behind split shorter h = tt
