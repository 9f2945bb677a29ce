-- Lent licenses, as a loop takes them.
use Rattle.std.proofs.Common.{◌≡◌, ℕ, zero, suc, ◌<◌, List, [], ◌∷◌, length, get_or, refl, arith}
use Rattle.ips_digest.specs.declared.name.PayloadName.TheVariants.{Sha1}
use Rattle.ips_delivered.specs.declared.delivered.named.License.{License}

-- what stands where no license does
abbrev pub no_license : License
no_license = record { stem = record { ref_ptr = (0, 0); now = [] }; name = record { ref_ptr = (0, 0); now = [] }; payload = Sha1 [] }

-- what is taken within a list is what stands there
pub taken : {A : Type 0} (xs : List A) (i : ℕ) (d : A) → i < length xs → get_or xs i d ≡ get_or xs i (get_or xs i d)
taken [] i d lt = absurd (omega (arith, lt))
taken (x ∷ xs) zero d lt = refl
taken (x ∷ xs) (suc i) d lt = taken xs i d (omega (arith, lt))
