use Rattle.std.proofs.Common.{◌≡◌, ℕ, zero, suc, false, get_or, replicate, refl}
use Rattle.ips_rehearse.proofs.modes.Modes.none.Goals as goal

none_at : (n m : ℕ) → get_or (replicate n false) m false ≡ false
none_at zero m = refl
none_at (suc n) zero = refl
none_at (suc n) (suc m) = none_at n m

pub returns : goal.returns
returns c = λ m. none_at 4096 m
