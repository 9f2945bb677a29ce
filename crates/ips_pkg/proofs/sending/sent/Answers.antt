use Rattle.std.proofs.Common.{◌≡◌, ℕ, List, subst, sym}
use Rattle.ips_outside.specs.Outside.{Outside}
use Rattle.ips_outside.specs.Taking.{Taking}
use Rattle.ips_pkg.specs.Sent.{Sends}
use Rattle.ips_pkg.proofs.sending.sent.Goals as goal

-- an equal number is one with which the program ends too
module _ {F S O : Type 0} (q : Outside S) (o : Outside F) (t : Taking O) (proto : S → List ℕ) (target : F → List ℕ) (words : List (List ℕ)) (moment : ℕ) where
  same_number : (number other : ℕ) → other ≡ number → Sends q o t proto target words moment number → Sends q o t proto target words moment other
  same_number number other is ends = subst (λ (n : ℕ). Sends q o t proto target words moment n) (sym is) ends

pub returns : goal.returns
returns c = same_number _ _ _ _ _ _ _ _ _ c.from.ensures c.number_for.ensures
