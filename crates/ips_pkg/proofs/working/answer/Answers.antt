use Rattle.std.proofs.Common.{◌≡◌, ℕ, List, subst, sym}
use Rattle.ips_outside.specs.Outside.{Outside}
use Rattle.ips_outside.specs.Running.{Running}
use Rattle.ips_outside.specs.Taking.{Taking}
use Rattle.ips_pkg.specs.Ends.{Ends}
use Rattle.ips_pkg.proofs.working.answer.Goals as goal

-- an equal number is one with which the program ends too
module _ {F S P O : Type 0} (o : Outside F) (q : Outside S) (r : Running P) (t : Taking O) (image : F → List ℕ) (repository : S → List ℕ) (words : List (List ℕ)) (moment : ℕ) where
  same_number : (number other : ℕ) → other ≡ number → Ends o q r t image repository words moment number → Ends o q r t image repository words moment other
  same_number number other is ends = subst (λ (n : ℕ). Ends o q r t image repository words moment n) (sym is) ends

pub returns : goal.returns
returns c = same_number _ _ _ _ _ _ _ _ _ _ c.from.ensures c.number_for.ensures
