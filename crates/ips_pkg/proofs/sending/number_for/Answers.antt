use Rattle.std.proofs.Common.{◌≡◌, ℕ, List, Result, Ok, Err, IfOk, sym, subst, ◌∙◌}
use Rattle.ips_outside.specs.Outside.{Outside}
use Rattle.ips_outside.specs.Taking.{Taking}
use Rattle.ips_host.specs.declared.lock.Lock.{Lock}
use Rattle.ips_host.specs.declared.lock.Held.{Held}
use Rattle.ips_host.specs.declared.lock.Unlocked.{Unlocked}
use Rattle.ips_pkg.specs.Mogrified.{IsThird}
use Rattle.ips_pkg.specs.Sent.{IsLockOf, Found, Sends}
use Rattle.ips_pkg.proofs.sending.number_for.Goals as goal

-- what is held is the lock that was asked for
held_lock : (words : List (List ℕ)) (moment : ℕ) (lock : Lock) → IsLockOf moment words lock → (found : Result Held Unlocked) → IfOk found (λ held. held.lock ≡ lock) → IfOk found (λ held. IsLockOf moment words held.lock)
held_lock words moment lock wanted (Ok held) is = subst (IsLockOf moment words) (sym is) wanted
held_lock words moment lock wanted (Err why) is = tt

-- on the folder that was named
held_folder : (words : List (List ℕ)) (folder : List ℕ) → IsThird words folder → (found : Result Held Unlocked) → IfOk found (λ held. held.folder.now ≡ folder) → IfOk found (λ held. IsThird words held.folder.now)
held_folder words folder third (Ok held) is = subst (IsThird words) (sym is) third
held_folder words folder third (Err why) is = tt

pub number_found-requires-clause-lock : goal.number_found-requires-clause-lock
number_found-requires-clause-lock c = held_lock _ _ c.in-Ok.lock c.in-Ok.ensures c.take_lock-found.result c.take_lock-found.ensures.lock

pub number_found-requires-clause-folder : goal.number_found-requires-clause-folder
number_found-requires-clause-folder c = held_folder _ _ c.third-target.ensures c.take_lock-found.result c.take_lock-found.ensures.folder

-- an equal moment is one of which the program ends so too
module _ {F S O : Type 0} (q : Outside S) (o : Outside F) (t : Taking O) (proto : S → List ℕ) (target : F → List ℕ) (words : List (List ℕ)) (number : ℕ) where
  same_moment : (moment other : ℕ) → moment ≡ other → Sends q o t proto target words moment number → Sends q o t proto target words other number
  same_moment moment other is ends = subst (λ (n : ℕ). Sends q o t proto target words n number) is ends

pub returns : goal.returns
returns c =
    same_moment _ _ _ _ _ _ _ _ _ c.moment_of-moment.ensures
    (Found c.in-Ok.lock c.in-Ok.ensures c.take_lock-found.result c.take_lock-found.ensures.free c.number_found.ensures)
