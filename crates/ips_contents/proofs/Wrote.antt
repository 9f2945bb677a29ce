-- A write at a path, among those at which a run may write.
use Rattle.std.proofs.Common.{◌≡◌, ℕ, Bool, true, false, List, Result}
use Rattle.ips_text.specs.Ancestry.{covers}
use Rattle.ips_outside.specs.State.{State, nowhere}
use Rattle.ips_outside.specs.Outside.{Outside, IsOutside}
use Rattle.ips_folder.specs.Calls.{Writes, ChangesOnly}
use Rattle.ips_folder.proofs.Runs.{keeps_then, keeps_wider, one_write}

module _ {F : Type 0} (o : Outside F) (sane : IsOutside o) (free : List ℕ → Bool) (p : List ℕ) (off : (q : List ℕ) → free q ≡ false → covers p q ≡ false) where
  pub wrote : (old new : F) (to : State) {T E : Type 0} (result : Result T E) → o.tells old ≡ true → Writes o (covers p) nowhere to old new result → ChangesOnly o free nowhere old new
  wrote old new to result told w = keeps_wider o (covers p) nowhere free nowhere old new off (λ q n. n) (one_write o sane old new (covers p) nowhere to result told w)

  pub wrote_then : (old mid new : F) (to : State) {T E : Type 0} (result : Result T E) → ChangesOnly o free nowhere old mid → o.tells mid ≡ true → Writes o (covers p) nowhere to mid new result → ChangesOnly o free nowhere old new
  wrote_then old mid new to result run told w = keeps_then o free nowhere old mid new run (wrote mid new to result told w)
