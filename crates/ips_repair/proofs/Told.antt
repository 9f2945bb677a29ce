-- Faults of a repair, as they come.
use Rattle.std.proofs.Common.{ℕ, Bool, List, sym, subst}
use Rattle.std.specs.Prelude.{IsTrue}
use Rattle.ips_outside.specs.Image.{Image}
use Rattle.ips_meaning.specs.declared.entry.Entry.{Entry}
use Rattle.ips_emit.specs.declared.emitting.Emitted.{Emitted}
use Rattle.ips_repair.specs.Drawing.{IsBeyond}
use Rattle.ips_repair.specs.Repairing.{AreStepsToRepair, ComesOfRepair, HindersRepair, IsUnmovable}
use Rattle.ips_repair.specs.declared.fault.RepairFault.{RepairFault}
use Rattle.ips_repair.specs.declared.fault.RepairFault.TheVariants as fault

module _ (told : Bool) (t : Image) (text : List ℕ) (history : List (List ℕ)) (want : List (List ℕ × Entry)) where
  pub unmovable_comes : (p : List ℕ) → (IsTrue told → HindersRepair text history want t p) → (why : RepairFault) → IsUnmovable p why → ComesOfRepair told t text history want why
  unmovable_comes p hinders (fault.Unmovable path) is = λ h. subst (HindersRepair text history want t) (sym is) (hinders h)
  unmovable_comes p hinders (fault.TooLarge excess) is = absurd is
  unmovable_comes p hinders fault.FolderFault is = absurd is

  pub beyond_comes : (e : Emitted) → (IsTrue told → AreStepsToRepair text history want t e) → (why : RepairFault) → IsBeyond e why → ComesOfRepair told t text history want why
  beyond_comes e steps (fault.TooLarge excess) is = record { emitted = e; lists = is.0; steps = steps; beyond = is.1 }
  beyond_comes e steps (fault.Unmovable path) is = absurd is
  beyond_comes e steps fault.FolderFault is = absurd is
