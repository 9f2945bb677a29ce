-- Directories that are opened.
use Rattle.std.specs.Prelude.{◌≡◌, ◌⊎◌, ℕ, Bool, IsTrue, List, Some}
use Rattle.ips_outside.specs.Image.{Image, Dir}
use Rattle.ips_outside.specs.State.{nowhere}
use Rattle.ips_outside.specs.Outside.{Outside}
use Rattle.ips_folder.specs.Calls.{ChangesOnly}
use Rattle.ips_rehearse.specs.Tried.{Passed}

-- A directory that stood at the path is there with mode 0700.
abbrev pub LeavesOpen : List ℕ → Image → Image → Type 0
LeavesOpen p t u = (m : ℕ) (f : Bool) → t.look p ≡ Some (Dir m f) → u.look p ≡ Some (Dir 448 f)

-- Calls that do nothing but set modes, at these paths: at every moment nothing else is changed, and where something has happened a mode is touched.
pub record OnlyOpens {F : Type 0} (o : Outside F) (loose : List ℕ → Bool) (old new : F) : Type 0 where
  pub any_moment : IsTrue (o.tells old) → ChangesOnly o nowhere loose old new
  pub touched : IsTrue (o.tells old) → (o.state new ≡ o.state old) ⊎ ((q : List ℕ) × IsTrue ((o.state new).modes q))
  pub passed : Passed o old new
