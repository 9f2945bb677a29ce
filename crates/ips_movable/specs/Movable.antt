-- What can be moved into the salvage folder.
use Rattle.std.specs.Prelude.{◌≡◌, ℕ, Bool, true, false, not, ◌&&◌, ◌||◌, IsTrue, IsFalse, List, ◌∷◌, ◌++◌, Some, length, slice_get, take}
use Rattle.std.specs.List.{AllByRecursion}
use Rattle.ips_text.specs.Path.{IsPath}
use Rattle.ips_text.specs.Quote.{AreBytes}
use Rattle.ips_outside.specs.Image.{Image}
use Rattle.ips_steps.specs.Targets.{is_target}
use Rattle.ips_after.specs.Salvage.{is_long_path, movable}
use Rattle.ips_found.specs.Found.{Found, FoundDir, FoundFile, FoundLink, FoundOther, found_told}
use Rattle.ips_found.specs.declared.found.Thing.{Thing}

-- a step can make again what was found: a directory without names that are no paths, a file, or a symbolic link that says 1 to 4,095 bytes without NUL
abbrev pub can_be_made : Found → Bool
can_be_made (FoundDir m f) = not f
can_be_made (FoundFile m) = true
can_be_made (FoundLink g) = is_target g
can_be_made FoundOther = false

-- the thing can't be moved below the folder: no step can make it again, or its name there is too long for a path
abbrev pub is_fixed : List ℕ → Thing → Bool
is_fixed root x = not (can_be_made (found_told x.found)) || is_long_path (root ++ 47 ∷ x.path.bytes)

-- what stands at the path can't be moved below the folder
abbrev pub cannot_move : Image → List ℕ → List ℕ → Bool
cannot_move t root p = not (movable (t.look p)) || is_long_path (root ++ 47 ∷ p)

-- what a symbolic link says that was found is bytes
abbrev pub SaysBytes : Found → Type 0
SaysBytes (FoundDir m f) = Unit {0}
SaysBytes (FoundFile m) = Unit {0}
SaysBytes (FoundLink g) = AreBytes g
SaysBytes FoundOther = Unit {0}

-- The thing can be moved below the folder: a step can make it again, of bytes if it is a symbolic link, and its name there is a path.
pub record CanMove (root : List ℕ) (x : Thing) : Type 0 where
  pub made : IsTrue (can_be_made (found_told x.found))
  pub says : SaysBytes (found_told x.found)
  pub short : IsFalse (is_long_path (root ++ 47 ∷ x.path.bytes))
  pub path : IsPath (root ++ 47 ∷ x.path.bytes)

-- The thing at this place can't be moved below the folder, and each before it can.
pub record IsFirstFixed (root : List ℕ) (things : List Thing) (i : ℕ) : Type 0 where
  pub thing : Thing
  pub there : slice_get things i ≡ Some thing
  pub fixed : IsTrue (is_fixed root thing)
  pub before : AllByRecursion (CanMove root) (take i things)
