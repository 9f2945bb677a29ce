-- A folder at one moment: what it holds, what was touched, and what a crash may leave of it.
use Rattle.std.specs.Prelude.{◌≡◌, ◌⊎◌, ℕ, Bool, false, ◌||◌, IsFalse, List}
use Rattle.ips_text.specs.Ancestry.{covers}
use Rattle.ips_outside.specs.Image.{Image, IsImage, Agrees}
use Rattle.ips_outside.specs.Change.{names, moded}

-- The held image, and what was touched since the last sync: the paths at or below a touched name, and those whose
-- mode alone was touched.
pub record State : Type 0 where
  pub held : Image
  pub whole : List ℕ → Bool
  pub modes : List ℕ → Bool

-- at no path
abbrev pub nowhere : List ℕ → Bool
nowhere q = false

-- this image with nothing touched
abbrev pub untouched : Image → State
untouched t = record { held = t; whole = nowhere; modes = nowhere }

-- A crash may leave any well-formed image that agrees with the held one but at what was touched.
pub record MayLeave (s : State) (left : Image) : Type 0 where
  pub formed : IsImage left
  pub agrees : Agrees s.whole s.modes s.held left

-- Changed at these paths and in these modes, which are touched, and nowhere else.
pub record Changed (free loose : List ℕ → Bool) (old new : State) : Type 0 where
  pub whole : new.whole ≡ (λ q. free q || old.whole q)
  pub modes : new.modes ≡ (λ q. loose q || old.modes q)
  pub agrees : Agrees free loose old.held new.held

-- this image from now on, with a path touched
abbrev pub written : List ℕ → Image → State → State
written p u s = record { held = u; whole = λ q. covers p q || s.whole q; modes = s.modes }

-- another mode of what stands at the path, with that touched under each of its names
abbrev pub mode_set : ℕ → List ℕ → State → State
mode_set m p s = record { held = moded m p s.held; whole = s.whole; modes = λ q. names s.held p q || s.modes q }

-- the same image, safe
abbrev pub settled : State → State
settled s = untouched s.held

-- After a call that may have failed: nothing happened, or the path was changed and touched.
abbrev pub MayChange : (List ℕ → Bool) → (List ℕ → Bool) → State → State → Type 0
MayChange free loose old new = (new ≡ old) ⊎ Changed free loose old new

-- Reached from an older state by changes at these paths and in these modes alone.
pub record ChangedWithin (free loose : List ℕ → Bool) (old s : State) : Type 0 where
  pub whole : (q : List ℕ) → IsFalse (free q) → IsFalse (old.whole q) → IsFalse (s.whole q)
  pub modes : (q : List ℕ) → IsFalse (loose q) → IsFalse (old.modes q) → IsFalse (s.modes q)
  pub agrees : Agrees free loose old.held s.held

-- nothing is touched
pub record IsSettled (s : State) : Type 0 where
  pub whole : (q : List ℕ) → IsFalse (s.whole q)
  pub modes : (q : List ℕ) → IsFalse (s.modes q)
