-- What a list of steps leaves, path by path.
use Rattle.std.specs.Prelude.{◌≡◌, ℕ, Bool, true, false, cond, not, ◌&&◌, ◌||◌, IsTrue, IsFalse, List, [], ◌∷◌, Option, Some, None, Contains}
use Rattle.ips_text.specs.Ancestry.{same_path}
use Rattle.ips_outside.specs.Image.{Entry, Dir, File, Link, Image, is_file, with_mode}
use Rattle.ips_outside.specs.Change.{names}
use Rattle.ips_steps.specs.Steps.{Step, Gone, Fresh, Mode, Put, Symlink, Hard, Stage, content_bytes, freed, can_lay}

-- the path that a step's file comes from: at a hard link's own path its target, else the path itself
abbrev pub back : Step → List ℕ → List ℕ
back (Gone p) q = q
back (Fresh m p) q = q
back (Mode m p) q = q
back (Put n m p) q = q
back (Symlink p target) q = q
back (Hard p to) q = cond (same_path p q) to q

-- the path whose file the list leaves at a path: through each hard link back to what it leads to
abbrev pub source : List Step → List ℕ → List ℕ
source [] q = q
source (s ∷ rest) q = back s (source rest q)

-- the entry that the list makes at a path: a directory, a file or a symbolic link
abbrev pub made : Stage → List Step → List ℕ → Option Entry
made stage [] q = None
made stage (Gone p ∷ rest) q = made stage rest q
made stage (Mode m p ∷ rest) q = made stage rest q
made stage (Hard p to ∷ rest) q = made stage rest q
made stage (Fresh m p ∷ rest) q = cond (same_path p q) (Some (Dir m false)) (made stage rest q)
made stage (Put n m p ∷ rest) q = cond (same_path p q) (Some (File m (content_bytes (stage n)))) (made stage rest q)
made stage (Symlink p target ∷ rest) q = cond (same_path p q) (Some (Link target)) (made stage rest q)

-- what stands at a path, with the modes that the list sets at kept names of its directory or file, one after another
abbrev pub with_modes : (List ℕ → Bool) → List Step → Image → List ℕ → Option Entry → Option Entry
with_modes free [] t q e = e
with_modes free (Mode m p ∷ rest) t q e = with_modes free rest t q (cond (not (free p) && names t p q) (with_mode m e) e)
with_modes free (Gone p ∷ rest) t q e = with_modes free rest t q e
with_modes free (Fresh m p ∷ rest) t q e = with_modes free rest t q e
with_modes free (Put n m p ∷ rest) t q e = with_modes free rest t q e
with_modes free (Symlink p target ∷ rest) t q e = with_modes free rest t q e
with_modes free (Hard p to ∷ rest) t q e = with_modes free rest t q e

-- what is left at a path that is no hard link's: the entry made there, or what was kept there
abbrev pub bare : Stage → List Step → Image → List ℕ → Option Entry
bare stage steps t q = cond (freed steps q) (made stage steps q) (with_modes (freed steps) steps t q (t.look q))

-- which of such paths then share a file: a new file has one, and kept ones share as before
abbrev pub bare_same : Stage → List Step → Image → List ℕ → List ℕ → Bool
bare_same stage steps t a b = cond (freed steps a || freed steps b) (same_path a b && is_file (made stage steps a)) (t.same a b)

-- the image that a list leaves, told path by path
abbrev pub outcome : Stage → List Step → Image → Image
outcome stage steps t = record {
  look = λ q. bare stage steps t (source steps q);
  same = λ a b. bare_same stage steps t (source steps a) (source steps b);
}

-- each step of the list could be laid on this image
abbrev pub all_fit : Stage → List Step → Image → Bool
all_fit stage [] u = true
all_fit stage (s ∷ rest) u = can_lay stage s u && all_fit stage rest u

-- the mode that a step sets at a path, where its own path is kept and a name of what stands there; else the later one's
abbrev pub mode_or : Option ℕ → Bool → ℕ → Option ℕ
mode_or (Some later) meets m = Some later
mode_or None meets m = cond meets (Some m) None

-- the mode that the list gives to what is kept at a path: that of the last mode step at a kept name of it, if there is one
abbrev pub last_mode : (List ℕ → Bool) → List Step → Image → List ℕ → Option ℕ
last_mode free [] t q = None
last_mode free (Mode m p ∷ rest) t q = mode_or (last_mode free rest t q) (not (free p) && names t p q) m
last_mode free (Gone p ∷ rest) t q = last_mode free rest t q
last_mode free (Fresh m p ∷ rest) t q = last_mode free rest t q
last_mode free (Put n m p ∷ rest) t q = last_mode free rest t q
last_mode free (Symlink p target ∷ rest) t q = last_mode free rest t q
last_mode free (Hard p to ∷ rest) t q = last_mode free rest t q

-- an entry with this mode, or as it is
abbrev pub given : Option ℕ → Option Entry → Option Entry
given (Some m) e = with_mode m e
given None e = e

-- the list makes something at the path
abbrev pub makes_at : List Step → List ℕ → Bool
makes_at [] q = false
makes_at (Gone p ∷ rest) q = makes_at rest q
makes_at (Fresh m p ∷ rest) q = same_path p q || makes_at rest q
makes_at (Mode m p ∷ rest) q = makes_at rest q
makes_at (Put n m p ∷ rest) q = same_path p q || makes_at rest q
makes_at (Symlink p target ∷ rest) q = same_path p q || makes_at rest q
makes_at (Hard p to ∷ rest) q = same_path p q || makes_at rest q

-- The image behind a list of steps, path by path: what the list makes stands; what it frees and doesn't make is absent; all
-- else is kept. Of modes that it sets on one file or directory the last counts.
pub record IsLaidByPath (stage : Stage) (steps : List Step) (t u : Image) : Type 0 where
  -- what is kept stands as before, but for the last mode given to it
  pub kept : (q : List ℕ) → IsFalse (freed steps q) → u.look q ≡ given (last_mode (freed steps) steps t q) (t.look q)
  -- and shares a file as before
  pub sharing : (a b : List ℕ) → IsFalse (freed steps a) → IsFalse (freed steps b) → u.same a b ≡ t.same a b
  -- a directory is made
  pub fresh : (m : ℕ) (p : List ℕ) → Contains steps (Fresh m p) → u.look p ≡ Some (Dir m false)
  -- a file is put, with a node that it shares with nothing but hard links that lead to it
  pub put : (n m : ℕ) (p : List ℕ) → Contains steps (Put n m p) → u.look p ≡ Some (File m (content_bytes (stage n)))
  pub own_node : (n m : ℕ) (p : List ℕ) → Contains steps (Put n m p) → (q : List ℕ) → u.same p q ≡ same_path p (source steps q)
  -- a symbolic link is made
  pub symlink : (p target : List ℕ) → Contains steps (Symlink p target) → u.look p ≡ Some (Link target)
  -- a hard link shows its target's file and shares its node
  pub hard : (p to : List ℕ) → Contains steps (Hard p to) → (u.look p ≡ u.look to) × IsTrue (is_file (u.look to)) × IsTrue (u.same p to)
  pub hard_node : (p to : List ℕ) → Contains steps (Hard p to) → (q : List ℕ) → u.same p q ≡ u.same to q
  -- all else that it frees is absent
  pub absent : (q : List ℕ) → IsTrue (freed steps q) → IsFalse (makes_at steps q) → u.look q ≡ None
