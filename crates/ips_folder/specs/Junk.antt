-- What junk makes of an image.
use Rattle.std.specs.Prelude.{◌≡◌, ◌⊎◌, ℕ, Bool, false, cond, IsTrue, IsFalse, List, [], Some, None, is_some}
use Rattle.ips_text.specs.Path.{IsPath}
use Rattle.ips_outside.specs.Image.{Dir, File, Image, is_dir, has_parent}
use Rattle.ips_outside.specs.Change.{with_entry_at}
use Rattle.ips_folder.specs.Crash.{junk_in}

-- the image with a directory of mode 0700 at the path, where its parent is a directory
abbrev pub with_dir : List ℕ → Image → Image
with_dir p t = cond (has_parent t p) (with_entry_at p (Some (Dir 448 false)) t) t

-- Each of these names is a directory of mode 0700 where its parent is a directory, and else nothing stands there.
pub record HasDirs (is_named : List ℕ → Bool) (t u : Image) : Type 0 where
  pub untouched : (q : List ℕ) → IsFalse (is_named q) → u.look q ≡ t.look q
  pub names : (q : List ℕ) → IsTrue (is_named q) → u.look q ≡ cond (has_parent u q) (Some (Dir 448 false)) None
  pub same : (a b : List ℕ) → u.same a b ≡ t.same a b

-- An empty file `junk` was put into the directory at the path, where a directory stands there, that is a path, and nothing
-- stands at it. Nothing else is changed.
pub record AddsJunk (p : List ℕ) (t u : Image) : Type 0 where
  pub only : (u ≡ t) ⊎ (IsTrue (is_dir (t.look p)) × (t.look (junk_in p) ≡ None) × (u ≡ with_entry_at (junk_in p) (Some (File 384 [])) t))
  pub made : IsTrue (is_dir (t.look p)) → IsPath (junk_in p) → t.look (junk_in p) ≡ None → u.look (junk_in p) ≡ Some (File 384 [])

-- The same for each of these names. Each file that was put has a node of its own.
pub record HasJunk (is_named : List ℕ → Bool) (t u : Image) : Type 0 where
  pub old : (q : List ℕ) → IsTrue (is_some (t.look q)) → u.look q ≡ t.look q
  pub junk : (p : List ℕ) → IsTrue (is_named p) → IsTrue (is_dir (t.look p)) → IsPath (junk_in p) → t.look (junk_in p) ≡ None → u.look (junk_in p) ≡ Some (File 384 [])
  pub fresh : (q : List ℕ) → t.look q ≡ None → (u.look q ≡ None) ⊎ (u.look q ≡ Some (File 384 []))
  pub nothing_else : (q : List ℕ) → t.look q ≡ None → ((p : List ℕ) → IsTrue (is_named p) → IsTrue (is_dir (t.look p)) → q ≡ junk_in p → ⊥) → u.look q ≡ None
  pub same : (a b : List ℕ) → IsTrue (is_some (t.look a)) → u.same a b ≡ t.same a b
  pub alone : (a b : List ℕ) → t.look a ≡ None → IsTrue (u.same a b) → b ≡ a
