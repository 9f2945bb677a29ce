-- An image: a tree taken up to the naming of its nodes, by what stands at each path and which names share a file.
use Rattle.std.specs.Prelude.{◌≡◌, ℕ, Bool, true, false, ◌||◌, IsTrue, IsFalse, List, Option, Some, None, is_none, is_some, nat_lt}
use Rattle.ips_text.specs.Ancestry.{same_path, covers, parent}
use Rattle.ips_text.specs.Path.{IsPath}

-- A directory has a mode, and a mark where it also holds names that are no paths here. A file has a mode and its
-- bytes, a symbolic link its target.
pub data Entry : Type 0 where
  Dir : ℕ → Bool → Entry
  File : ℕ → List ℕ → Entry
  Link : List ℕ → Entry
  Other : Entry

-- What stands at each path, and which two paths are names of one file.
pub record Image : Type 0 where
  pub look : List ℕ → Option Entry
  pub same : List ℕ → List ℕ → Bool

-- nothing stands anywhere
abbrev pub nothing : Image
nothing = record { look = λ q. None; same = λ a b. false }

-- a directory stands there
abbrev pub is_dir : Option Entry → Bool
is_dir (Some (Dir m f)) = true
is_dir (Some (File m b)) = false
is_dir (Some (Link g)) = false
is_dir (Some Other) = false
is_dir None = false

-- a file stands there
abbrev pub is_file : Option Entry → Bool
is_file (Some (Dir m f)) = false
is_file (Some (File m b)) = true
is_file (Some (Link g)) = false
is_file (Some Other) = false
is_file None = false

-- the bytes of a file
abbrev pub file_bytes : Option Entry → Option (List ℕ)
file_bytes (Some (Dir m f)) = None
file_bytes (Some (File m bytes)) = Some bytes
file_bytes (Some (Link g)) = None
file_bytes (Some Other) = None
file_bytes None = None

-- the target of a symbolic link
abbrev pub link_target : Option Entry → Option (List ℕ)
link_target (Some (Dir m f)) = None
link_target (Some (File m b)) = None
link_target (Some (Link target)) = Some target
link_target (Some Other) = None
link_target None = None

-- the entry with another mode; what has none stays
abbrev pub with_mode : ℕ → Option Entry → Option Entry
with_mode m (Some (Dir old f)) = Some (Dir m f)
with_mode m (Some (File old b)) = Some (File m b)
with_mode m (Some (Link g)) = Some (Link g)
with_mode m (Some Other) = Some Other
with_mode m None = None

-- a directory stands at the path, or no path is asked for
abbrev pub dir_or_none : Image → Option (List ℕ) → Bool
dir_or_none t (Some q) = is_dir (t.look q)
dir_or_none t None = true

-- the path's parent is a directory; that of a path of one part is the root
abbrev pub has_parent : Image → List ℕ → Bool
has_parent t p = dir_or_none t (parent p)

-- its mode, where it has one, is one of permission bits: below 4096
abbrev pub has_small_mode : Option Entry → Bool
has_small_mode (Some (Dir m f)) = nat_lt m 4096
has_small_mode (Some (File m b)) = nat_lt m 4096
has_small_mode (Some (Link g)) = true
has_small_mode (Some Other) = true
has_small_mode None = true

-- A well-formed image: something stands only at paths, what stands above something is a directory, modes are
-- permission bits, and to share a file is an equivalence among the names of files, which show the same.
pub record IsImage (t : Image) : Type 0 where
  pub paths : (q : List ℕ) → IsTrue (is_some (t.look q)) → IsPath q
  pub modes : (q : List ℕ) → IsTrue (has_small_mode (t.look q))
  pub below_dirs : (p q : List ℕ) → IsTrue (covers p q) → IsFalse (same_path p q) → IsTrue (is_none (t.look q) || is_dir (t.look p))
  pub files : (a b : List ℕ) → IsTrue (t.same a b) → IsTrue (is_file (t.look a)) × (t.look a ≡ t.look b)
  pub self : (a : List ℕ) → IsTrue (is_file (t.look a)) → IsTrue (t.same a a)
  pub sym : (a b : List ℕ) → t.same a b ≡ t.same b a
  pub trans : (a b c : List ℕ) → IsTrue (t.same a b) → t.same a c ≡ t.same b c

-- The second image is the first, but at free paths, and but for the modes of loose ones.
pub record Agrees (free loose : List ℕ → Bool) (t u : Image) : Type 0 where
  pub look : (q : List ℕ) → IsFalse (free q) → IsFalse (loose q) → u.look q ≡ t.look q
  pub but_mode : (q : List ℕ) → IsFalse (free q) → with_mode 0 (u.look q) ≡ with_mode 0 (t.look q)
  pub same : (a b : List ℕ) → IsFalse (free a) → IsFalse (free b) → u.same a b ≡ t.same a b
