-- What a step needs besides a directory above it.
use Rattle.std.specs.Prelude.{◌≡◌, ◌⊎◌, ℕ, Bool, true, false, not, ◌&&◌, ◌==◌, IsTrue, List, [], Option, Some, None, unwrap_or}
use Rattle.ips_text.specs.Ancestry.{covers, parent}
use Rattle.ips_outside.specs.Image.{Entry, Dir, File, Link, Other, Image, is_file, is_dir}
use Rattle.ips_steps.specs.Steps.{Step, Gone, Fresh, Mode, Put, Symlink, Hard, stage_path}

-- The file stands of which a put or a hard link makes one more name, and doesn't go with what stands at a hard link's own path.
abbrev pub finds_source : Image → Step → Bool
finds_source t (Gone p) = true
finds_source t (Fresh m p) = true
finds_source t (Mode m p) = true
finds_source t (Put n m p) = is_file (t.look (stage_path n))
finds_source t (Symlink p target) = true
finds_source t (Hard p to) = not (covers p to) && is_file (t.look to)

-- a file of another mode stands there
abbrev pub has_other_mode : ℕ → Option Entry → Bool
has_other_mode m (Some (Dir old f)) = false
has_other_mode m (Some (File old b)) = not (old == m)
has_other_mode m (Some (Link g)) = false
has_other_mode m (Some Other) = false
has_other_mode m None = false

-- the file of the content that a step puts has another mode than the step
abbrev pub content_differs : Image → Step → Bool
content_differs t (Gone p) = false
content_differs t (Fresh m p) = false
content_differs t (Mode m p) = false
content_differs t (Put n m p) = has_other_mode m (t.look (stage_path n))
content_differs t (Symlink p target) = false
content_differs t (Hard p to) = false

-- Where a directory is known, it stands; a path without bytes is none.
abbrev pub IsKnown : Image → List ℕ → Type 0
IsKnown t known = (known ≡ []) ⊎ IsTrue (is_dir (t.look known))

-- the directory that is known to stand behind a step that was laid: the one that it made, or else its parent, if it has one;
-- behind a step that only takes away none is
abbrev pub seen_with : Step → List ℕ
seen_with (Gone p) = []
seen_with (Fresh m p) = p
seen_with (Mode m p) = unwrap_or (parent p) []
seen_with (Put n m p) = unwrap_or (parent p) []
seen_with (Symlink p target) = unwrap_or (parent p) []
seen_with (Hard p to) = unwrap_or (parent p) []
