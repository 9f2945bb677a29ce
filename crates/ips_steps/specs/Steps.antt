-- The steps of a plan, and what they make of an image.
use Rattle.std.specs.Prelude.{ℕ, Bool, true, false, not, ◌&&◌, ◌||◌, List, [], ◌∷◌, ◌++◌, Option, Some, None, is_some}
use Rattle.std.specs.Fmt.{decimal}
use lib.Chars.{codes}
use Rattle.ips_text.specs.Ancestry.{same_path, covers, parent}
use Rattle.ips_outside.specs.Image.{Dir, File, Link, Image, is_file, file_bytes, has_parent}
use Rattle.ips_outside.specs.Change.{with_entry_at, joined, moded, names}

-- A step takes away what is at and below its path, makes a directory, sets a mode, puts a file with a numbered
-- content, or makes a symbolic link or one more name of a file.
pub data Step : Type 0 where
  Gone : List ℕ → Step
  Fresh : ℕ → List ℕ → Step
  Mode : ℕ → List ℕ → Step
  Put : ℕ → ℕ → List ℕ → Step
  Symlink : List ℕ → List ℕ → Step
  Hard : List ℕ → List ℕ → Step

-- the path of a step
abbrev pub path_of : Step → List ℕ
path_of (Gone p) = p
path_of (Fresh m p) = p
path_of (Mode m p) = p
path_of (Put n m p) = p
path_of (Symlink p target) = p
path_of (Hard p to) = p

-- the bytes of each numbered content that has a file
abbrev pub Stage : Type 0
Stage = ℕ → Option (List ℕ)

-- the folder of the contents
unfoldable pub stage_name : List ℕ
stage_name = codes "var/pkg/stage"

-- the path of a content's file
abbrev pub stage_path : ℕ → List ℕ
stage_path n = stage_name ++ 47 ∷ decimal n

-- the contents that an image holds
abbrev pub stage_of : Image → Stage
stage_of t n = file_bytes (t.look (stage_path n))

-- the bytes of a content; a content without a file has none
abbrev pub content_bytes : Option (List ℕ) → List ℕ
content_bytes (Some bytes) = bytes
content_bytes None = []

-- the image after one step; a new directory, file or link takes the place of what stands at and below its path
abbrev pub laid : Stage → Step → Image → Image
laid stage (Gone p) t = with_entry_at p None t
laid stage (Fresh m p) t = with_entry_at p (Some (Dir m false)) t
laid stage (Mode m p) t = moded m p t
laid stage (Put n m p) t = with_entry_at p (Some (File m (content_bytes (stage n)))) t
laid stage (Symlink p target) t = with_entry_at p (Some (Link target)) t
laid stage (Hard p to) t = joined p to t

-- the image after each step in turn
abbrev pub all_laid : Stage → List Step → Image → Image
all_laid stage [] t = t
all_laid stage (s ∷ rest) t = all_laid stage rest (laid stage s t)

-- A step can be laid where its parent is a directory, a content has its file, and a hard link's target is a file that
-- doesn't go with what stands at the link's own path. What goes asks for nothing.
abbrev pub can_lay : Stage → Step → Image → Bool
can_lay stage (Gone p) t = true
can_lay stage (Fresh m p) t = has_parent t p
can_lay stage (Mode m p) t = has_parent t p
can_lay stage (Put n m p) t = has_parent t p && is_some (stage n)
can_lay stage (Symlink p target) t = has_parent t p
can_lay stage (Hard p to) t = has_parent t p && (not (covers p to) && is_file (t.look to))

-- a list is possible where each step can be laid at its turn
abbrev pub possible : Stage → List Step → Image → Bool
possible stage [] t = true
possible stage (s ∷ rest) t = can_lay stage s t && possible stage rest (laid stage s t)

-- a step other than a mode is at or above the path
abbrev pub frees : Step → List ℕ → Bool
frees (Gone p) q = covers p q
frees (Fresh m p) q = covers p q
frees (Mode m p) q = false
frees (Put n m p) q = covers p q
frees (Symlink p target) q = covers p q
frees (Hard p to) q = covers p q

-- a step of the list, other than a mode, is at or above the path; at every other path what stands is kept but for its mode
abbrev pub freed : List Step → List ℕ → Bool
freed [] q = false
freed (s ∷ rest) q = frees s q || freed rest q

-- the test holds at the parent, where the path has one
abbrev pub at_parent : (List ℕ → Bool) → Option (List ℕ) → Bool
at_parent free (Some q) = free q
at_parent free None = false

-- a step of the list, other than a mode, is strictly above the path
abbrev pub parent_freed : List Step → List ℕ → Bool
parent_freed rest p = at_parent (freed rest) (parent p)

-- No later step undoes what the step reads: none but modes stand strictly above its path, at or above a mode's path, or
-- at or above a hard link's target.
abbrev pub sound_before : Step → List Step → Bool
sound_before (Gone p) rest = true
sound_before (Fresh m p) rest = not (parent_freed rest p)
sound_before (Mode m p) rest = not (parent_freed rest p) && not (freed rest p)
sound_before (Put n m p) rest = not (parent_freed rest p)
sound_before (Symlink p target) rest = not (parent_freed rest p)
sound_before (Hard p to) rest = not (parent_freed rest p) && not (freed rest to)

-- a list is sound where no step undoes what an earlier one reads
abbrev pub sound : List Step → Bool
sound [] = true
sound (s ∷ rest) = sound_before s rest && sound rest

-- the step sets the mode of what stands at the path
abbrev pub meets : Step → Image → List ℕ → Bool
meets (Gone p) t q = false
meets (Fresh m p) t q = false
meets (Mode m p) t q = names t p q
meets (Put n m p) t q = false
meets (Symlink p target) t q = false
meets (Hard p to) t q = false

-- a step of the list sets the mode of what then stands at the path
abbrev pub met : Stage → List Step → Image → List ℕ → Bool
met stage [] t q = false
met stage (s ∷ rest) t q = meets s t q || met stage rest (laid stage s t) q

-- the step reads nothing at these paths: not its parent, nor a hard link's target, nor what a mode is for
abbrev pub clear_of : (List ℕ → Bool) → Step → Bool
clear_of apart (Gone p) = true
clear_of apart (Fresh m p) = not (at_parent apart (parent p))
clear_of apart (Mode m p) = not (at_parent apart (parent p)) && not (apart p)
clear_of apart (Put n m p) = not (at_parent apart (parent p))
clear_of apart (Symlink p target) = not (at_parent apart (parent p))
clear_of apart (Hard p to) = not (at_parent apart (parent p)) && not (apart to)

-- The steps as they are laid on a folder that holds the contents. A put gives the file of its content the put's mode, and its
-- path one more name of that file.
abbrev pub linked : List Step → List Step
linked [] = []
linked (Gone p ∷ rest) = Gone p ∷ linked rest
linked (Fresh m p ∷ rest) = Fresh m p ∷ linked rest
linked (Mode m p ∷ rest) = Mode m p ∷ linked rest
linked (Put n m p ∷ rest) = Mode m (stage_path n) ∷ Hard p (stage_path n) ∷ linked rest
linked (Symlink p target ∷ rest) = Symlink p target ∷ linked rest
linked (Hard p to ∷ rest) = Hard p to ∷ linked rest

-- no content, for lists that put none
abbrev pub no_contents : Stage
no_contents n = None

-- the image after a list that is laid with the contents that the image holds
abbrev pub after : List Step → Image → Image
after steps t = all_laid no_contents (linked steps) t

-- a list is feasible where each step can be laid so at its turn
abbrev pub feasible : List Step → Image → Bool
feasible steps t = possible no_contents (linked steps) t

-- a step of the list, laid so, sets the mode of what then stands at the path
abbrev pub sets : List Step → Image → List ℕ → Bool
sets steps t q = met no_contents (linked steps) t q

-- no step of the list reads anything at these paths
abbrev pub all_clear_of : (List ℕ → Bool) → List Step → Bool
all_clear_of apart [] = true
all_clear_of apart (s ∷ rest) = clear_of apart s && all_clear_of apart rest

-- a step of the list has this path
abbrev pub named : List Step → List ℕ → Bool
named [] q = false
named (s ∷ rest) q = same_path (path_of s) q || named rest q

-- no two steps have one path
abbrev pub distinct : List Step → Bool
distinct [] = true
distinct (s ∷ rest) = not (named rest (path_of s)) && distinct rest
