-- What one change makes of an image.
use Rattle.std.specs.Prelude.{ℕ, Bool, true, false, cond, ◌&&◌, ◌||◌, List, ◌++◌, Option, Some, None}
use Rattle.ips_text.specs.Ancestry.{same_path, covers, is_below}
use Rattle.ips_outside.specs.Image.{Entry, Dir, File, Link, Other, Image, is_file, with_mode}

-- This entry in place of what stands at and below the path; a file has a node of its own.
abbrev pub with_entry_at : List ℕ → Option Entry → Image → Image
with_entry_at p e t = record {
  look = λ q. cond (same_path p q) e (cond (covers p q) None (t.look q));
  same = λ a b. cond (covers p a || covers p b) (same_path p a && (same_path p b && is_file e)) (t.same a b);
}

-- The file of the second path, also under the first, in place of what stands at and below that.
abbrev pub joined : List ℕ → List ℕ → Image → Image
joined p to t = record {
  look = λ q. cond (same_path p q) (t.look to) (cond (covers p q) None (t.look q));
  same = λ a b. cond (is_below p a || is_below p b) false (t.same (cond (same_path p a) to a) (cond (same_path p b) to b));
}

-- the path, or another name of its file
abbrev pub names : Image → List ℕ → List ℕ → Bool
names t p q = same_path p q || t.same p q

-- Another mode of what stands at the path, which all names of a file have.
abbrev pub moded : ℕ → List ℕ → Image → Image
moded m p t = record {
  look = λ q. cond (names t p q) (with_mode m (t.look q)) (t.look q);
  same = t.same;
}

-- a file with these bytes at its end; what is no file stays
abbrev pub more_bytes : List ℕ → Option Entry → Option Entry
more_bytes more (Some (Dir m f)) = Some (Dir m f)
more_bytes more (Some (File m b)) = Some (File m (b ++ more))
more_bytes more (Some (Link g)) = Some (Link g)
more_bytes more (Some Other) = Some Other
more_bytes more None = None

-- The file at the path, which has no other name, with these bytes at its end.
abbrev pub appended : List ℕ → List ℕ → Image → Image
appended p more t = record { look = λ q. cond (same_path p q) (more_bytes more (t.look q)) (t.look q); same = t.same }

-- a directory with the mark of names that are no paths; what is none stays
abbrev pub with_mark : Option Entry → Option Entry
with_mark (Some (Dir m f)) = Some (Dir m true)
with_mark (Some (File m b)) = Some (File m b)
with_mark (Some (Link g)) = Some (Link g)
with_mark (Some Other) = Some Other
with_mark None = None

-- The directory at the path marked as one that also holds names that are no paths.
abbrev pub marked : List ℕ → Image → Image
marked p t = record { look = λ q. cond (same_path p q) (with_mark (t.look q)) (t.look q); same = t.same }
