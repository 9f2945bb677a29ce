-- When entries say the same.
use Rattle.std.specs.Prelude.{◌≡◌, ℕ, List, [], ◌∷◌}
use Rattle.ips_meaning.specs.declared.entry.Entry.{Entry}
use Rattle.ips_meaning.specs.declared.entry.Entry.TheVariants.{Dir, File, Link, Hard}

-- Two entries are equal but for spare room: directories of one mode; files of one payload, mode and preserve; symbolic links
-- of one target; hard links to one path.
abbrev pub IsLike : Entry → Entry → Type 0
IsLike (Dir mode) (Dir other) = mode ≡ other
IsLike (File payload mode preserve) (File name bits kept) = (payload ≡ name) × (mode ≡ bits) × (preserve ≡ kept)
IsLike (Link target) (Link other) = target ≡ other
IsLike (Hard to) (Hard other) = to.bytes ≡ other.bytes
IsLike entry other = ⊥

-- The lists have the same paths in one order, and at each path entries that say the same.
abbrev pub AreLike : List (List ℕ × Entry) → List (List ℕ × Entry) → Type 0
AreLike [] [] = Unit {0}
AreLike [] (y ∷ ys) = ⊥
AreLike (x ∷ xs) [] = ⊥
AreLike (x ∷ xs) (y ∷ ys) = (x.0 ≡ y.0) × IsLike x.1 y.1 × AreLike xs ys
