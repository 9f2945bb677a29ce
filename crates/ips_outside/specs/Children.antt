-- The children of a directory.
use Rattle.std.specs.Prelude.{◌≡◌, ℕ, Bool, false, ◌&&◌, List, map, Option, Some, None, is_some}
use Rattle.std.specs.List.{list_any}
use Rattle.std.specs.List.Sorted.{IsStrictlySortedBy}
use Rattle.std.specs.Ordering.{nat_cmp}
use Rattle.std.specs.Cmp.Lexicographic.{slice_cmp}
use Rattle.std.specs.declared.alloc.Global.{Global}
use Rattle.std.specs.declared.vec.Vec.{Vec}
use Rattle.ips_text.specs.Ancestry.{same_path, parent}
use Rattle.ips_text.specs.Kept.{Kept}
use Rattle.ips_outside.specs.Image.{Entry, Dir, File, Link, Other, Image}
use Rattle.ips_outside.specs.Table.{kind_at}
use Rattle.ips_outside.specs.declared.table.Kind.{Kind}

-- the directory is marked as one that also holds names that are no paths
abbrev pub is_foreign : Option Entry → Bool
is_foreign (Some (Dir m foreign)) = foreign
is_foreign (Some (File m b)) = false
is_foreign (Some (Link g)) = false
is_foreign (Some Other) = false
is_foreign None = false

-- the path is this directory
abbrev pub is_directory : List ℕ → Option (List ℕ) → Bool
is_directory dir (Some above) = same_path dir above
is_directory dir None = false

-- something stands at the path, and its parent is the directory
abbrev pub is_child : Image → List ℕ → List ℕ → Bool
is_child t dir q = is_some (t.look q) && is_directory dir (parent q)

-- These are the children of the directory, each once, in the order of their bytes.
pub record AreChildren (t : Image) (dir : List ℕ) (paths : List (List ℕ)) : Type 0 where
  pub each : (q : List ℕ) → list_any (λ p. same_path p q) paths ≡ is_child t dir q
  pub order : IsStrictlySortedBy (slice_cmp nat_cmp) paths

-- the bytes of each path
abbrev pub path_bytes : List Kept → List (List ℕ)
path_bytes paths = map (λ p. p.bytes) paths

-- the table has the path, and its parent is the directory
abbrev pub has_child : List (Vec ℕ Global × Kind) → List ℕ → List ℕ → Bool
has_child table dir q = is_some (kind_at table q) && is_directory dir (parent q)

-- These are the paths of the table right below the directory, each once, in the order of their bytes.
pub record HasChildren (table : List (Vec ℕ Global × Kind)) (dir : List ℕ) (paths : List (List ℕ)) : Type 0 where
  pub each : (q : List ℕ) → list_any (λ p. same_path p q) paths ≡ has_child table dir q
  pub order : IsStrictlySortedBy (slice_cmp nat_cmp) paths
