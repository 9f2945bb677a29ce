-- Directories that are missing for what goes into the salvage folder.
use Rattle.std.specs.Prelude.{◌≡◌, ℕ, Bool, false, not, ◌&&◌, IsTrue, IsFalse, List, Option, Some, None}
use Rattle.std.specs.List.{list_any}
use Rattle.std.specs.BTreeSet.{BTreeSet}
use Rattle.std.specs.Option.{option_map}
use Rattle.std.specs.declared.vec.Vec.{Vec}
use Rattle.std.specs.declared.alloc.Global.{Global}
use Rattle.ips_text.specs.Ancestry.{covers, is_below}
use Rattle.ips_text.specs.declared.path.RelPath.{RelPath}
use Rattle.ips_outside.specs.Image.{Image, is_dir}
use Rattle.ips_conflict.specs.Index.{has_path}
use Rattle.ips_aside.specs.declared.ways.Ways.{Ways}

-- the bytes of a path, if there is one
abbrev pub bytes_if_any : Option RelPath → Option (List ℕ)
bytes_if_any o = option_map (λ p. p.bytes) o

-- Just what stands above these paths is marked.
abbrev pub IsMarkedAbove : BTreeSet (Vec ℕ Global) → List (List ℕ) → Type 0
IsMarkedAbove set paths = (q : List ℕ) → has_path set q ≡ list_any (is_below q) paths

-- The path is that of the lowest directory that stands above another path; without one, none stands above it.
abbrev pub IsStandingAbove : Image → List ℕ → Option (List ℕ) → Type 0
IsStandingAbove t root (Some p) = IsTrue (is_below p root) × IsTrue (is_dir (t.look p)) × ((q : List ℕ) → IsTrue (is_below q root) → IsTrue (is_below p q) → IsFalse (is_dir (t.look q)))
IsStandingAbove t root None = (q : List ℕ) → IsTrue (is_below q root) → IsFalse (is_dir (t.look q))

-- the path is at or above the one that stands
abbrev pub is_standing : Option (List ℕ) → List ℕ → Bool
is_standing (Some p) q = covers q p
is_standing None q = false

-- The path is that of a directory on the way.
abbrev pub is_way : Ways → List ℕ → Bool
is_way w q = has_path w.above q && not (is_standing (bytes_if_any w.standing) q)
