-- Files that are cut where a crash tears them.
use Rattle.std.specs.Prelude.{◌≡◌, ℕ, ◌/◌, ◌<◌, Bool, true, slice_index_or, IsTrue, IsFalse, List, Option, Some, None, length, take}
use Rattle.std.specs.List.{list_any}
use Rattle.std.specs.BTreeSet.{BTreeSet}
use Rattle.std.specs.declared.alloc.Global.{Global}
use Rattle.std.specs.declared.vec.Vec.{Vec}
use Rattle.ips_text.specs.Ancestry.{same_path}
use Rattle.ips_outside.specs.Image.{Entry, Dir, File, Link, Other, Image}
use Rattle.ips_outside.specs.Table.{kind_at, node_of}
use Rattle.ips_outside.specs.declared.table.Kind.{Kind}
use Rattle.ips_outside.specs.declared.table.Node.{Node}

-- a file cut to half its length; what is no file stays
abbrev pub halved : Option Entry → Option Entry
halved (Some (Dir m f)) = Some (Dir m f)
halved (Some (File m b)) = Some (File m (take (length b / 2) b))
halved (Some (Link g)) = Some (Link g)
halved (Some Other) = Some Other
halved None = None

-- Each file all of whose names are among these is cut to half its length, and nothing else is changed.
pub record IsTorn (is_named : List ℕ → Bool) (t left : Image) : Type 0 where
  pub cut : (q : List ℕ) → ((r : List ℕ) → IsTrue (t.same q r) → IsTrue (is_named r)) → left.look q ≡ halved (t.look q)
  pub kept : (q r : List ℕ) → IsTrue (t.same q r) → IsFalse (is_named r) → left.look q ≡ t.look q
  pub same : (a b : List ℕ) → left.same a b ≡ t.same a b

-- the path is in a set of paths
abbrev pub in_set : BTreeSet (Vec ℕ Global) → List ℕ → Bool
in_set names q = list_any (λ k. same_path k.items q) names.keys

-- Of each of so many nodes it is said whether it has a name that isn't among these.
pub record AreKept (paths : List (Vec ℕ Global × Kind)) (count : ℕ) (is_named : List ℕ → Bool) (flags : List Bool) : Type 0 where
  pub kept : (q : List ℕ) (n : ℕ) → node_of (kind_at paths q) ≡ Some n → n < count → IsFalse (is_named q) → slice_index_or flags n true ≡ true
  pub others : (n : ℕ) → n < count → slice_index_or flags n true ≡ true → (q : List ℕ) × (node_of (kind_at paths q) ≡ Some n) × IsFalse (is_named q)

-- The node has half the bytes of the older one, and its mode.
pub record IsHalf (old node : Node) : Type 0 where
  pub mode : node.mode ≡ old.mode
  pub bytes : node.bytes.items ≡ take (length old.bytes.items / 2) old.bytes.items
