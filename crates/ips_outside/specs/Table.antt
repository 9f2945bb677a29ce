-- The image that a table of paths and a table of nodes stand for.
use Rattle.std.specs.Prelude.{◌≡◌, ℕ, zero, suc, Bool, true, false, ◌==◌, List, [], ◌∷◌, Option, Some, None}
use Rattle.std.specs.Map.{lookup}
use Rattle.std.specs.declared.alloc.Global.{Global}
use Rattle.std.specs.declared.vec.Vec.{Vec}
use Rattle.ips_text.specs.Ancestry.{same_path}
use Rattle.ips_outside.specs.Image.{Entry, Dir, File, Link, Other, Image}
use Rattle.ips_outside.specs.declared.table.Kind.{Kind}
use Rattle.ips_outside.specs.declared.table.Kind.TheVariants as kind
use Rattle.ips_outside.specs.declared.table.Node.{Node}

-- what the table has at a path
abbrev pub kind_at : List (Vec ℕ Global × Kind) → List ℕ → Option Kind
kind_at paths q = lookup (λ k. same_path k.items q) paths

-- the file that a node is
abbrev pub file_of : List Node → ℕ → Option Entry
file_of [] n = None
file_of (node ∷ nodes) zero = Some (File node.mode node.bytes.items)
file_of (node ∷ nodes) (suc n) = file_of nodes n

-- what an entry of the table stands for
abbrev pub entry_of : List Node → Option Kind → Option Entry
entry_of nodes (Some (kind.Dir m foreign)) = Some (Dir m foreign)
entry_of nodes (Some (kind.File n)) = file_of nodes n
entry_of nodes (Some (kind.Link target)) = Some (Link target.items)
entry_of nodes (Some kind.Other) = Some Other
entry_of nodes None = None

-- the number of a file's node
abbrev pub node_of : Option Kind → Option ℕ
node_of (Some (kind.Dir m foreign)) = None
node_of (Some (kind.File n)) = Some n
node_of (Some (kind.Link target)) = None
node_of (Some kind.Other) = None
node_of None = None

-- both are one node
abbrev pub one_node : Option ℕ → Option ℕ → Bool
one_node (Some m) (Some n) = m == n
one_node (Some m) None = false
one_node None n = false

-- a directory with another mode; what is none stays
abbrev pub with_dir_mode : ℕ → Kind → Kind
with_dir_mode mode (kind.Dir m foreign) = kind.Dir mode foreign
with_dir_mode mode (kind.File n) = kind.File n
with_dir_mode mode (kind.Link target) = kind.Link target
with_dir_mode mode kind.Other = kind.Other

-- a directory with the mark of names that are no paths; what is none stays
abbrev pub with_dir_mark : Kind → Kind
with_dir_mark (kind.Dir m foreign) = kind.Dir m true
with_dir_mark (kind.File n) = kind.File n
with_dir_mark (kind.Link target) = kind.Link target
with_dir_mark kind.Other = kind.Other

-- the table has a directory there
abbrev pub has_dir : Option Kind → Bool
has_dir (Some (kind.Dir m foreign)) = true
has_dir (Some (kind.File n)) = false
has_dir (Some (kind.Link target)) = false
has_dir (Some kind.Other) = false
has_dir None = false

-- what stands at each path, and which paths are names of one node
abbrev pub image_of : List (Vec ℕ Global × Kind) → List Node → Image
image_of paths nodes = record {
  look = λ q. entry_of nodes (kind_at paths q);
  same = λ a b. one_node (node_of (kind_at paths a)) (node_of (kind_at paths b));
}

-- the same kind, with bytes of its own
pub record IsKindCopy (k l : Kind) : Type 0 where
  pub entry : entry_of [] (Some l) ≡ entry_of [] (Some k)
  pub node : node_of (Some l) ≡ node_of (Some k)

-- the same node, with bytes of its own
pub record IsNodeCopy (n m : Node) : Type 0 where
  pub mode : m.mode ≡ n.mode
  pub bytes : m.bytes.items ≡ n.bytes.items
