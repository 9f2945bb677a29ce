-- The paths of a table in the order of their bytes, by which what is below a path is found.
use Rattle.std.specs.Prelude.{ℕ, ◌≤◌, Bool, IsTrue, IsFalse, List, [], ◌∷◌, ◌++◌, is_some, IsNone, vec_capacity}
use Rattle.std.specs.Ordering.{nat_cmp, is_gt}
use Rattle.std.specs.Cmp.Lexicographic.{slice_cmp}
use Rattle.std.specs.declared.alloc.Global.{Global}
use Rattle.std.specs.declared.vec.Vec.{Vec}
use Rattle.ips_text.specs.Ancestry.{is_below}
use Rattle.ips_outside.specs.Table.{kind_at}
use Rattle.ips_outside.specs.declared.table.Kind.{Kind}

-- the first bytes stand behind the second in the order of bytes
abbrev pub comes_after : List ℕ → List ℕ → Bool
comes_after p q = is_gt (slice_cmp nat_cmp p q)

-- the bytes with which every path below this one begins
abbrev pub front_below : List ℕ → List ℕ
front_below p = p ++ 47 ∷ []

-- The table has this path, and none between these bytes and it.
pub record IsFirstFrom (paths : List (Vec ℕ Global × Kind)) (from first : List ℕ) : Type 0 where
  pub stands : IsTrue (is_some (kind_at paths first))
  pub late : IsFalse (comes_after from first)
  pub least : (q : List ℕ) → IsTrue (is_some (kind_at paths q)) → IsFalse (comes_after from q) → IsFalse (comes_after first q)

-- the table has no path from these bytes on
abbrev pub IsNoneFrom : List (Vec ℕ Global × Kind) → List ℕ → Type 0
IsNoneFrom paths from = (q : List ℕ) → IsFalse (comes_after from q) → IsNone (kind_at paths q)

-- The first path of the table from these bytes on is below this path.
pub record IsNextBelow (paths : List (Vec ℕ Global × Kind)) (p from next : List ℕ) : Type 0 where
  pub first : IsFirstFrom paths from next
  pub below : IsTrue (is_below p next)

-- nothing that the table has below this path stands at these bytes or behind them
abbrev pub IsNoneBelow : List (Vec ℕ Global × Kind) → List ℕ → List ℕ → Type 0
IsNoneBelow paths p from = (q : List ℕ) → IsTrue (is_below p q) → IsFalse (comes_after from q) → IsNone (kind_at paths q)

-- Where the table has a path, the spare bytes have room for any path with one more byte.
pub record HasRoom (paths : List (Vec ℕ Global × Kind)) (spare : Vec ℕ Global) : Type 0 where
  pub each : (q : List ℕ) → IsTrue (is_some (kind_at paths q)) → 1024 ≤ vec_capacity spare
