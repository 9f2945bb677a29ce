-- The order in which a repair has the steps of wanted paths.
use Rattle.std.specs.Prelude.{ℕ, Bool, not, ◌&&◌, List, ◌++◌, Option, filter, is_some}
use Rattle.ips_after.specs.Request.{Want, Wanted, is_dir_wanted, is_hard_wanted}
use Rattle.ips_mend.specs.declared.mended.ordering.Group.{Group}
use Rattle.ips_mend.specs.declared.mended.ordering.Group.TheVariants.{Dirs, Others, Hards}

-- A path at which this is wanted is in the group.
abbrev pub is_of : Group → Option Wanted → Bool
is_of Dirs w = is_dir_wanted w
is_of Others w = is_some w && (not (is_dir_wanted w) && not (is_hard_wanted w))
is_of Hards w = is_hard_wanted w

-- The path is in the group.
abbrev pub is_of_at : Group → Want → List ℕ → Bool
is_of_at group want p = is_of group (want.at p)

-- The wanted directories, then the files and symbolic links, then the hard links, each by their bytes.
abbrev pub wanted_order : Want → List (List ℕ)
wanted_order want = filter (is_of_at Dirs want) want.keys ++ (filter (is_of_at Others want) want.keys ++ filter (is_of_at Hards want) want.keys)
