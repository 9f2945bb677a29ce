-- The two tests on versions, computed; it is a law that they are `at least` and `incorporates` of the order of versions.
use Rattle.std.specs.Prelude.{ℕ, Bool, true, ◌&&◌, ◌==◌, Option, Some, None}
use Rattle.std.specs.List.{starts_with}
use Rattle.std.specs.Option.{option_eq}
use Rattle.std.specs.Ordering.{is_ge}
use Rattle.std.specs.Cmp.Lexicographic.{pointwise}
use Rattle.ips_fmri.specs.Version.{Parts}
use Rattle.ips_fmri.specs.Order.{version_cmp}

-- The version isn't less than the floor.
abbrev pub is_at_least : Parts → Parts → Bool
is_at_least v floor = is_ge (version_cmp v floor)

-- Release, branch and timestamp are the limit's, where the limit has a timestamp.
abbrev pub is_stamped_as : Parts → Parts → Option ℕ → Bool
is_stamped_as v limit None = true
is_stamped_as v limit (Some n) = pointwise ◌==◌ v.release limit.release && (pointwise ◌==◌ v.branch limit.branch && option_eq ◌==◌ v.stamp limit.stamp)

-- The version is the limit or a refinement of it: the limit's release and branch begin the version's, and a timestamp has to agree.
abbrev pub is_incorporated : Parts → Parts → Bool
is_incorporated v limit = starts_with ◌==◌ v.release limit.release && (starts_with ◌==◌ v.branch limit.branch && is_stamped_as v limit limit.stamp)

-- The version is at least the floor, where there is one.
abbrev pub reaches : Option Parts → Parts → Bool
reaches None v = true
reaches (Some floor) v = is_at_least v floor

-- The limit admits the version: there is none, or the version incorporates it.
abbrev pub admits : Option Parts → Parts → Bool
admits None v = true
admits (Some limit) v = is_incorporated v limit
