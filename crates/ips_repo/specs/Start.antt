-- How bytes begin, as far as a gzip file is told by it.
use Rattle.std.specs.Prelude.{ℕ, ◌&&◌, ◌==◌, if◌then◌else◌, List, [], ◌∷◌}
use Rattle.ips_repo.specs.declared.start.Start.{Start}
use Rattle.ips_repo.specs.declared.start.Start.TheVariants.{Nothing, Half, Gzip, Other}

-- what is known of the two bytes by which a gzip file is told, once these bytes have come
abbrev pub start_of : List ℕ → Start
start_of [] = Nothing
start_of (a ∷ []) = if a == 31 then Half else Other
start_of (a ∷ b ∷ bytes) = if (a == 31) && (b == 139) then Gzip else Other
