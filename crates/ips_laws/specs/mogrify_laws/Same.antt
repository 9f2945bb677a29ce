-- Which outcomes of a transformation say the same.
use Rattle.std.specs.Prelude.{◌≡◌}
use Rattle.ips_mogrify.specs.declared.status.MogrifyOutcome.{MogrifyOutcome}
use Rattle.ips_mogrify.specs.declared.status.MogrifyOutcome.TheVariants.{FileMissing}

-- The outcomes are one, but for the room that the path of a missing file keeps.
abbrev pub IsSameTransformation : MogrifyOutcome → MogrifyOutcome → Type 0
IsSameTransformation (FileMissing p) (FileMissing q) = p.bytes ≡ q.bytes
IsSameTransformation a b = a ≡ b
