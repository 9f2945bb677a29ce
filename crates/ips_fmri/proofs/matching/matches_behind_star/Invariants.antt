use denote.Text.{Utf8}
use denote.Shadow.{shadow}
use Rattle.std.proofs.Common.{length, ◌∷◌}
use Rattle.std.specs.Prelude.{◌↔◌}
use Rattle.std.specs.Str.{chars}
use Rattle.ips_fmri.specs.Pattern.{MatchesBy}
use Rattle.ips_fmri.proofs.matching.matches_behind_star.Given as goal

abbrev pub invariant-loop-middle : goal.invariant-loop-middle
invariant-loop-middle l = shadow (Utf8 l.pattern) × shadow (Utf8 l.left) × (MatchesBy l.marks (42 ∷ chars l.pattern) (chars l.left) ↔ MatchesBy l.marks (42 ∷ chars l.behind) (chars l.text))

abbrev pub decreases-loop-middle : goal.decreases-loop-middle
decreases-loop-middle l = length (chars l.pattern)
