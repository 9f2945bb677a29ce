use denote.Text.{Utf8}
use denote.Shadow.{shadow}
use Rattle.std.proofs.Common.{length}
use Rattle.std.specs.Prelude.{◌↔◌}
use Rattle.std.specs.Str.{chars}
use Rattle.ips_fmri.specs.Pattern.{MatchesBehindSlash}
use Rattle.ips_fmri.proofs.matching.matches_behind_slash.Given as goal

abbrev pub invariant-loop-behind : goal.invariant-loop-behind
invariant-loop-behind l = shadow (Utf8 l.rest) × (MatchesBehindSlash (chars l.pattern) (chars l.rest) ↔ MatchesBehindSlash (chars l.pattern) (chars l.stem))

abbrev pub decreases-loop-behind : goal.decreases-loop-behind
decreases-loop-behind l = length (chars l.rest)
