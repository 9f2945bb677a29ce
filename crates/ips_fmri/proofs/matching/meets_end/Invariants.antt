use denote.Text.{Utf8}
use denote.Shadow.{shadow}
use Rattle.std.proofs.Common.{length}
use Rattle.std.specs.Prelude.{◌↔◌}
use Rattle.std.specs.Str.{chars}
use Rattle.ips_fmri.specs.Matching.{MeetsEnd}
use Rattle.ips_fmri.proofs.matching.meets_end.Given as goal

abbrev pub invariant-loop-left : goal.invariant-loop-left
invariant-loop-left l = shadow (Utf8 l.left) × (MeetsEnd l.marks (chars l.pattern) (chars l.left) ↔ MeetsEnd l.marks (chars l.pattern) (chars l.text))

abbrev pub decreases-loop-left : goal.decreases-loop-left
decreases-loop-left l = length (chars l.left)
