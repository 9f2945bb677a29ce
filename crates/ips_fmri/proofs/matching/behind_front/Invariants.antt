use denote.Text.{Utf8}
use denote.Shadow.{shadow}
use Rattle.std.proofs.Common.{ℕ, List, length}
use Rattle.std.specs.Prelude.{◌↔◌}
use Rattle.std.specs.Str.{chars}
use Rattle.ips_fmri.specs.Matching.{MeetsFront}
use Rattle.ips_fmri.proofs.matching.behind_front.Given as goal

abbrev pub invariant-loop-next : goal.invariant-loop-next
invariant-loop-next l = shadow (Utf8 l.wanted) × shadow (Utf8 l.left) × ((rest : List ℕ) → MeetsFront l.marks (chars l.wanted) (chars l.left) rest ↔ MeetsFront l.marks (chars l.pattern) (chars l.text) rest)

abbrev pub decreases-loop-next : goal.decreases-loop-next
decreases-loop-next l = length (chars l.wanted)
