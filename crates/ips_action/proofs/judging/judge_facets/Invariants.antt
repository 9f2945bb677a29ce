use Rattle.std.proofs.Common.{length}
use Rattle.std.specs.Option.{option_map}
use Rattle.ips_action.specs.Judging.{facet_rows}
use Rattle.ips_action.proofs.Judged.{Decides, brought, tag_row}
use Rattle.ips_action.proofs.judging.judge_facets.Given as goal

abbrev pub invariant-loop-attr : goal.invariant-loop-attr
invariant-loop-attr l = Decides (option_map (λ w. w.now) l.payload) l.attrs (brought tag_row l.left) (facet_rows l.attrs)

abbrev pub decreases-loop-attr : goal.decreases-loop-attr
decreases-loop-attr l = length l.left
