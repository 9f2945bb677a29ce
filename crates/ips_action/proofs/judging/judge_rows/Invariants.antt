use Rattle.std.proofs.Common.{map, drop}
use Rattle.std.specs.Option.{option_map}
use Rattle.ips_action.specs.Table.{row_seen}
use Rattle.ips_action.proofs.Judged.{Decides, brought, one_row}
use Rattle.ips_action.proofs.judging.judge_rows.Given as goal

abbrev pub invariant-loop-row : goal.invariant-loop-row
invariant-loop-row l = Decides (option_map (λ w. w.now) l.payload) l.attrs (brought one_row (drop l.row-index l.rows)) (map row_seen l.rows)
