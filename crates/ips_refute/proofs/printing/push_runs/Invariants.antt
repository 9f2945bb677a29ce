use Rattle.std.proofs.Common.{◌≡◌, ◌≤◌, ◌++◌, drop, map, string_bytes}
use Rattle.std.specs.List.{join_with_byte}
use Rattle.ips_refute.specs.Text.{most, run_text, runs_behind}
use Rattle.ips_refute.proofs.printing.push_runs.Given as goal

abbrev pub invariant-loop-reason : goal.invariant-loop-reason
invariant-loop-reason l =
    (string_bytes l.out ++ join_with_byte 32 (map run_text (runs_behind l.run.reason l.run.count (drop l.reason-index l.others))) ≡ string_bytes l.fn.out ++ join_with_byte 32 (map run_text (runs_behind l.fn.first 1 l.others)))
    × (l.run.count ≤ most)
