use Rattle.std.proofs.Common.{◌≡◌, ◌++◌, take}
use Rattle.std.specs.List.{flat_map}
use Rattle.ips_report.specs.Report.{candidate_text}
use Rattle.ips_report.proofs.unsolved.put_candidates.Given as goal

abbrev pub invariant-loop-candidate : goal.invariant-loop-candidate
invariant-loop-candidate l = l.out.text ≡ l.initial.out.text ++ flat_map candidate_text (take l.candidate-index l.candidates)
