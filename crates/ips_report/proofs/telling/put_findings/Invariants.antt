use Rattle.std.proofs.Common.{◌≡◌, ◌++◌, take}
use Rattle.std.specs.List.{flat_map}
use Rattle.ips_report.specs.Report.{finding_text}
use Rattle.ips_report.proofs.telling.put_findings.Given as goal

abbrev pub invariant-loop-finding : goal.invariant-loop-finding
invariant-loop-finding l = l.out.text ≡ l.initial.out.text ++ flat_map finding_text (take l.finding-index l.findings)
