use Rattle.ips_report.specs.Report.{report_text}
use Rattle.ips_tell.proofs.telling.late.tell_late.Goals as goal

pub returns-in-SourceFault-clause-late : goal.returns-in-SourceFault-clause-late
returns-in-SourceFault-clause-late g c = rw c.in-SourceFault.is c.tell-in-SourceFault.ensures

pub returns-in-Unfinished-clause-late : goal.returns-in-Unfinished-clause-late
returns-in-Unfinished-clause-late g c = rw c.in-Unfinished.is c.tell-in-Unfinished.ensures
