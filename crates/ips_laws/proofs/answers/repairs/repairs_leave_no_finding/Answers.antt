use Rattle.ips_laws.proofs.answers.Mending.{left_clean}
use Rattle.ips_laws.proofs.answers.Cleaned.{Laws}
use Rattle.ips_laws.proofs.answers.repairs.repairs_leave_no_finding.Goals as goal

pub returns : goal.returns
returns g c = λ command moment old new told done fixes claims tells reads known want means modes.
    let laws : Laws = record {
      digests = c.names_are_digests.ensures;
      hangs = c.repairs_hang_together.ensures.due;
      lawful = c.repairs_are_lawful.ensures.repair;
      nameable = c.repairs_are_lawful.ensures.names;
      seen = c.findings_are_of_the_visible_image.ensures.request;
    } in
    left_clean g.F.Source.outside g.S.Source.outside g.P.Spawner.running command moment old new told claims tells reads (g.met.F.Source.sane.formed old.folder tells) laws known want means modes fixes done
