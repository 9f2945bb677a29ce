use Rattle.ips_publish.proofs.Histories.{goes_on}
use Rattle.ips_publish.proofs.laws.runs_go_on.Goals as goal

pub returns : goal.returns
returns g c = λ xs words moment source source_new old new before now x tells told sends sent.
    goes_on g.F.Source.outside (g.S.Source.outside.state source).held words moment old new xs sends x (sent.stops tells told)
