use Rattle.std.proofs.Common.{inr, refl}
use Rattle.ips_send_report.specs.declared.outcome.SendOutcome.TheVariants as outcome
use Rattle.ips_publish.proofs.Starving.{starves}
use Rattle.ips_publish.proofs.laws.memory_runs_out_early.Goals as goal

pub returns : goal.returns
returns g c = λ words moment source source_new old new before now tells told sent.
    starves g.S.Source.outside g.F.Source.outside g.met.F.Source.sane old new before words moment source now tells told outcome.OutOfMemory sent.comes (inr refl)
