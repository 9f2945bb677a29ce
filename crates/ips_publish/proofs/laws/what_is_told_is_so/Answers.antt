use Rattle.std.proofs.Common.{refl}
use Rattle.ips_send_report.specs.declared.outcome.SendOutcome.TheVariants as outcome
use Rattle.ips_publish.proofs.Sayings.{says_created, says_published}
use Rattle.ips_publish.proofs.laws.what_is_told_is_so.Goals as goal

pub returns-clause-created : goal.returns-clause-created
returns-clause-created g c = λ words moment source source_new old new before now told sent.
    says_created g.S.Source.outside g.F.Source.outside words moment source old new before now told outcome.Created sent.comes refl

pub returns-clause-published : goal.returns-clause-published
returns-clause-published g c = λ words moment source source_new old new before now fmri tells told sent.
    says_published g.S.Source.outside g.F.Source.outside words moment source old new before now told fmri (outcome.Published fmri) sent.comes refl tells
