use Rattle.std.proofs.Common.{refl}
use Rattle.ips_trial.proofs.Trials.{refused_uncounted, shown_uncounted}
use Rattle.ips_trial.proofs.trying.findings.Goals as goal

pub returns-in-Shown : goal.returns-in-Shown
returns-in-Shown g c = shown_uncounted _ _ _ _ _ _ _ _ _ _ (c.in-Shown.ensures.comes refl)

pub returns-in-Refused-Damaged : goal.returns-in-Refused-Damaged
returns-in-Refused-Damaged g c = refused_uncounted _ _ _ _ _ _ _ _ _ _ (c.in-Refused-Damaged.ensures.comes refl)
