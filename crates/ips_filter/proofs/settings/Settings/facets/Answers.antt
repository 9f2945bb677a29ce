use Rattle.std.proofs.Common.{Bool}
use Rattle.ips_filter.proofs.Views.{seen_ascends}
use Rattle.ips_filter.proofs.settings.Settings.facets.Goals as goal

pub returns-in_err-push-clause-ascend : goal.returns-in_err-push-clause-ascend
returns-in_err-push-clause-ascend c = rw (← c.self.view_is) (seen_ascends (λ (b : Bool). b) c.self.inside.facets.entries c.self.invariant.1)

pub returns-clause-ascend : goal.returns-clause-ascend
returns-clause-ascend c = rw (← c.self.view_is) (seen_ascends (λ (b : Bool). b) c.self.inside.facets.entries c.self.invariant.1)
