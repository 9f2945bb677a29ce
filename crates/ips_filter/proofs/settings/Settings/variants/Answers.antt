use Rattle.std.specs.String.{string_bytes}
use Rattle.ips_filter.proofs.Views.{seen_ascends}
use Rattle.ips_filter.proofs.settings.Settings.variants.Goals as goal

pub returns-in_err-push-clause-ascend : goal.returns-in_err-push-clause-ascend
returns-in_err-push-clause-ascend c = rw (← c.self.view_is) (seen_ascends (λ v. string_bytes v) c.self.inside.variants.entries c.self.invariant.0)

pub returns-clause-ascend : goal.returns-clause-ascend
returns-clause-ascend c = rw (← c.self.view_is) (seen_ascends (λ v. string_bytes v) c.self.inside.variants.entries c.self.invariant.0)
