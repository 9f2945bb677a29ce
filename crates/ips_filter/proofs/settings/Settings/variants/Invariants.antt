use Rattle.std.proofs.Common.{◌≡◌, ◌++◌}
use Rattle.std.specs.String.{string_bytes}
use Rattle.ips_filter.specs.View.{named}
use Rattle.ips_filter.proofs.Views.{seen}
use Rattle.ips_filter.proofs.settings.Settings.variants.Given as goal

abbrev pub invariant-loop-name : goal.invariant-loop-name
invariant-loop-name l = l.self.variants ≡ named l.all.items ++ seen (λ v. string_bytes v) l.name-iterator
