use Rattle.std.proofs.Common.{subst, Some, List, ℕ}
use Rattle.std.specs.String.{string_bytes}
use Rattle.ips_filter.specs.Settings.{Sets}
use Rattle.ips_filter.specs.View.{variants_of}
use Rattle.ips_filter.proofs.Views.{sets}
use Rattle.ips_filter.proofs.settings.Settings.set_variant.Goals as goal

pub returns-clause-set : goal.returns-clause-set
returns-clause-set c =
    let done = sets (λ v. string_bytes v) (string_bytes c.in_ok-name.name) c.self.inside.variants c.insert.new.self (Some c.in_ok-value.value) c.in_ok-insert.ensures.updates in
    rw (← c.self.view_is) (subst (λ (n : List ℕ). Sets n (Some c.args.value.now) (variants_of c.self.inside.variants) (variants_of c.insert.new.self)) c.in_ok-name.ensures.ok (subst (λ (v : List ℕ). Sets (string_bytes c.in_ok-name.name) (Some v) (variants_of c.self.inside.variants) (variants_of c.insert.new.self)) c.in_ok-value.ensures.ok done))
