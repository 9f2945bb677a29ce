use Rattle.std.proofs.Common.{subst, Some, None, List, ℕ, Bool}
use Rattle.std.specs.String.{string_bytes}
use Rattle.ips_filter.specs.Settings.{Sets}
use Rattle.ips_filter.specs.View.{facets_of}
use Rattle.ips_filter.proofs.Views.{sets}
use Rattle.ips_filter.proofs.settings.Settings.set_facet.Goals as goal

pub returns-in_ok-insert-in-Some-clause-set : goal.returns-in_ok-insert-in-Some-clause-set
returns-in_ok-insert-in-Some-clause-set c =
    let done = sets (λ (b : Bool). b) (string_bytes c.in_ok-from_str-in-Some.field-0) c.self.inside.facets c.insert.new.self (Some c.in-Some.on) c.in_ok-insert-in-Some.ensures.updates in
    rw (← c.self.view_is, c.in-Some.is) (subst (λ (n : List ℕ). Sets n (Some c.in-Some.on) (facets_of c.self.inside.facets) (facets_of c.insert.new.self)) c.in_ok-from_str-in-Some.ensures.ok done)

pub returns-in-None-clause-set : goal.returns-in-None-clause-set
returns-in-None-clause-set c =
    let done = sets (λ (b : Bool). b) c.args.pattern.now c.self.inside.facets c.remove.new.self None c.remove.ensures.updates in
    rw (← c.self.view_is, c.in-None.is) done
