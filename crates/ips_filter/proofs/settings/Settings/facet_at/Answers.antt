use Rattle.std.proofs.Common.{◌∙◌, sym, ap, Bool, Some}
use Rattle.std.specs.String.{string_bytes}
use Rattle.std.specs.Map.Iter.{deref_pair}
use Rattle.std.proofs.lemmas.Iterator.Consumers.{nth_from_yields_List, YieldsList-from_rest}
use Rattle.std.proofs.lemmas.Option.{slice_get-map}
use Rattle.std.specs.Option.{option_map}
use Rattle.ips_filter.proofs.Views.{seen_ascends}
use Rattle.ips_filter.proofs.settings.Settings.facet_at.Goals as goal

pub returns-in_err-pattern-clause-ascend : goal.returns-in_err-pattern-clause-ascend
returns-in_err-pattern-clause-ascend c = rw (← c.self.view_is) (seen_ascends (λ (b : Bool). b) c.self.inside.facets.entries c.self.invariant.1)

pub returns-clause-some : goal.returns-clause-some
returns-clause-some c =
    let found = nth_from_yields_List {v = deref_pair} c.nth.result c.nth.new.self c.args.i c.nth.ensures.ran (YieldsList-from_rest c.self.inside.facets.entries c.iter.ensures.rest) in
    let here = ap (option_map deref_pair) (sym c.in_ok-pattern.was) ∙ found in
    let seen_here = slice_get-map (λ e. (string_bytes e.0, e.1)) c.self.inside.facets.entries c.args.i ∙ ap (option_map (λ e. (string_bytes e.0, e.1))) (sym here) in
    rw (← c.self.view_is) (seen_here ∙ (λ i. Some ((sym c.as_str.ensures.value i, c.in_ok-pattern.on.now))))

pub returns-clause-ascend : goal.returns-clause-ascend
returns-clause-ascend c = rw (← c.self.view_is) (seen_ascends (λ (b : Bool). b) c.self.inside.facets.entries c.self.invariant.1)
