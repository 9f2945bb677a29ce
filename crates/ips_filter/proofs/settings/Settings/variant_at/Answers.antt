use Rattle.std.proofs.Common.{◌∙◌, sym, ap, Some}
use Rattle.std.specs.String.{string_bytes}
use Rattle.std.specs.Map.Iter.{deref_pair}
use Rattle.std.proofs.lemmas.Iterator.Consumers.{nth_from_yields_List, YieldsList-from_rest}
use Rattle.std.proofs.lemmas.Option.{slice_get-map}
use Rattle.std.specs.Option.{option_map}
use Rattle.ips_filter.proofs.Views.{seen_ascends}
use Rattle.ips_filter.proofs.settings.Settings.variant_at.Goals as goal

pub returns-in_err-name-clause-ascend : goal.returns-in_err-name-clause-ascend
returns-in_err-name-clause-ascend c = rw (← c.self.view_is) (seen_ascends (λ v. string_bytes v) c.self.inside.variants.entries c.self.invariant.0)

pub returns-clause-some : goal.returns-clause-some
returns-clause-some c =
    let found = nth_from_yields_List {v = deref_pair} c.nth.result c.nth.new.self c.args.i c.nth.ensures.ran (YieldsList-from_rest c.self.inside.variants.entries c.iter.ensures.rest) in
    let here = ap (option_map deref_pair) (sym c.in_ok-name.was) ∙ found in
    let seen_here = slice_get-map (λ e. (string_bytes e.0, string_bytes e.1)) c.self.inside.variants.entries c.args.i ∙ ap (option_map (λ e. (string_bytes e.0, string_bytes e.1))) (sym here) in
    rw (← c.self.view_is) (seen_here ∙ (λ i. Some ((sym c.as_str.ensures.value i, sym c.as_str-2.ensures.value i))))

pub returns-clause-ascend : goal.returns-clause-ascend
returns-clause-ascend c = rw (← c.self.view_is) (seen_ascends (λ v. string_bytes v) c.self.inside.variants.entries c.self.invariant.0)
