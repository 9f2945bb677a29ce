use Rattle.std.proofs.Common.{List, ap, sym, ◌∙◌}
use Rattle.std.specs.List.{list_any}
use Rattle.std.specs.Ordering.{is_eq}
use Rattle.ips_fmri.specs.Version.{Parts}
use Rattle.ips_fmri.specs.Order.{version_cmp}
use Rattle.ips_judged.proofs.Versions.{found_among, among_found}
use Rattle.ips_judged.proofs.listing.is_listed.Goals as goal

pub returns : goal.returns
returns c =
    let v = c.args.version.now in
    let law = c.version_order_is_total.ensures in
    let same = c.contains.ensures.value ∙ ap (λ (xs : List Parts). list_any (λ x. is_eq (version_cmp x v)) xs) c.versions.ensures.listed in
    (λ found. found_among law.compared _ v (sym same ∙ found), λ among. same ∙ among_found law.compared law.reflexive _ v among.0 among.1 among.2)
