use Rattle.std.proofs.Common.{◌≡◌, List, get_or, sym, ap, subst, ◌∙◌}
use Rattle.ips_catalog.specs.Listed.{Listed, VersionsAscend, versions_of}
use Rattle.ips_catalog.specs.Seen.{seen}
use Rattle.std.specs.List.Sorted.{IsStrictlySortedBy}
use Rattle.ips_fmri.specs.Order.{version_cmp}
use Rattle.ips_catalog.proofs.Orders.{versions_in_order}
use Rattle.ips_catalog.proofs.Searches.{seen_at}
use Rattle.ips_catalog.proofs.catalog.Catalog.versions.Goals as goal

pub returns-in-Ok-clause-listed : goal.returns-in-Ok-clause-listed
returns-in-Ok-clause-listed c =
    let place = c.in-Ok.place in
    let l = c.index.result.now in
    let at = subst (λ (ls : List Listed). (get_or ls place (seen l)).versions ≡ versions_of c.args.self.now c.args.stem.now) (sym c.self.view_is) (c.in-Ok.ensures.found (seen l)) in
    c.deref.ensures.value
    ∙ ap (λ x. (seen x).versions) c.index.ensures
    ∙ sym (ap (λ (x : Listed). x.versions) (seen_at c.self.inside.packages.items place l))
    ∙ at

pub returns-in-Ok-clause-ascending : goal.returns-in-Ok-clause-ascending
returns-in-Ok-clause-ascending c =
    subst (IsStrictlySortedBy version_cmp) (sym (returns-in-Ok-clause-listed c))
    (versions_in_order c.args.self.now c.args.stem.now (subst VersionsAscend c.self.view_is c.self.invariant.0.versions))

pub returns-in-Err-clause-ascending : goal.returns-in-Err-clause-ascending
returns-in-Err-clause-ascending c =
    subst (IsStrictlySortedBy version_cmp) c.in-Err.ensures.absent
    (versions_in_order c.args.self.now c.args.stem.now (subst VersionsAscend c.self.view_is c.self.invariant.0.versions))
