use Rattle.std.proofs.Common.{ap}
use Rattle.std.proofs.lemmas.Fn.{always_returns_same}
use Rattle.std.specs.Ordering.{nat_cmp}
use Rattle.std.specs.Cmp.Lexicographic.{slice_cmp}
use Rattle.ips_catalog.proofs.Searches.{searched_found, searched_absent}
use Rattle.ips_catalog.proofs.catalog.Catalog.search.Goals as goal

pub returns-clause-found : goal.returns-clause-found
returns-clause-found c =
    let facts = c.binary_search_by.ensures in
    let by_stem = facts.position (λ l. slice_cmp nat_cmp l.stem c.args.stem.now) (always_returns_same _ _ _ (λ a r g called. (called.met.1, ap (λ x. record { 0 = x }) called.met.0))) in
    rw (← c.self.view_is) (searched_found c.self.inside.packages.items c.args.stem.now c.self.invariant.0.stems c.binary_search_by.result (rw c.deref.ensures.value at facts.bound) (rw c.deref.ensures.value at by_stem))

pub returns-clause-absent : goal.returns-clause-absent
returns-clause-absent c =
    let facts = c.binary_search_by.ensures in
    let by_stem = facts.position (λ l. slice_cmp nat_cmp l.stem c.args.stem.now) (always_returns_same _ _ _ (λ a r g called. (called.met.1, ap (λ x. record { 0 = x }) called.met.0))) in
    rw (← c.self.view_is) (searched_absent c.self.inside.packages.items c.args.stem.now c.self.invariant.0.stems c.binary_search_by.result (rw c.deref.ensures.value at by_stem))
