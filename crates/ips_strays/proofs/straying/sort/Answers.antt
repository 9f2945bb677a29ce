use Rattle.std.proofs.Common.{◌≡◌, List, rules, sym, ◌∙◌, ap, subst}
use Rattle.std.specs.List.{dedup}
use Rattle.std.specs.List.Sorted.{IsStrictlySortedBy}
use Rattle.std.specs.Ordering.{nat_cmp}
use Rattle.std.specs.Cmp.Lexicographic.{slice_cmp}
use Rattle.std.proofs.lemmas.Fn.{dedup_same}
use Rattle.std.proofs.lemmas.List.Sorted.{answers_always}
use Rattle.ips_found.specs.declared.found.Thing.{Thing}
use Rattle.ips_found.specs.Found.{AreThings, thing_paths}
use Rattle.ips_after.specs.Lists.{listed}
use Rattle.ips_strays.proofs.Sorting.{earlier, earlier_ranks, found_moved, found_once, listed_moved, listed_once, same, sorted_once}
use Rattle.ips_strays.proofs.straying.sort.Goals as goal

pub returns-clause-order : goal.returns-clause-order
returns-clause-order c =
    let sorted = c.sort_by.new.self.items in
    let once : c.dedup_by.new.self.items ≡ dedup same sorted = dedup_same _ same _ (λ x y b f' x' y' k. search rules) sorted _ c.dedup_by.ensures.filtered in
    let up = c.in_ok-sort_by.ensures.sorted earlier earlier_ranks (answers_always _ _ _ (λ f a r q k. search rules)) in
    subst (λ (l : List Thing). IsStrictlySortedBy (slice_cmp nat_cmp) (thing_paths l)) (sym once) (sorted_once sorted up)

pub returns-clause-same : goal.returns-clause-same
returns-clause-same c = λ q.
    let sorted = c.sort_by.new.self.items in
    let once : c.dedup_by.new.self.items ≡ dedup same sorted = dedup_same _ same _ (λ x y b f' x' y' k. search rules) sorted _ c.dedup_by.ensures.filtered in
    ap (λ (l : List Thing). listed (thing_paths l) q) once ∙ listed_once sorted q ∙ listed_moved c.args.strays.now.items sorted q c.in_ok-sort_by.ensures.permutation

pub returns-clause-found : goal.returns-clause-found
returns-clause-found c = λ t all.
    let sorted = c.sort_by.new.self.items in
    let once : c.dedup_by.new.self.items ≡ dedup same sorted = dedup_same _ same _ (λ x y b f' x' y' k. search rules) sorted _ c.dedup_by.ensures.filtered in
    subst (AreThings t) (sym once) (found_once t sorted (found_moved t c.args.strays.now.items sorted c.in_ok-sort_by.ensures.permutation all))
