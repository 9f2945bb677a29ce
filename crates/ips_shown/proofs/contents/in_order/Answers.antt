use Rattle.std.specs.Cmp.Lexicographic.{nat_list_cmp_total, nat_list_eq_equiv, texts_ties}
use Rattle.std.proofs.lemmas.List.Filters.{dedup_is}
use Rattle.std.proofs.lemmas.List.Kept.{Contains-dedup, Contains-from_dedup, IsStrictlySortedBy-dedup}
use Rattle.std.proofs.lemmas.List.Sorted.{Contains-permutation, IsPermutation-sym}
use Rattle.std.proofs.lemmas.Slice.Eq.{bytes_eq-Decides}
use Rattle.ips_shown.proofs.contents.in_order.Goals as goal

pub returns-clause-order : goal.returns-clause-order
returns-clause-order c =
    rw (dedup_is _ _ _ c.dedup.ensures.filtered) (IsStrictlySortedBy-dedup nat_list_cmp_total texts_ties _ c.in_ok-sort.ensures.sorted)

pub returns-clause-each : goal.returns-clause-each
returns-clause-each c =
    let is = dedup_is _ _ _ c.dedup.ensures.filtered in
    let moved = c.in_ok-sort.ensures.permutation in
    λ text. (
      λ h. Contains-permutation _ _ text (IsPermutation-sym _ _ moved) (Contains-from_dedup _ _ text (rw is at h)),
      λ h. rw is (Contains-dedup nat_list_eq_equiv (λ x y e. (bytes_eq-Decides x y).0 e) _ text (Contains-permutation _ _ text moved h)),
    )
