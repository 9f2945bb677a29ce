use Rattle.std.proofs.Common.{rules}
use Rattle.std.proofs.lemmas.List.Sorted.{answers_always}
use Rattle.std.specs.Ordering.{is_lt}
use Rattle.ips_packages.proofs.Sorting.{cmp_bytes, order_told}
use Rattle.ips_packages.proofs.folder.in_order.Goals as goal

pub returns : goal.returns
returns c = order_told c.args.paths.now c.is_sorted_by.result (c.is_sorted_by.ensures.cases (λ x y. is_lt (cmp_bytes x.bytes y.bytes)) (answers_always _ _ _ (λ f a r q k. search rules)))
