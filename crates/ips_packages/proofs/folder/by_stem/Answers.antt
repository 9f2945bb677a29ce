use Rattle.std.proofs.Common.{rules}
use Rattle.std.proofs.lemmas.List.Sorted.{answers_always}
use Rattle.ips_packages.proofs.Sorting.{before_stem, before_ranks, sorted_stems}
use Rattle.ips_packages.proofs.folder.by_stem.Goals as goal

pub returns-clause-order : goal.returns-clause-order
returns-clause-order c =
    let up = c.in_ok-sort_by.ensures.sorted before_stem before_ranks (answers_always _ _ _ (λ f a r q k. search rules)) in
    sorted_stems c.args.packages.now.items c.sort_by.new.self.items c.requires.order c.in_ok-sort_by.ensures.permutation up
