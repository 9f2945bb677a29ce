use Rattle.std.proofs.Common.{◌≡◌, rules, List, subst, ◌∙◌}
use Rattle.std.specs.Ordering.{is_lt}
use Rattle.std.specs.List.Sorted.{IsPermutation}
use Rattle.std.proofs.lemmas.Fn.{always_returns_same}
use Rattle.ips_aside.specs.declared.lost.Lost.{Lost}
use Rattle.ips_aside.specs.Lost.{comes_first, finding_order}
use Rattle.ips_aside.proofs.Ordered.{first_ranks}
use Rattle.ips_aside.proofs.finding.lost.Goals as goal

pub returns-clause-just : goal.returns-clause-just
returns-clause-just c = subst (λ (l : List Lost). IsPermutation l c.sort_by.new.self.items) (c.in_ok-gather.ensures ∙ search rules) c.in_ok-sort_by.ensures.permutation

pub returns-clause-order : goal.returns-clause-order
returns-clause-order c = c.in_ok-sort_by.ensures.sorted comes_first first_ranks (always_returns_same _ (λ a r. is_lt r ≡ is_lt (finding_order a.0.now.path.now.bytes a.1.0.now.path.now.bytes)) _ (λ a r q k. search rules))
