use Rattle.std.proofs.Common.{◌≡◌, rules}
use Rattle.std.specs.Ordering.{is_lt}
use Rattle.std.proofs.lemmas.Result.{on_ok_weaker}
use Rattle.std.proofs.lemmas.Fn.{always_returns_same}
use Rattle.ips_conflict.specs.Key.{value_of}
use Rattle.ips_turnover.specs.Turnover.{name_cmp}
use Rattle.ips_turnover.proofs.Sorting.{sorted_is, names_ranked}
use Rattle.ips_turnover.proofs.comparing.order.Goals as goal

pub returns : goal.returns
returns c =
    let cmp = name_cmp (value_of c.args.key.now) in
    let o = names_ranked (value_of c.args.key.now) in
    let answers = always_returns_same _ (λ a r. is_lt r ≡ is_lt (cmp a.0.now a.1.0.now)) _ (λ a r q k. search rules) in
    on_ok_weaker c.sort_by.result (λ up. sorted_is cmp o c.args.actions.now.items c.sort_by.new.self.items (up (λ x y. is_lt (cmp x y)) o answers) (c.sort_by.ensures.stable (λ x y. is_lt (cmp x y)) o answers)) c.sort_by.ensures.sorted
